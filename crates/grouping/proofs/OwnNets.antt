-- What holds of a netlist's own nets.
use Rattle.std.proofs.Common.{◌≡◌, ℕ, zero, suc, ◌+◌, ◌<◌, ◌≤◌, max, Bool, true, false, List, [], ◌∷◌, map, length, refl, ap, ◌∙◌, ap₂, arith}
use lib.ListN.{length-map}
use Rattle.std.specs.List.{AllByRecursion}
use Rattle.price.specs.Kind.{Kind}
use Rattle.netlist.specs.Nets.{Net, OnPins, price_at}
use Rattle.netlist.specs.Places.{place, groups, Numbered, placed}
use Rattle.netlist.specs.Meaning.{Meaning, Sound, homes, modules, zero_muted, own_nets}
use Rattle.cut.specs.Lawful.{unmarked}
use Rattle.cut.proofs.Groups.{placed_there, unmuted_there}
use Rattle.grouping.specs.Masks.{grouped}

groups_few : (t : ℕ) (row : List ℕ) → Numbered t row → groups row ≤ t + length row
groups_few t [] w = omega arith
groups_few t (p ∷ ps) w = omega (arith, groups_few (max (suc p) t) ps w.1, w.0)

module _ {P : Type 0} where
  pub modules_homes : (m : Meaning P) → Sound m → modules m ≤ homes m
  modules_homes m s = omega (arith, groups_few 0 m.places s.numbered)

  pub modules_few : (m : Meaning P) → Sound m → modules m ≤ 64
  modules_few m s = omega (arith, modules_homes m s, s.few_homes)

  placed_few_pins : (row : List ℕ) (nets : List (Net P)) → OnPins (λ pins. length pins ≤ 64) nets → OnPins (λ pins. length pins ≤ 64) (placed row nets)
  placed_few_pins row [] o = tt
  placed_few_pins row (net ∷ nets) o = (omega (arith, length-map net.pins (place row), o.0), placed_few_pins row nets o.1)

  placed_price_at : (row : List ℕ) (nets : List (Net P)) (i : ℕ) → price_at (placed row nets) i ≡ price_at nets i
  placed_price_at row [] i = refl
  placed_price_at row (net ∷ nets) zero = refl
  placed_price_at row (net ∷ nets) (suc i) = placed_price_at row nets i

  placed_own : (row : List ℕ) (nets : List (Net P)) (b : ℕ) → OnPins (AllByRecursion (λ pin. pin < b)) nets → ((p : ℕ) → p < b → place row p ≡ p) → placed row nets ≡ nets
  placed_own row [] b o f = refl
  placed_own row (net ∷ nets) b o f = ap₂ (λ x xs. record { price = net.price; pins = x } ∷ xs) (kept net.pins o.0) (placed_own row nets b o.1 f)
    where
      kept : (ps : List ℕ) → AllByRecursion (λ pin. pin < b) ps → map (place row) ps ≡ ps
      kept [] h = refl
      kept (p ∷ ps) h = ap₂ (λ (x : ℕ) xs. x ∷ xs) (f p h.0) (kept ps h.1)

  placed_below : (b g : ℕ) (row : List ℕ) (nets : List (Net P)) → ((i : ℕ) → i < b → place row i < g) → OnPins (AllByRecursion (λ pin. pin < b)) nets → OnPins (AllByRecursion (λ pin. pin < g)) (placed row nets)
  placed_below b g row [] f o = tt
  placed_below b g row (net ∷ nets) f o = (each net.pins o.0, placed_below b g row nets f o.1)
    where
      each : (ps : List ℕ) → AllByRecursion (λ pin. pin < b) ps → AllByRecursion (λ pin. pin < g) (map (place row) ps)
      each [] h = tt
      each (p ∷ ps) h = (f p h.0, each ps h.1)

  pub unmarked_there : (A : List ℕ → Type 0) (nets : List (Net P)) (marks : List Bool) → OnPins A nets → OnPins A (unmarked nets marks)
  unmarked_there A [] marks o = tt
  unmarked_there A (net ∷ nets) [] o = (o.0, unmarked_there A nets [] o.1)
  unmarked_there A (net ∷ nets) (true ∷ marks) o = unmarked_there A nets marks o.1
  unmarked_there A (net ∷ nets) (false ∷ marks) o = (o.0, unmarked_there A nets marks o.1)

module _ {P : Type 0} (k : Kind P) where
  zero_muted_length : (nets : List (Net P)) (marks : List Bool) → length (zero_muted k nets marks) ≡ length nets
  zero_muted_length [] marks = refl
  zero_muted_length (net ∷ nets) [] = ap suc (zero_muted_length nets [])
  zero_muted_length (net ∷ nets) (mark ∷ marks) = ap suc (zero_muted_length nets marks)

  pub own_length : (m : Meaning P) → length (own_nets k m) ≡ length m.nets
  unfolding own_nets
  own_length m = length-map (zero_muted k m.nets m.muted) _ ∙ zero_muted_length m.nets m.muted

  pub own_few_pins : (m : Meaning P) → Sound m → OnPins (λ pins. length pins ≤ 64) (own_nets k m)
  unfolding own_nets
  own_few_pins m s = placed_few_pins m.places (zero_muted k m.nets m.muted) (unmuted_there k (λ pins. length pins ≤ 64) m.nets m.muted s.few_pins)

  pub own_there : (m : Meaning P) → Sound m → OnPins (AllByRecursion (λ pin. pin < modules m)) (own_nets k m)
  unfolding own_nets
  own_there m s = placed_there m.places (zero_muted k m.nets m.muted) (unmuted_there k (AllByRecursion (λ pin. pin < homes m)) m.nets m.muted s.pins_there)

  pub grouped_length : (m : Meaning P) (row : List ℕ) → length (grouped k m row) ≡ length m.nets
  unfolding grouped
  grouped_length m row = length-map (own_nets k m) _ ∙ own_length m

  pub grouped_price_at : (m : Meaning P) (row : List ℕ) (i : ℕ) → price_at (grouped k m row) i ≡ price_at (own_nets k m) i
  unfolding grouped
  grouped_price_at m row i = placed_price_at row (own_nets k m) i

  pub grouped_own : (m : Meaning P) (row : List ℕ) → Sound m → ((p : ℕ) → p < 64 → place row p ≡ p) → grouped k m row ≡ own_nets k m
  unfolding grouped
  grouped_own m row s f = placed_own row (own_nets k m) (modules m) (own_there m s) (λ p h. f p (omega (arith, modules_few m s)))

  pub grouped_there : (m : Meaning P) (g : ℕ) (row : List ℕ) → Sound m → ((i : ℕ) → i < modules m → place row i < g) → OnPins (AllByRecursion (λ pin. pin < g)) (grouped k m row)
  unfolding grouped
  grouped_there m g row s f = placed_below (modules m) g row (own_nets k m) f (own_there m s)
