-- Rows that number groups in turn: how many groups they leave, and their numbering read either way.
use Rattle.std.proofs.Common.{◌≡◌, ℕ, zero, suc, ◌+◌, ◌<◌, ◌≤◌, max, List, [], ◌∷◌, map, length, take, refl, ap, ◌∙◌, arith}
use Rattle.std.specs.List.{fold, reduce}
use Rattle.std.specs.Option.{unwrap_or}
use Rattle.std.specs.List.{AllByRecursion}
use Rattle.netlist.specs.Places.{place, groups, Numbered}
use Rattle.netlist.specs.Meaning.{Meaning, Sound, modules}
use Rattle.layers.specs.declared.strap.StrapLayer.{StrapLayer}
use Rattle.layers.specs.Rows.{regrouped, groups_in_turn, places_few}
use Rattle.layers.specs.Layered.{strap_meaning}

-- the greatest of the counts that end with each place of a row is how many groups there are
greatest_from : (row : List ℕ) (k : ℕ) → fold max k (map (λ group. group + 1) row) ≡ max k (groups row)
greatest_from [] k = omega arith
greatest_from (p ∷ ps) k = greatest_from ps (max k (p + 1)) ∙ omega arith

pub greatest_counted : (row : List ℕ) → unwrap_or (reduce max (map (λ group. group + 1) row)) 0 ≡ groups row
greatest_counted [] = refl
greatest_counted (p ∷ ps) = greatest_from ps (p + 1) ∙ omega arith

-- how many groups there are once the places are regrouped
pub regrouped_groups : (row : List ℕ) (places : List ℕ) (t : ℕ) → AllByRecursion (λ p. p < length row) places → Numbered t places
    → max (groups (take t row)) (groups (regrouped row places)) ≡ groups (take (max t (groups places)) row)
regrouped_groups row [] t inside w =
    let same : max t 0 ≡ t = omega arith in
    let kept : groups (take (max t 0) row) ≡ groups (take t row) = ap (λ j. groups (take j row)) same in
    omega arith
regrouped_groups row (p ∷ ps) t inside w =
    let rest = regrouped_groups row ps (max (suc p) t) inside.1 w.1 in
    let swapped : max (max (suc p) t) (groups ps) ≡ max t (max (suc p) (groups ps)) = omega arith in
    let same : groups (take (max (max (suc p) t) (groups ps)) row) ≡ groups (take (max t (max (suc p) (groups ps))) row) = ap (λ j. groups (take j row)) swapped in
    let more = groups_in_turn row t p w.0 inside.0 in
    omega arith

pub groups_few : (places : List ℕ) (t n : ℕ) → t + length places ≤ n → Numbered t places → groups places ≤ n
groups_few [] t n few w = omega arith
groups_few (p ∷ ps) t n few w = let low = w.0 in omega (arith, groups_few ps (max (suc p) t) n (omega arith) w.1)

pub numbered_in_turn : (row : List ℕ) (t : ℕ) → Numbered t row → (i : ℕ) → i < length row → place row i ≤ max t (groups (take i row))
numbered_in_turn [] t w i h = absurd (omega arith)
numbered_in_turn (p ∷ ps) t w zero h = omega (arith, w.0)
numbered_in_turn (p ∷ ps) t w (suc i) h = omega (arith, numbered_in_turn ps (max (suc p) t) w.1 i (omega arith))

pub in_turn_numbered : (row : List ℕ) (t : ℕ) → ((i : ℕ) → i < length row → place row i ≤ max t (groups (take i row))) → Numbered t row
in_turn_numbered [] t turn = tt
in_turn_numbered (p ∷ ps) t turn = (
  omega (arith, turn 0 (omega arith)),
  in_turn_numbered ps (max (suc p) t) (λ i h. omega (arith, turn (suc i) (omega arith))),
)

-- how many modules a strap layer has
pub strap_modules : {P N : Type 0} (below : N → Meaning P) (sound : (n : N) → Sound (below n)) (layer : StrapLayer N) (n count : ℕ)
    → n ≡ modules (below layer.below) → count ≡ groups (take n layer.row) → count ≡ modules (strap_meaning below layer)
strap_modules below sound layer n count all counted_is =
    let places = (below layer.below).places in
    let s = sound layer.below in
    let few = s.few_homes in
    let long = layer.long in
    let counted = regrouped_groups layer.row places 0 (places_few places 0 (length layer.row) (omega arith) s.numbered) s.numbered in
    let same : max 0 (groups places) ≡ groups places = omega arith in
    let taken : groups (take (max 0 (groups places)) layer.row) ≡ groups (take (groups places) layer.row) = ap (λ j. groups (take j layer.row)) same in
    let asked : groups (take n layer.row) ≡ groups (take (groups places) layer.row) = ap (λ j. groups (take j layer.row)) all in
    omega arith

pub modules_few : {P : Type 0} (m : Meaning P) → Sound m → modules m ≤ 64
modules_few m s = groups_few m.places 0 64 (omega (arith, s.few_homes)) s.numbered
