-- A netlist's nets with each pin replaced once more, and what is asked of them.
use Rattle.std.proofs.Common.{◌≡◌, ℕ, zero, suc, ◌<◌, Bool, List, [], ◌∷◌, map, length, Some, None, Option, sym, refl, ap, ◌∙◌, subst, ap₂, arith}
use lib.ListN.{length-map}
use Rattle.std.specs.Option.{option_map}
use Rattle.std.specs.List.{AllByRecursion, slice_get}
use Rattle.std.proofs.lemmas.Option.{none-some, slice_get-map}
use Rattle.price.specs.Kind.{Kind}
use Rattle.netlist.specs.Nets.{Net, OnPins, pin_count_at, pin_at, price_at}
use Rattle.netlist.specs.Places.{place, placed}
use Rattle.netlist.specs.Meaning.{Meaning, Sound, zero_muted, own_nets}
use Rattle.netlist.proofs.Numbering.{place_map}
use Rattle.layers.specs.Rows.{regrouped, places_few}
use Rattle.layers.specs.Layered.{strap_meaning}
use Rattle.layers.proofs.Nth.{nth_all}
use Rattle.layers.specs.declared.strap.StrapLayer.{StrapLayer}

pins_twice : (row places pins : List ℕ) → AllByRecursion (λ pin. pin < length places) pins → map (place (regrouped row places)) pins ≡ map (place row) (map (place places) pins)
pins_twice row places [] inside = refl
pins_twice row places (pin ∷ pins) inside = ap₂ ◌∷◌ (place_map (place row) places pin inside.0) (pins_twice row places pins inside.1)

module _ {P : Type 0} where
  zero_muted_pins : (test : List ℕ → Type 0) (k : Kind P) (nets : List (Net P)) (marks : List Bool) → OnPins test nets → OnPins test (zero_muted k nets marks)
  zero_muted_pins test k [] marks all = tt
  zero_muted_pins test k (net ∷ nets) [] all = (all.0, zero_muted_pins test k nets [] all.1)
  zero_muted_pins test k (net ∷ nets) (mark ∷ marks) all = (all.0, zero_muted_pins test k nets marks all.1)

  placed_twice : (row places : List ℕ) (nets : List (Net P)) → OnPins (AllByRecursion (λ pin. pin < length places)) nets → placed (regrouped row places) nets ≡ placed row (placed places nets)
  placed_twice row places [] inside = refl
  placed_twice row places (net ∷ nets) inside =
      ap₂ (λ pins rest. record { price = net.price; pins = pins } ∷ rest) (pins_twice row places net.pins inside.0) (placed_twice row places nets inside.1)

  pub placed_pin_count : (row : List ℕ) (nets : List (Net P)) (n : ℕ) → pin_count_at (placed row nets) n ≡ pin_count_at nets n
  placed_pin_count row [] n = refl
  placed_pin_count row (net ∷ nets) zero = ap Some (length-map net.pins (place row))
  placed_pin_count row (net ∷ nets) (suc n) = placed_pin_count row nets n

  pub placed_pin : (row : List ℕ) (nets : List (Net P)) (n j : ℕ) → pin_at (placed row nets) n j ≡ option_map (place row) (pin_at nets n j)
  placed_pin row [] n j = refl
  placed_pin row (net ∷ nets) zero j = slice_get-map (place row) net.pins j
  placed_pin row (net ∷ nets) (suc n) j = placed_pin row nets n j

  pub placed_price : (row : List ℕ) (nets : List (Net P)) (n : ℕ) → price_at (placed row nets) n ≡ price_at nets n
  placed_price row [] n = refl
  placed_price row (net ∷ nets) zero = refl
  placed_price row (net ∷ nets) (suc n) = placed_price row nets n

-- what a strap layer answers, by the answer below
module _ {P N : Type 0} (below : N → Meaning P) (sound : (n : N) → Sound (below n)) (k : Kind P) (layer : StrapLayer N) where
  pub strap_place : (home : ℕ) (p : Option ℕ) → p ≡ slice_get (below layer.below).places home → option_map (place layer.row) p ≡ slice_get (strap_meaning below layer).places home
  strap_place home p e = ap (option_map (place layer.row)) e ∙ sym (slice_get-map (place layer.row) (below layer.below).places home)

  -- its nets are the nets below with each pin replaced by its group
  strap_nets : own_nets k (strap_meaning below layer) ≡ placed layer.row (own_nets k (below layer.below))
  unfolding own_nets
  strap_nets =
      let m = below layer.below in
      placed_twice layer.row m.places (zero_muted k m.nets m.muted)
      (zero_muted_pins (AllByRecursion (λ pin. pin < length m.places)) k m.nets m.muted (sound layer.below).pins_there)

  pub strap_pin_count : (n : ℕ) (count : Option ℕ) → count ≡ pin_count_at (own_nets k (below layer.below)) n
      → count ≡ pin_count_at (own_nets k (strap_meaning below layer)) n
  strap_pin_count n count e = e ∙ sym (ap (λ nets. pin_count_at nets n) strap_nets ∙ placed_pin_count layer.row (own_nets k (below layer.below)) n)

  pub strap_pin : (n j : ℕ) (pin : Option ℕ) → pin ≡ pin_at (own_nets k (below layer.below)) n j
      → option_map (place layer.row) pin ≡ pin_at (own_nets k (strap_meaning below layer)) n j
  strap_pin n j pin e =
      ap (option_map (place layer.row)) e
      ∙ sym (ap (λ nets. pin_at nets n j) strap_nets ∙ placed_pin layer.row (own_nets k (below layer.below)) n j)

  pub strap_price : (n : ℕ) (price : Option P) → price ≡ price_at (own_nets k (below layer.below)) n
      → price ≡ price_at (own_nets k (strap_meaning below layer)) n
  strap_price n price e = e ∙ sym (ap (λ nets. price_at nets n) strap_nets ∙ placed_price layer.row (own_nets k (below layer.below)) n)

-- every place is below 64
module _ {P : Type 0} (m : Meaning P) (sound : Sound m) where
  few : AllByRecursion (λ p. p < 64) m.places
  few = places_few m.places 0 64 (omega (arith, sound.few_homes)) sound.numbered

  pub place_low : (home p : ℕ) → Some p ≡ slice_get m.places home → p < 64
  place_low home p e = nth_all (λ q. q < 64) m.places home p few e

  low_anywhere : (places : List ℕ) (i : ℕ) → AllByRecursion (λ p. p < 64) places → place places i < 64
  low_anywhere [] i all = omega arith
  low_anywhere (p ∷ ps) zero all = all.0
  low_anywhere (p ∷ ps) (suc i) all = low_anywhere ps i all.1

  low_mapped : (o : Option ℕ) (p : ℕ) → Some p ≡ option_map (place m.places) o → p < 64
  low_mapped None p e = absurd (none-some p (sym e))
  low_mapped (Some i) p e = let same : place m.places i ≡ p = cc in subst (λ q. q < 64) same (low_anywhere m.places i few)

  pub pin_low : (k : Kind P) (n j p : ℕ) → Some p ≡ pin_at (own_nets k m) n j → p < 64
  unfolding own_nets
  pin_low k n j p e =
      let nets = zero_muted k m.nets m.muted in
      low_mapped (pin_at nets n j) p (e ∙ placed_pin m.places nets n j)
