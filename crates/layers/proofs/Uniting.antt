-- Groups united in a strap layer's row, and what that makes of the layer's meaning.
use Rattle.std.proofs.Common.{◌≡◌, ℕ, zero, suc, ◌<◌, ◌≤◌, eqb, List, [], ◌∷◌, length, take, None, Ok, sym, refl, ap, ◌∙◌, subst, ap₂, arith}
use lib.ListN.{length-map}
use Rattle.std.specs.List.{AllByRecursion}
use Rattle.std.proofs.lemmas.Bool.{ne_eqb, cond-false}
use Rattle.std.proofs.lemmas.Bool.Decides.{nat_tests}
use Rattle.netlist.specs.Places.{place, groups, Numbered}
use Rattle.netlist.specs.Meaning.{Meaning, Sound, homes}
use Rattle.netlist.specs.Changes.{united_place, united, strapped_row, strapped}
use Rattle.netlist.specs.Uniting.{United}
use Rattle.netlist.proofs.Numbering.{place_map, place_below_groups, uniting}
use Rattle.layers.specs.declared.strap.StrapLayer.{StrapLayer}
use Rattle.layers.specs.Rows.{InTurn, regrouped, groups_more, places_few}
use Rattle.layers.specs.Layered.{strap_meaning, strap_sound}
use Rattle.layers.specs.Refusals.{strap_fault, Ends}
use Rattle.layers.proofs.Regrouping.{numbered_in_turn, in_turn_numbered}

-- each module a group of its own
module _ (row : List ℕ) (n : ℕ) (long : length row ≡ n) (alone : (k : ℕ) → k < n → place row k ≡ k) where
  alone_groups : (i : ℕ) → i ≤ n → groups (take i row) ≡ i
  alone_groups zero h = refl
  alone_groups (suc i) h = omega (arith, groups_more row i (omega arith), alone i (omega arith), alone_groups i (omega arith))

  pub alone_in_turn : InTurn row
  alone_in_turn i h = omega (arith, alone i (omega arith), alone_groups i (omega arith))

  pub alone_regrouped : (places : List ℕ) → AllByRecursion (λ p. p < n) places → regrouped row places ≡ places
  alone_regrouped [] inside = refl
  alone_regrouped (p ∷ ps) inside = ap₂ ◌∷◌ (alone p inside.0) (alone_regrouped ps inside.1)

pub united_in_turn : (row : List ℕ) (v w : ℕ) → InTurn row → v < groups row → w < groups row → (v ≡ w → ⊥) → InTurn (united v w row)
united_in_turn row v w turn hv hw apart i h =
    let numbered : Numbered 0 row = in_turn_numbered row 0 (λ j l. omega (arith, turn j l)) in
    omega (arith, numbered_in_turn (united v w row) 0 (uniting v w row numbered hv hw apart).numbered i h)

regrouped_united : (row : List ℕ) (v w : ℕ) (places : List ℕ) → AllByRecursion (λ p. p < length row) places
    → regrouped (united v w row) places ≡ united v w (regrouped row places)
regrouped_united row v w [] inside = refl
regrouped_united row v w (p ∷ ps) inside = ap₂ ◌∷◌ (place_map (united_place v w) row p inside.0) (regrouped_united row v w ps inside.1)

module _ {P : Type 0} (a b : ℕ) (m : Meaning P) (free : strap_fault a b m ≡ None) where
  pub strapped_first : a < homes m
  strapped_first = grind (arith, nat_tests)

  pub strapped_second : b < homes m
  strapped_second = grind (arith, nat_tests)

  pub strapped_apart : place m.places a ≡ place m.places b → ⊥
  strapped_apart same = grind (arith, nat_tests)

module _ {P N : Type 0} (below : N → Meaning P) (sound : (n : N) → Sound (below n)) (old : StrapLayer N) where
  inside : AllByRecursion (λ p. p < length old.row) (below old.below).places
  inside =
      let s = sound old.below in
      places_few (below old.below).places 0 (length old.row) (omega (arith, s.few_homes, old.long)) s.numbered

  -- a place of the layer is a group of its row
  pub place_is_group : (home : ℕ) → home < homes (strap_meaning below old) → place (strap_meaning below old).places home < groups old.row
  place_is_group home there = groups_all (below old.below).places home inside (subst (λ n. home < n) (length-map (below old.below).places (place old.row)) there)
    where
      groups_all : (places : List ℕ) (i : ℕ) → AllByRecursion (λ p. p < length old.row) places → i < length places → place (regrouped old.row places) i < groups old.row
      groups_all [] i within h = absurd (omega arith)
      groups_all (p ∷ ps) zero within h = place_below_groups old.row p within.0
      groups_all (p ∷ ps) (suc i) within h = groups_all ps i within.1 (omega arith)

  abbrev StrappedWith : ℕ → ℕ → List ℕ → Type 0
  StrappedWith a b row =
      let m = strap_meaning below old in
      let places = regrouped row (below old.below).places in
      (strap_fault a b m ≡ None) × (◌≡◌ {A = Meaning P} (record { places = places; nets = m.nets; muted = m.muted }) (strapped a b m))
      × United (place m.places a) (place m.places b) m.places places

  module _ (a b v w : ℕ) (ends : Ends a b (strap_meaning below old) (Ok (v, w))) where
    pub united_row_in_turn : (row : List ℕ) → row ≡ united v w old.row → (length row ≡ 64) × InTurn row
    united_row_in_turn row row_united =
        let m = strap_meaning below old in (
          ap length row_united ∙ length-map old.row (united_place v w) ∙ old.long,
          subst InTurn (sym row_united) (united_in_turn old.row v w old.numbered
              (subst (λ p. p < groups old.row) (sym ends.1) (place_is_group a (strapped_first a b m ends.0)))
              (subst (λ p. p < groups old.row) (sym ends.2) (place_is_group b (strapped_second a b m ends.0)))
              (λ same. strapped_apart a b m ends.0 (sym ends.1 ∙ same ∙ ends.2))),
        )

    -- the meaning with the new row is the strapped one
    pub strap_done : (row : List ℕ) → row ≡ united v w old.row → StrappedWith a b row
    strap_done row row_united =
        let m = strap_meaning below old in
        let pa = place m.places a in
        let pb = place m.places b in
        let apart = strapped_apart a b m ends.0 in
        let groups_united : United pa pb m.places (united pa pb m.places) =
        uniting pa pb m.places (strap_sound below sound old).numbered
        (place_below_groups m.places a (strapped_first a b m ends.0)) (place_below_groups m.places b (strapped_second a b m ends.0)) apart in
        let places_united : regrouped row (below old.below).places ≡ united pa pb m.places =
        ap (λ r. regrouped r (below old.below).places) row_united
        ∙ regrouped_united old.row v w (below old.below).places inside
        ∙ ap₂ (λ p q. united p q m.places) ends.1 ends.2 in
        let strapped_is : united pa pb m.places ≡ strapped_row a b m.places =
        sym (cond-false (eqb pa pb) m.places (united pa pb m.places) (ne_eqb pa pb apart)) in (
          ends.0,
          ap (λ places. record { places = places; nets = m.nets; muted = m.muted }) (places_united ∙ strapped_is),
          subst (United pa pb m.places) (sym places_united) groups_united,
        )
