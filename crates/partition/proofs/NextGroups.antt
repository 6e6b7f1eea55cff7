-- The groups of each net's pins, once two groups are one.
use Rattle.std.proofs.Common.{◌≡◌, ℕ, zero, suc, ◌<◌, ◌≤◌, List, [], ◌∷◌, ◌++◌, length, map, take, drop, slice_index, Some, sym, refl, ap, ◌∙◌, subst, ap₂, ⊎_elim, arith}
use Rattle.std.specs.List.{slice_get, take-map}
use Rattle.std.proofs.lemmas.List.{get_or_past, get_or-take, get_or_append_left, length-take-le, map-append}
use Rattle.std.proofs.lemmas.Bool.{cases_lt}
use Rattle.std.proofs.lemmas.Bool.Decides.{nat_tests}
use Rattle.std.proofs.lemmas.Option.{slice_get_within}
use lib.ListN.{length-map}
use Rattle.price.specs.Kind.{Kind}
use Rattle.netlist.specs.Nets.{Net}
use Rattle.netlist.specs.Places.{place, placed}
use Rattle.netlist.specs.Meaning.{Meaning, own_nets}
use Rattle.netlist.specs.Changes.{united_place, united}
use Rattle.netlist.proofs.Numbering.{place_map}
use Rattle.cut.specs.Cuts.{has}
use Rattle.grouping.specs.Masks.{grouped, MasksOf, UnitedSet}
use Rattle.grouping.proofs.OwnNets.{grouped_length}

zero_stays : (a b : ℕ) → united_place a b 0 ≡ 0
zero_stays a b = grind (arith, nat_tests)

place_united : (a b v : ℕ) (row : List ℕ) → place (united a b row) v ≡ united_place a b (place row v)
place_united a b v row =
    ⊎_elim
    (place_map (united_place a b) row v)
    (λ h. get_or_past (united a b row) v 0 (omega (arith, length-map row (united_place a b))) ∙ sym (ap (united_place a b) (get_or_past row v 0 h) ∙ zero_stays a b))
    (cases_lt v (length row))

pins_united : (a b : ℕ) (row pins : List ℕ) → map (place (united a b row)) pins ≡ map (united_place a b) (map (place row) pins)
pins_united a b row [] = refl
pins_united a b row (p ∷ ps) = ap₂ (λ (x : ℕ) xs. x ∷ xs) (place_united a b p row) (pins_united a b row ps)

-- the net by the row before
net_before : {P : Type 0} (a b : ℕ) (row : List ℕ) (nets : List (Net P)) (i : ℕ) (net : Net P) → slice_get (placed (united a b row) nets) i ≡ Some net
    → (old : Net P) × (slice_get (placed row nets) i ≡ Some old) × (net.pins ≡ map (united_place a b) old.pins)
net_before a b row [] i net e = absurd cc
net_before {P} a b row (x ∷ nets) zero net e = (record { price = x.price; pins = map (place row) x.pins }, refl, sym (ap (λ (y : Net P). y.pins) same) ∙ pins_united a b row x.pins)
  where
    same : ◌≡◌ {A = Net P} (record { price = x.price; pins = map (place (united a b row)) x.pins }) net
    same = cc
net_before a b row (x ∷ nets) (suc i) net e = net_before a b row nets i net e

-- of sets of which the first n are united, whatever follows
first_united : {X : Type 0} (word : X → ℕ) (a b n : ℕ) (sets united rest : List X) → n ≤ length sets → length united ≡ length (take n sets)
    → ((i : ℕ) → i < length (take n sets) → UnitedSet a b (slice_index (map word (take n sets)) i) (slice_index (map word united) i))
    → (i : ℕ) → i < n → UnitedSet a b (slice_index (map word sets) i) (slice_index (map word (united ++ rest)) i)
first_united word a b n sets united rest inside long u i h =
    let there : i < length (take n sets) = omega (arith, h, length-take-le n sets inside) in
    subst (λ (w : ℕ). UnitedSet a b w (slice_index (map word (united ++ rest)) i)) (ap (λ words. slice_index words i) (sym (take-map word n sets)) ∙ get_or-take n (map word sets) i 0 h)
    (subst (UnitedSet a b (slice_index (map word (take n sets)) i))
    (sym (ap (λ words. slice_index words i) (map-append word united rest) ∙ get_or_append_left (map word united) (map word rest) 0 i (omega (arith, there, long, length-map united word))))
    (u i there))

masks_united : {P : Type 0} (k : Kind P) (m : Meaning P) (a b n : ℕ) (row words words' : List ℕ) → length m.nets ≤ n
    → ((i : ℕ) → i < n → UnitedSet a b (slice_index words i) (slice_index words' i)) → MasksOf words (grouped k m row) → MasksOf words' (grouped k m (united a b row))
unfolding grouped
masks_united {P} k m a b n row words words' few u g i net e v =
    let before = net_before a b row (own_nets k m) i net e in
    let old : Net P = before.0 in
    let there : i < length (grouped k m (united a b row)) = slice_get_within (grouped k m (united a b row)) i net e in
    (u i (omega (arith, there, grouped_length k m (united a b row), few))).united old.pins (g i old before.1) v ∙ ap (λ xs. has xs v) (sym before.2)

-- of sets of which the first n count
pub groups_united : {P X : Type 0} (word : X → ℕ) (k : Kind P) (m : Meaning P) (a b n : ℕ) (row next : List ℕ) (sets united_sets : List X) → next ≡ united a b row → length m.nets ≤ n → n ≤ length sets
    → length united_sets ≡ length (take n sets)
    → ((i : ℕ) → i < length (take n sets) → UnitedSet a b (slice_index (map word (take n sets)) i) (slice_index (map word united_sets) i))
    → MasksOf (map word sets) (grouped k m row) → MasksOf (map word (united_sets ++ drop n sets)) (grouped k m next)
groups_united word k m a b n row next sets united_sets e few inside long u nets =
    subst (λ r. MasksOf (map word (united_sets ++ drop n sets)) (grouped k m r)) (sym e)
    (masks_united k m a b n row (map word sets) (map word (united_sets ++ drop n sets)) few (first_united word a b n sets united_sets (drop n sets) inside long u) nets)
