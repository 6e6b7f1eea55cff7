-- The rounds over home modules and those over modules note the same splits.
use Rattle.std.proofs.Common.{◌≡◌, ℕ, zero, suc, pred, ◌<◌, Bool, true, false, cond, List, [], ◌∷◌, map, length, Some, None, sym, refl, ap, ◌∙◌, subst, ap₂, arith}
use native.Mathlib.Nat.{suc_inj}
use lib.ListN.{length-map}
use Rattle.std.specs.List.{AllByRecursion}
use Rattle.price.specs.Kind.{Kind, Laws}
use Rattle.netlist.specs.Nets.{Net, OnPins}
use Rattle.netlist.specs.Places.{place, groups, Numbered, placed}
use Rattle.netlist.specs.Meaning.{modules, zero_muted, own_nets}
use Rattle.netlist.specs.Changes.{united_place, united}
use Rattle.netlist.proofs.Numbering.{place_below_groups, place_map}
use Rattle.cut.specs.Cuts.{split_price, alone}
use Rattle.cut.specs.Lawful.{Split}
use Rattle.cut.specs.Orders.{order, ending}
use Rattle.cut.specs.Rounds.{round_ending, parting, noted, cheaper, cheapest_after, cheapest_of, split_of}
use Rattle.cut.specs.ModuleRounds.{counted_ending, counted, SameByPlaces, RoundsOverModules}
use Rattle.cut.proofs.Groups.{unmuted_there}
use Rattle.cut.proofs.RoundsFind.{next_row, round_united}

-- the row gives each home module the group that `over` gives its place
pub record Over (places row over : List ℕ) : Type 0 where
  pub as_long : length row ≡ length places
  pub same_group : (i : ℕ) → i < length places → place row i ≡ place over (place places i)
  pub inside : (i : ℕ) → i < length places → place places i < length over

united_over : (a b : ℕ) (places row over : List ℕ) → Over places row over → Over places (united a b row) (united a b over)
united_over a b places row over o = record {
  as_long = length-map row (united_place a b) ∙ o.as_long;
  same_group = λ i h.
      place_map (united_place a b) row i (omega (arith, o.as_long))
      ∙ (ap (united_place a b) (o.same_group i h) ∙ sym (place_map (united_place a b) over (place places i) (o.inside i h)));
  inside = λ i h. omega (arith, o.inside i h, length-map over (united_place a b));
}

placed_over : {P : Type 0} (places row over : List ℕ) → Over places row over → (nets : List (Net P)) → OnPins (AllByRecursion (λ pin. pin < length places)) nets
    → placed row nets ≡ placed over (placed places nets)
placed_over places row over o [] there = refl
placed_over places row over o (net ∷ nets) there =
    ap₂ (λ x xs. record { price = net.price; pins = x } ∷ xs) (pins net.pins there.0) (placed_over places row over o nets there.1)
  where
    pins : (ps : List ℕ) → AllByRecursion (λ pin. pin < length places) ps → map (place row) ps ≡ map (place over) (map (place places) ps)
    pins [] h = refl
    pins (p ∷ ps) h = ap₂ (λ x xs. x ∷ xs) (o.same_group p h.0) (pins ps h.1)

module _ {P : Type 0} (k : Kind P) (places : List ℕ) where
  -- two lists of splits that are the same by places, one by one
  abbrev EachSame : List (Split P) → List (Split P) → Type 0
  EachSame [] [] = Unit {0}
  EachSame [] (y ∷ ys) = ⊥
  EachSame (x ∷ xs) [] = ⊥
  EachSame (x ∷ xs) (y ∷ ys) = SameByPlaces places x y × EachSame xs ys

  cheaper_same : (a x b y : Split P) → SameByPlaces places a x → SameByPlaces places b y → SameByPlaces places (cheaper k a b) (cheaper k x y)
  cheaper_same a x b y s t =
      subst (λ z. SameByPlaces places (cheaper k a b) (cond z y x)) (ap₂ (λ p q. k.less p q) t.same_price s.same_price) (go (k.less b.price a.price))
    where
      go : (c : Bool) → SameByPlaces places (cond c b a) (cond c y x)
      go true = t
      go false = s

  cheapest_same : (a x : Split P) (bs ys : List (Split P)) → SameByPlaces places a x → EachSame bs ys → SameByPlaces places (cheapest_after k a bs) (cheapest_after k x ys)
  cheapest_same a x [] [] s t = s
  cheapest_same a x [] (y ∷ ys) s t = absurd t
  cheapest_same a x (b ∷ bs) [] s t = absurd t
  cheapest_same a x (b ∷ bs) (y ∷ ys) s t = cheapest_same (cheaper k a b) (cheaper k x y) bs ys (cheaper_same a x b y s t.0) t.1

  found_same : (xs ys : List (Split P)) → EachSame xs ys → (s t : Split P) → cheapest_of k xs ≡ Some s → cheapest_of k ys ≡ Some t → SameByPlaces places s t
  found_same [] ys e s t p q = absurd (nothing p)
    where
      nothing : None ≡ Some s → ⊥
      nothing h = let z : ◌≡◌ {A = ℕ} 0 1 = cc in omega arith
  found_same (x ∷ xs) [] e s t p q = absurd e
  found_same (x ∷ xs) (y ∷ ys) e s t p q =
      let a : cheapest_after k x xs ≡ s = cc in
      let b : cheapest_after k y ys ≡ t = cc in
      subst (λ z. SameByPlaces places z t) a (subst (λ z. SameByPlaces places (cheapest_after k x xs) z) b (cheapest_same x y xs ys e.0 e.1))

module _ {P : Type 0} (k : Kind P) (l : Laws k) (places : List ℕ) (nets : List (Net P)) (there : OnPins (AllByRecursion (λ pin. pin < length places)) nets) where
  parting_same : (row over : List ℕ) (group : ℕ) → Over places row over → SameByPlaces places (parting k nets row group) (parting k (placed places nets) over group)
  parting_same row over group o = record {
    same_price = ap (split_price k (alone group)) (placed_over places row over o nets there);
    same_sides = λ i h. ap (alone group) (o.same_group i h);
  }

  ending_same : (n : ℕ) (row over : List ℕ) → groups row ≡ n → Over places row over → round_ending k nets row ≡ counted_ending k (placed places nets) n over
  ending_same n row over g o = ap₂ (λ x z. ending (order k x z)) (placed_over places row over o nets there) g

  noted_same : (n : ℕ) (row over : List ℕ) → Numbered 0 row → groups row ≡ suc n → Over places row over
      → EachSame k places (noted k nets n row) (counted k (placed places nets) n over)
  unfolding noted counted
  noted_same zero row over w g o = tt
  noted_same (suc n) row over w g o =
      let end = round_ending k nets row in
      let u = round_united k l nets row w (omega arith) in
      subst
      (λ e. EachSame k places (parting k nets row end.last ∷ noted k nets n (united end.next_to_last end.last row))
      (parting k (placed places nets) over e.last ∷ counted k (placed places nets) n (united e.next_to_last e.last over)))
      (ending_same (suc (suc n)) row over g o) (
        parting_same row over end.last o,
        noted_same n (next_row k l nets row) (united end.next_to_last end.last over) u.numbered (suc_inj (u.one_fewer ∙ g))
            (united_over end.next_to_last end.last places row over o),
      )

pub rounds_over_modules_lem : {P : Type 0} (k : Kind P) → Laws k → RoundsOverModules k
unfolding split_of own_nets
rounds_over_modules_lem {P} k l m row n s g long own split by_modules found counted_found =
    let nets = zero_muted k m.nets m.muted in
    let there = unmuted_there k (AllByRecursion (λ pin. pin < length m.places)) m.nets m.muted s.pins_there in
    let below : (i : ℕ) → i < length m.places → place m.places i < modules m = place_below_groups m.places in
    let start : Over m.places m.places row = record {
      as_long = refl;
      same_group = λ i h. sym (own (place m.places i) (below i h));
      inside = λ i h. omega (arith, below i h);
    } in
    found_same k m.places (noted k nets (suc n) m.places) (counted k (placed m.places nets) (suc n) row)
    (noted_same k l m.places nets there (suc n) m.places row s.numbered g start)
    split by_modules
    (subst (λ z. cheapest_of k (noted k nets (pred z) m.places) ≡ Some split) g found)
    counted_found
