-- What a round notes and leaves, and what the rounds' loop keeps.
use Rattle.std.proofs.Common.{◌≡◌, ℕ, suc, ◌-◌, ◌<◌, ◌≤◌, Bool, true, false, cond, List, [], ◌∷◌, length, get_or, drop, Some, sym, refl, ap, ◌∙◌, subst, ap₂, ⊎_elim, arith}
use native.Mathlib.Nat.{suc_inj}
use lib.ListN.{length-map}
use Rattle.std.proofs.lemmas.List.{get_or_past}
use Rattle.std.proofs.lemmas.Bool.{cases_lt}
use Rattle.std.proofs.lemmas.Bool.Decides.{nat_tests}
use Rattle.moduleset.specs.Words.{has as is_in}
use Rattle.price.specs.Kind.{Kind, Laws}
use Rattle.netlist.specs.Nets.{Net}
use Rattle.netlist.specs.Places.{place, placed}
use Rattle.netlist.specs.Meaning.{Meaning, Sound, modules, own_nets}
use Rattle.netlist.specs.Changes.{united_place, united}
use Rattle.netlist.proofs.Numbering.{place_map}
use Rattle.netlist.proofs.UnitedPlaces.{united_below}
use Rattle.cut.specs.Cuts.{split_price, alone}
use Rattle.cut.specs.Lawful.{Split}
use Rattle.cut.specs.Orders.{order, Ending, ending, ending_after}
use Rattle.cut.specs.Rounds.{cheaper, cheapest_after, cheapest_of}
use Rattle.cut.specs.ModuleRounds.{counted_ending, counted}
use Rattle.cut.proofs.OrderFound.{order_is, length_order}
use Rattle.cut.proofs.OrderSteps.{last_at}
use Rattle.cut.proofs.LastTwo.{TwoApart, order_two_apart}
use Rattle.grouping.specs.Masks.{grouped}
use Rattle.grouping.proofs.OwnNets.{modules_few}
use Rattle.partition.specs.declared.groups.Groups.{Groups}
use Rattle.partition.specs.declared.round.RoundEnd.{RoundEnd}
use Rattle.partition.specs.Orders.{last_price}
use Rattle.partition.specs.Rounds.{by_set, SameSplit, GroupRow, EachAlone, round_noted, round_row, RoundMade, FoundOver}
use Rattle.partition.proofs.Cells.{cleared_later}

next_to_last_in : (before : List ℕ) (u v : ℕ) (rest : List ℕ) → (ending_after before u v rest).next_to_last ≡ get_or (u ∷ v ∷ rest) (length rest) 0
next_to_last_in before u v [] = refl
next_to_last_in before u v (w ∷ ws) = next_to_last_in (u ∷ before) v w ws

next_to_last_at : (n : ℕ) (list : List ℕ) → length list ≡ suc (suc n) → (ending list).next_to_last ≡ get_or list n 0
next_to_last_at n [] e = absurd (omega arith)
next_to_last_at n (u ∷ []) e = absurd (omega arith)
next_to_last_at n (u ∷ v ∷ vs) e = next_to_last_in [] u v vs ∙ ap (λ z. get_or (u ∷ v ∷ vs) z 0) (suc_inj (suc_inj e))

-- the last two of the bytes that are the order of a round's groups
module _ {P : Type 0} (k : Kind P) (l : Laws k) (m : Meaning P) (row bytes : List ℕ) (count : ℕ) (two : 1 < count) (written : bytes ≡ order k (grouped k m row) count) where
  ending_is : ending bytes ≡ counted_ending k (own_nets k m) count row
  unfolding grouped
  ending_is = ap ending written

  long : length bytes ≡ count
  long = ap length written ∙ length_order k l (grouped k m row) count

  last_is : get_or bytes (length bytes - 1) 0 ≡ (counted_ending k (own_nets k m) count row).last
  last_is =
      let at : length bytes - 1 ≡ suc (count - 2) = omega (arith, long) in
      ap (λ (x : ℕ). get_or bytes x 0) at ∙ sym (last_at (count - 2) bytes (omega (arith, long))) ∙ ap (λ z. z.last) ending_is

  next_to_last_is : get_or bytes (length bytes - 2) 0 ≡ (counted_ending k (own_nets k m) count row).next_to_last
  next_to_last_is = sym (next_to_last_at (length bytes - 2) bytes (omega (arith, long))) ∙ ap (λ z. z.next_to_last) ending_is

  price_is : last_price k (grouped k m row) bytes ≡ (round_noted k (own_nets k m) count row).price
  unfolding grouped
  price_is = ap (λ z. split_price k (alone z.last) (placed row (own_nets k m))) ending_is

  pub noted_is : (set : ℕ) (p : P) → p ≡ last_price k (grouped k m row) bytes
      → ((v : ℕ) → v < 64 → is_in set v ≡ alone (get_or bytes (length bytes - 1) 0) (place row v)) → SameSplit (by_set set p) (round_noted k (own_nets k m) count row)
  noted_is set p priced sides = record {
    same_price = priced ∙ price_is;
    same_sides = λ v h. sides v h ∙ ap (λ (x : ℕ). alone x (place row v)) last_is;
  }

  pub next_is : (next : List ℕ) → next ≡ united (get_or bytes (length bytes - 2) 0) (get_or bytes (length bytes - 1) 0) row → next ≡ round_row k (own_nets k m) count row
  next_is next e = e ∙ ap₂ (λ (x : ℕ) (y : ℕ). united x y row) next_to_last_is last_is

-- a round made of a netlist, groups and their count, by those that it was asked to be made of
pub as_asked : {N P : Type 0} {k : Kind P} (means : N → Meaning P) {n n' : N} {g g' : ℕ} {groups groups' : Groups} {cells cells' : List P} {end : RoundEnd P}
    → n ≡ n' → g ≡ g' → groups ≡ groups' → RoundMade k (means n) g groups.row cells cells' end → RoundMade k (means n') g' groups'.row cells cells' end
as_asked {k = k} means {n' = n'} {g = g} {g' = g'} {groups = groups} {cells = cells} {cells' = cells'} {end = end} e f h made =
    subst (λ x. RoundMade k (means n') g' x.row cells cells' end) h
    (subst (λ (x : ℕ). RoundMade k (means n') x groups.row cells cells' end) f (subst (λ x. RoundMade k (means x) g groups.row cells cells' end) e made))

-- each module alone is a group of its own
pub alone_row : (m count : ℕ) (row : List ℕ) → m ≤ 64 → count ≡ m → length row ≡ 64 → ((v : ℕ) → v < 64 → place row v ≡ v) → GroupRow m count row
alone_row m count row few e long own =
    record {
      long = long;
      small = λ v. ⊎_elim (λ h. omega (arith, own v h)) (λ h. omega (arith, get_or_past row v 0 (omega arith))) (cases_lt v 64);
      below = λ v h. subst (λ (x : ℕ). x < count) (sym (own v (omega arith))) (omega arith);
    }

united_small : (a b p : ℕ) → a < 64 → b < 64 → p < 64 → united_place a b p < 64
united_small a b p h i j = grind (arith, nat_tests)

-- the row after a round over one group more
pub row_after : {P : Type 0} (k : Kind P) → Laws k → (nets : List (Net P)) (m g left : ℕ) (row next : List ℕ) → 1 < g → g ≤ 64 → m ≤ 64 → suc left ≡ g → GroupRow m g row
    → next ≡ round_row k nets g row → GroupRow m left next
row_after k l nets m g left row next two few mm e r f =
    let end : Ending = counted_ending k nets g row in
    let a : ℕ = end.next_to_last in
    let b : ℕ = end.last in
    let d : TwoApart g end = order_two_apart k (placed row nets) g two (order k (placed row nets) g) (order_is k l (placed row nets) g) in
    let long : length (united a b row) ≡ 64 = length-map row (united_place a b) ∙ r.long in
    let at : (v : ℕ) → v < 64 → place (united a b row) v ≡ united_place a b (place row v) = λ v h. place_map (united_place a b) row v (omega (arith, r.long)) in
    subst (GroupRow m left) (sym f) (record {
      long = long;
      small = λ v.
          ⊎_elim
          (λ h. subst (λ (x : ℕ). x < 64) (sym (at v h)) (united_small a b (place row v) (omega (arith, d.next_there)) (omega (arith, d.last_there)) (r.small v)))
          (λ h. subst (λ (x : ℕ). x < 64) (sym (get_or_past (united a b row) v 0 (omega (arith, long)))) (omega arith))
          (cases_lt v 64);
      below = λ v h.
          subst (λ (x : ℕ). x < left) (sym (at v (omega arith)))
          (united_below a b left (place row v) (omega (arith, d.next_there)) (omega (arith, d.last_there)) d.differ (omega (arith, r.below v h)));
    })

-- What a round over one group more leaves: the row once its last two are united, and the cells past those of all modules.
pub round_leaves : {P : Type 0} (k : Kind P) → Laws k → (m : Meaning P) → Sound m → (count g : ℕ) (row : List ℕ) (cells cells' start : List P) (end : RoundEnd P)
    → count ≡ modules m → 1 < g → g ≤ count → count ≤ length cells → GroupRow (modules m) g row → drop count cells ≡ drop count start → RoundMade k m g row cells cells' end
    → GroupRow (modules m) (g - 1) (united end.next_to_last end.last row) × (drop count cells' ≡ drop count start)
round_leaves k l m s count g row cells cells' start end all two inside room r later made =
    let few : modules m ≤ 64 = modules_few m s in (
      row_after k l (own_nets k m) (modules m) g (g - 1) row (united end.next_to_last end.last row) two (omega arith) few (omega arith) r made.united,
      cleared_later k g count cells cells' inside (omega arith) made.zeroed ∙ later,
    )

module _ {P : Type 0} (k : Kind P) (nets : List (Net P)) where
  -- The best so far is that of the rounds done, and with those to come, over fewer than g groups, it is the split that all rounds find.
  pub record Kept (count g : ℕ) (best : Split P) (row : List ℕ) : Type 0 where
    pub start : List ℕ
    pub start_alone : EachAlone start
    pub ideal : Split P
    pub same : SameSplit best ideal
    pub several : 1 < g
    pub rest : (n j : ℕ) → suc (suc n) ≡ count → suc (suc j) ≡ g → cheapest_of k (counted k nets (suc n) start) ≡ Some (cheapest_after k ideal (counted k nets j row))

  first_counted : (n : ℕ) (start : List ℕ)
      → cheapest_of k (counted k nets (suc n) start) ≡ Some (cheapest_after k (round_noted k nets (suc (suc n)) start) (counted k nets n (round_row k nets (suc (suc n)) start)))
  unfolding counted
  first_counted n start = refl

  pub kept_start : (count : ℕ) (start next : List ℕ) (best : Split P) → 1 < count → EachAlone start → SameSplit best (round_noted k nets count start) → next ≡ round_row k nets count start
      → Kept count count best next
  kept_start count start next best two alone s e = record {
    start = start;
    start_alone = alone;
    ideal = round_noted k nets count start;
    same = s;
    several = two;
    rest = λ n j q w.
        let same_count : j ≡ n = omega arith in
        first_counted n start ∙ ap₂ (λ (c : ℕ) (i : ℕ). Some (cheapest_after k (round_noted k nets c start) (counted k nets i (round_row k nets c start)))) q (sym same_count)
        ∙ ap (λ xs. Some (cheapest_after k (round_noted k nets count start) (counted k nets j xs))) (sym e);
  }

  cheaper_same : (a x b y : Split P) → SameSplit a x → SameSplit b y → SameSplit (cheaper k a b) (cheaper k x y)
  cheaper_same a x b y s r = subst (λ z. SameSplit (cheaper k a b) (cond z y x)) (ap₂ k.less r.same_price s.same_price) (go (k.less b.price a.price))
    where
      go : (t : Bool) → SameSplit (cond t b a) (cond t y x)
      go true = r
      go false = s

  next_counted : (x : Split P) (j : ℕ) (row : List ℕ) → cheapest_after k x (counted k nets (suc j) row)
      ≡ cheapest_after k (cheaper k x (round_noted k nets (suc (suc j)) row)) (counted k nets j (round_row k nets (suc (suc j)) row))
  unfolding counted
  next_counted x j row = refl

  pub kept_more : (count bound g : ℕ) (best noted new : Split P) (row next : List ℕ) → suc g ≡ bound → 1 < g → Kept count bound best row → SameSplit noted (round_noted k nets g row)
      → next ≡ round_row k nets g row → new ≡ cheaper k best noted → Kept count g new next
  kept_more count bound g best noted new row next b two a s e c = record {
    start = a.start;
    start_alone = a.start_alone;
    ideal = cheaper k a.ideal (round_noted k nets g row);
    same = subst (λ x. SameSplit x (cheaper k a.ideal (round_noted k nets g row))) (sym c) (cheaper_same best a.ideal noted (round_noted k nets g row) a.same s);
    several = two;
    rest = λ n j w z.
        a.rest n (suc j) w (omega arith) ∙ ap Some (next_counted a.ideal j row)
        ∙ ap (λ (x : ℕ). Some (cheapest_after k (cheaper k a.ideal (round_noted k nets x row)) (counted k nets j (round_row k nets x row)))) z
        ∙ ap (λ xs. Some (cheapest_after k (cheaper k a.ideal (round_noted k nets g row)) (counted k nets j xs))) (sym e);
  }

  none_counted : (x : Split P) (row : List ℕ) → cheapest_after k x (counted k nets 0 row) ≡ x
  unfolding counted
  none_counted x row = refl

  pub kept_end : (count g : ℕ) (best : Split P) (row : List ℕ) → g ≤ 2 → Kept count g best row → FoundOver k nets count best
  kept_end count g best row h a = record {
    row = a.start;
    alone = a.start_alone;
    by_modules = a.ideal;
    found = λ n q. a.rest n 0 q (omega (arith, h, a.several)) ∙ ap Some (none_counted a.ideal row);
    same = a.same;
  }
