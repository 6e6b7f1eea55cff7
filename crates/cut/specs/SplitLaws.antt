-- What holds of the split that the rounds find, for every price kind.
use Rattle.std.specs.Prelude.{◌≡◌, ℕ, ◌<◌, Bool, true, false, List, length, get_or, Some, None, slice_index_or}
use Rattle.std.specs.List.{AllByRecursion}
use Rattle.price.specs.Kind.{Kind, NotGreater}
use Rattle.netlist.specs.Nets.{Net, OnPins}
use Rattle.netlist.specs.Places.{place, groups, Numbered}
use Rattle.netlist.specs.Meaning.{Meaning, Sound, modules, own_nets}
use Rattle.cut.specs.Cuts.{split_price}
use Rattle.cut.specs.Lawful.{Split, Lawful, Cheapest, LawfulFor, CheapestFor, unmuted}
use Rattle.cut.specs.Rounds.{all_noted, cheapest_of, noted_of, split_of}

-- A split's price over the netlist's own nets is the price of the same sides of home modules over the home nets that are not muted.
abbrev pub MutedCostNothing : {P : Type 0} → Kind P → Type 0
MutedCostNothing {P} k = (m : Meaning P) (side : ℕ → Bool) → split_price k side (own_nets k m) ≡ split_price k (λ i. side (place m.places i)) (unmuted m)

-- The split stands in the list, each before it is dearer, and none of the list is cheaper.
pub record FirstOfLowest {P : Type 0} (k : Kind P) (list : List (Split P)) (split : Split P) : Type 0 where
  pub index : ℕ
  pub within : index < length list
  pub there : (d : Split P) → slice_index_or list index d ≡ split
  pub earlier_dearer : (j : ℕ) (d : Split P) → j < index → k.less split.price (get_or list j d).price ≡ true
  pub none_cheaper : (j : ℕ) (d : Split P) → j < length list → NotGreater k split.price (get_or list j d).price

-- With home module 0 on side A, a cheapest lawful split, and the first of the lowest among those noted.
pub record FoundByRounds {P : Type 0} (k : Kind P) (nets : List (Net P)) (row : List ℕ) (split : Split P) : Type 0 where
  pub cheapest : Cheapest k row nets split
  pub first_on_a : split.side 0 ≡ false
  pub first_of_lowest : FirstOfLowest k (all_noted k nets row) split

-- Where two groups and more are left the rounds find such a split; otherwise there is no lawful split, and they find none.
pub record RoundsOutcome {P : Type 0} (k : Kind P) (nets : List (Net P)) (row : List ℕ) : Type 0 where
  pub two_groups : 1 < groups row → (split : Split P) × (cheapest_of k (all_noted k nets row) ≡ Some split) × FoundByRounds k nets row split
  pub fewer : groups row < 2 → (cheapest_of k (all_noted k nets row) ≡ None) × ((side : ℕ → Bool) → Lawful row side → ⊥)

abbrev pub RoundsFindCheapest : {P : Type 0} → Kind P → Type 0
RoundsFindCheapest {P} k = (nets : List (Net P)) (row : List ℕ) → Numbered 0 row → OnPins (AllByRecursion (λ pin. pin < length row)) nets → RoundsOutcome k nets row

-- Such a split of a meaning, with the price taken over the home nets that are not muted.
pub record FoundFor {P : Type 0} (k : Kind P) (m : Meaning P) (split : Split P) : Type 0 where
  pub cheapest : CheapestFor k m split
  pub first_on_a : split.side 0 ≡ false
  pub first_of_lowest : FirstOfLowest k (noted_of k m) split

pub record SplitOutcome {P : Type 0} (k : Kind P) (m : Meaning P) : Type 0 where
  pub two_modules : 1 < modules m → (split : Split P) × (split_of k m ≡ Some split) × FoundFor k m split
  pub fewer : modules m < 2 → (split_of k m ≡ None) × ((side : ℕ → Bool) → LawfulFor m side → ⊥)

abbrev pub SplitIsCheapest : {P : Type 0} → Kind P → Type 0
SplitIsCheapest {P} k = (m : Meaning P) → Sound m → SplitOutcome k m
