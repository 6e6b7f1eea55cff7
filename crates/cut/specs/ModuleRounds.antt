-- The rounds over a netlist's modules in place of its home modules: its own nets have modules for pins, and the groups are counted.
use Rattle.std.specs.Prelude.{◌≡◌, ℕ, zero, suc, ◌<◌, ◌≤◌, List, [], ◌∷◌, length, Some}
use Rattle.price.specs.Kind.{Kind}
use Rattle.netlist.specs.Nets.{Net}
use Rattle.netlist.specs.Places.{place, placed}
use Rattle.netlist.specs.Meaning.{Meaning, Sound, modules, own_nets}
use Rattle.netlist.specs.Changes.{united}
use Rattle.cut.specs.Lawful.{Split}
use Rattle.cut.specs.Orders.{order, Ending, ending}
use Rattle.cut.specs.Rounds.{parting, cheapest_of, split_of}

-- the end of the order of g groups
abbrev pub counted_ending : {P : Type 0} → Kind P → List (Net P) → ℕ → List ℕ → Ending
counted_ending k nets g row = ending (order k (placed row nets) g)

-- the splits noted from n + 1 groups on
unfoldable pub counted : {P : Type 0} → Kind P → List (Net P) → ℕ → List ℕ → List (Split P)
counted k nets zero row = []
counted k nets (suc n) row =
    let end = counted_ending k nets (suc (suc n)) row in
    parting k nets row end.last ∷ counted k nets n (united end.next_to_last end.last row)

-- the same price, and each home module on the side of its place
pub record SameByPlaces {P : Type 0} (places : List ℕ) (split by_modules : Split P) : Type 0 where
  pub same_price : split.price ≡ by_modules.price
  pub same_sides : (i : ℕ) → i < length places → split.side i ≡ by_modules.side (place places i)

-- From a row in which each module is a group of its own, they find the split that the rounds find.
abbrev pub RoundsOverModules : {P : Type 0} → Kind P → Type 0
RoundsOverModules {P} k =
    (m : Meaning P) (row : List ℕ) (n : ℕ) → Sound m → modules m ≡ suc (suc n) → modules m ≤ length row → ((v : ℕ) → v < modules m → place row v ≡ v)
    → (split by_modules : Split P) → split_of k m ≡ Some split → cheapest_of k (counted k (own_nets k m) (suc n) row) ≡ Some by_modules
    → SameByPlaces m.places split by_modules
