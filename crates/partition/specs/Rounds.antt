-- Rounds over a netlist's modules, with sets of modules as 64-bit words.
use Rattle.std.specs.Prelude.{◌≡◌, ℕ, suc, ◌<◌, List, length, map, Some, Option}
use Rattle.moduleset.specs.Words.{has as is_in}
use Rattle.price.specs.Kind.{Kind}
use Rattle.netlist.specs.Nets.{Net}
use Rattle.netlist.specs.Places.{place}
use Rattle.netlist.specs.Meaning.{Meaning, own_nets}
use Rattle.netlist.specs.Changes.{united}
use Rattle.cut.specs.Lawful.{Split}
use Rattle.cut.specs.Rounds.{parting, cheapest_of}
use Rattle.cut.specs.ModuleRounds.{counted_ending, counted}
use Rattle.grouping.specs.Masks.{grouped, MasksOf}
use Rattle.partition.specs.declared.groups.Groups.{Groups}
use Rattle.partition.specs.declared.round.Noted.{Noted}
use Rattle.partition.specs.declared.round.RoundEnd.{RoundEnd}
use Rattle.partition.specs.Pulls.{cleared, pulled, TakesGreatest}

-- the split with a set of modules on side B
abbrev pub by_set : {P : Type 0} → ℕ → P → Split P
by_set sides price = record { side = λ v. is_in sides v; price = price }

-- the split that a round notes
abbrev pub by_noted : {P : Type 0} → Noted P → Split P
by_noted noted = by_set noted.sides.word noted.price

-- The same price, and the same side of each module below 64.
pub record SameSplit {P : Type 0} (a b : Split P) : Type 0 where
  pub same_price : a.price ≡ b.price
  pub same_sides : (v : ℕ) → v < 64 → a.side v ≡ b.side v

-- A row of 64 places below 64, those of the first m modules below g.
pub record GroupRow (m g : ℕ) (row : List ℕ) : Type 0 where
  pub long : length row ≡ 64
  pub small : (v : ℕ) → place row v < 64
  pub below : (v : ℕ) → v < m → place row v < g

-- of each net the groups of its pins
abbrev pub NetGroups : {P : Type 0} → Kind P → Meaning P → Groups → Type 0
NetGroups k m groups = MasksOf (map (λ mask. mask.word) groups.masks) (grouped k m groups.row)

-- A row of 64 places in which each module is a group of its own.
pub record EachAlone (row : List ℕ) : Type 0 where
  pub long : length row ≡ 64
  pub own : (v : ℕ) → v < 64 → place row v ≡ v

-- what a round over g groups notes, and the row after it
abbrev pub round_noted : {P : Type 0} → Kind P → List (Net P) → ℕ → List ℕ → Split P
round_noted k nets g row = parting k nets row (counted_ending k nets g row).last

abbrev pub round_row : {P : Type 0} → Kind P → List (Net P) → ℕ → List ℕ → List ℕ
round_row k nets g row = united (counted_ending k nets g row).next_to_last (counted_ending k nets g row).last row

-- A round over the g groups of a row: it notes the split that parts off the last of their order, tells the last two, which the next round has as one, and leaves a
-- zero cell for each group.
pub record RoundMade {P : Type 0} (k : Kind P) (m : Meaning P) (g : ℕ) (row : List ℕ) (cells cells' : List P) (end : RoundEnd P) : Type 0 where
  pub noted : SameSplit (by_noted end.noted) (round_noted k (own_nets k m) g row)
  pub united : united end.next_to_last end.last row ≡ round_row k (own_nets k m) g row
  pub zeroed : cells' ≡ cleared k g cells

-- The answer is the group most pulled by those taken, the lowest on equal pulls, and is taken; where there is none, no group waits.
abbrev pub TakesMostPulled : {P : Type 0} → Kind P → Meaning P → List ℕ → ℕ → ℕ → Option ℕ → Type 0
TakesMostPulled k m row taken taken' r = TakesGreatest k (pulled k (grouped k m row) taken) taken taken' r

-- The split is the one that the rounds find from so many modules, each alone.
pub record FoundOver {P : Type 0} (k : Kind P) (nets : List (Net P)) (count : ℕ) (split : Split P) : Type 0 where
  pub row : List ℕ
  pub alone : EachAlone row
  pub by_modules : Split P
  pub found : (n : ℕ) → suc (suc n) ≡ count → cheapest_of k (counted k nets (suc n) row) ≡ Some by_modules
  pub same : SameSplit split by_modules
