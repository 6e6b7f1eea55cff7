-- What a call of `split` answers and leaves.
use Rattle.std.specs.Prelude.{◌≡◌, ℕ, Bool, false, cond, List, length, Some, None, Ok, Err, Option, Result, nat_lt}
use Rattle.refusal.specs.declared.Fault.{Fault}
use Rattle.refusal.specs.declared.Fault.TheVariants.{TooShort, TooFewGroups}
use Rattle.moduleset.specs.Words.{has as is_in}
use Rattle.price.specs.Kind.{Kind}
use Rattle.netlist.specs.Meaning.{Meaning, homes, modules}
use Rattle.cut.specs.Lawful.{Split, LawfulFor, CheapestFor}
use Rattle.cut.specs.Rounds.{noted_of, split_of}
use Rattle.cut.specs.SplitLaws.{FirstOfLowest}
use Rattle.cut.specs.SidesWord.{sides_word}
use Rattle.cut.specs.declared.found.FoundSplit.{FoundSplit}
use Rattle.partition.specs.Pulls.{cleared}

-- why a split of a netlist, with so many cells, is refused
abbrev pub split_fault : {P : Type 0} → Meaning P → ℕ → Option Fault
split_fault m cells = cond (nat_lt cells (homes m)) (Some (TooShort 1)) (cond (nat_lt (modules m) 2) (Some TooFewGroups) None)

-- the split that an answer tells: bit i of the word, from the top, is the side of home module i
abbrev pub told : {P : Type 0} → FoundSplit P → Split P
told found = record { side = λ i. is_in found.sides i; price = found.price }

-- An accepted split: what the answer tells is lawful, has its true price, and no lawful split is cheaper. Its sides word and price are those
-- of the split that the rounds find, which has home module 0 on A and is the first of the lowest noted. As many first cells as home modules are zero.
pub record Splitted {P : Type 0} (k : Kind P) (m : Meaning P) (cells cells' : List P) (r : Result (FoundSplit P) Fault) : Type 0 where
  pub split : Split P
  pub by_rounds : split_of k m ≡ Some split
  pub first_on_a : split.side 0 ≡ false
  pub first_of_lowest : FirstOfLowest k (noted_of k m) split
  pub answer : FoundSplit P
  pub answered : r ≡ Ok answer
  pub sides : answer.sides ≡ sides_word (homes m) split.side
  pub price : answer.price ≡ split.price
  pub cheapest : CheapestFor k m (told answer)
  pub zeroed : cells' ≡ cleared k (homes m) cells

-- A refused split leaves the cells as they were; too few groups are told only where no split is lawful.
pub record SplitRefused {P : Type 0} (m : Meaning P) (fault : Fault) (cells cells' : List P) (r : Result (FoundSplit P) Fault) : Type 0 where
  pub refused : r ≡ Err fault
  pub cells_stay : cells' ≡ cells
  pub none_lawful : fault ≡ TooFewGroups → (side : ℕ → Bool) → LawfulFor m side → ⊥

abbrev pub SplitAnswer : {P : Type 0} → Option Fault → Kind P → Meaning P → List P → List P → Result (FoundSplit P) Fault → Type 0
SplitAnswer None k m cells cells' r = Splitted k m cells cells' r
SplitAnswer (Some fault) k m cells cells' r = SplitRefused m fault cells cells' r

-- a call of `split` on a netlist of this meaning: the cells before and after it, and its answer
abbrev pub SplitCall : {P : Type 0} → Kind P → Meaning P → List P → List P → Result (FoundSplit P) Fault → Type 0
SplitCall k m cells cells' r = SplitAnswer (split_fault m (length cells)) k m cells cells' r
