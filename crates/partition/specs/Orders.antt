-- What a call of `order` answers and leaves.
use Rattle.std.specs.Prelude.{◌≡◌, ℕ, ◌<◌, cond, List, ◌++◌, length, drop, Some, None, Ok, Err, Option, Result, nat_lt}
use Rattle.refusal.specs.declared.Fault.{Fault}
use Rattle.refusal.specs.declared.Fault.TheVariants.{TooShort, TooFewGroups}
use Rattle.price.specs.Kind.{Kind}
use Rattle.netlist.specs.Nets.{Net}
use Rattle.netlist.specs.Meaning.{Meaning, modules, own_nets}
use Rattle.cut.specs.Cuts.{split_price, alone}
use Rattle.cut.specs.Orders.{IsOrder, ending}
use Rattle.cut.specs.OrderLaws.{LastParted}
use Rattle.partition.specs.Pulls.{cleared}

-- why an order of so many modules, with so many cells and bytes, is refused
abbrev pub order_fault : ℕ → ℕ → ℕ → Option Fault
order_fault modules cells bytes = cond (nat_lt cells modules) (Some (TooShort 1)) (cond (nat_lt bytes modules) (Some (TooShort 2)) (cond (nat_lt modules 2) (Some TooFewGroups) None))

-- the list is an order of the netlist's modules
abbrev pub IsOrderOf : {P : Type 0} → Kind P → Meaning P → List ℕ → Type 0
IsOrderOf k m list = IsOrder k (own_nets k m) (modules m) list

-- the price of parting off the last of a list alone
abbrev pub last_price : {P : Type 0} → Kind P → List (Net P) → List ℕ → P
last_price k nets list = split_price k (alone (ending list).last) nets

-- An accepted order: the first bytes are an order of the modules, as many first cells are zero, and the answer is the price of parting off its last alone.
pub record Ordered {P : Type 0} (k : Kind P) (m : Meaning P) (cells cells' : List P) (bytes bytes' : List ℕ) (r : Result P Fault) : Type 0 where
  pub list : List ℕ
  pub by_rule : IsOrderOf k m list
  pub written : bytes' ≡ list ++ drop (modules m) bytes
  pub zeroed : cells' ≡ cleared k (modules m) cells
  pub answered : r ≡ Ok (last_price k (own_nets k m) list)

-- A refused order leaves both rows as they were.
pub record OrderRefused {P : Type 0} (fault : Fault) (cells cells' : List P) (bytes bytes' : List ℕ) (r : Result P Fault) : Type 0 where
  pub told : r ≡ Err fault
  pub cells_stay : cells' ≡ cells
  pub bytes_stay : bytes' ≡ bytes

abbrev pub OrderAnswer : {P : Type 0} → Option Fault → Kind P → Meaning P → List P → List P → List ℕ → List ℕ → Result P Fault → Type 0
OrderAnswer None k m cells cells' bytes bytes' r = Ordered k m cells cells' bytes bytes' r
OrderAnswer (Some fault) k m cells cells' bytes bytes' r = OrderRefused fault cells cells' bytes bytes' r

abbrev pub OrderCall : {P : Type 0} → Kind P → Meaning P → List P → List P → List ℕ → List ℕ → Result P Fault → Type 0
OrderCall k m cells cells' bytes bytes' r = OrderAnswer (order_fault (modules m) (length cells) (length bytes)) k m cells cells' bytes bytes' r

-- There is one order of the modules and no other, and no split that parts its last two is cheaper than parting off the last alone.
pub record OneOrder {P : Type 0} (k : Kind P) (m : Meaning P) : Type 0 where
  pub list : List ℕ
  pub by_rule : IsOrderOf k m list
  pub only : (other : List ℕ) → IsOrderOf k m other → other ≡ list
  pub last_two : LastParted k (own_nets k m) (ending list)

-- this holds of two modules and more
abbrev pub LastTwoParted : {P : Type 0} → Kind P → Meaning P → Type 0
LastTwoParted k m = 1 < modules m → OneOrder k m
