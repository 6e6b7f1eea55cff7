-- All worked lines, as one list.
use Rattle.std.specs.Prelude.{◌≡◌, ℕ, List, [], ◌∷◌, ◌++◌, map, Some}
use Rattle.refusal.specs.declared.Fault.{Fault}
use Rattle.refusal.specs.Faults.{number}
use Rattle.price.specs.Wires.{wires}
use Rattle.page.specs.Worked as pages
use Rattle.cut.specs.Worked as netlists
use Rattle.partition.specs.Splits.{split_fault}

pub data Line : Type 0 where
  -- what a page unpacks to, or its refusal
  of_page : pages.Line → Line
  -- an order or a split of a small netlist, with straps and mutes
  of_netlist : netlists.Line → Line
  -- a split of so many modules without nets, with a cell for each, is refused with this number
  split_refused : ℕ → ℕ → Line

pub record SplitRefused (modules n : ℕ) : Type 0 where
  pub fault : Fault
  pub told : split_fault (netlists.unchanged wires modules []) modules ≡ Some fault
  pub number_is : number fault ≡ n

abbrev pub Stands : Line → Type 0
Stands (of_page line) = pages.Stands line
Stands (of_netlist line) = netlists.Holds line
Stands (split_refused modules n) = SplitRefused modules n

abbrev pub refused_lines : List Line
refused_lines = split_refused 1 17 ∷ []

abbrev pub worked_lines : List Line
worked_lines = map of_page pages.worked_pages ++ map of_netlist netlists.worked_lines ++ refused_lines
