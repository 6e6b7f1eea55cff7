-- What the program prints of a page and a script.
use Rattle.std.specs.Prelude.{◌≡◌, ℕ, ◌<◌, ◌≤◌, List, length, Some, None}
use Rattle.refusal.specs.declared.Fault.{Fault}
use Rattle.price.specs.Kind.{Kind}
use Rattle.price.specs.Wires.{wires}
use Rattle.price.specs.TimersFirst.{timers_first}
use Rattle.price.specs.Widest.{widest}
use Rattle.page.specs.Layout.{kind_field}
use Rattle.page.specs.Known.{own_fault}
use Rattle.page.specs.Faults.{page_fault}
use Rattle.loading.specs.Loading.{page_meaning}
use Rattle.lines.specs.Lines.{page_line, script_line}
use Rattle.session.specs.ScriptRuns.{Session}

-- a session on the page's netlist with a row of 64 cells, one for each home module that a netlist can have
pub record PageSession {P : Type 0} (k : Kind P) (page script bytes : List ℕ) : Type 0 where
  pub cells : List P
  pub cells_left : List P
  pub enough : length cells ≡ 64
  pub session : Session k (page_meaning k page) script bytes cells cells_left

-- Of a page in a price kind: its first fault alone, or else that the script is longer than 65,536 bytes alone, or else what the script's lines are told.
pub record PrintedIn {P : Type 0} (k : Kind P) (page script bytes : List ℕ) : Type 0 where
  pub refused : (fault : Fault) → page_fault page k.number ≡ Some fault → bytes ≡ page_line fault
  pub too_long : page_fault page k.number ≡ None → 65536 < length script → bytes ≡ script_line
  pub run : page_fault page k.number ≡ None → length script ≤ 65536 → PageSession k page script bytes

-- Of a page with a fault of its own that alone; of any other in the price kind that its first four bits name.
pub record Printed (page script bytes : List ℕ) : Type 0 where
  pub refused : (fault : Fault) → own_fault page ≡ Some fault → bytes ≡ page_line fault
  pub in_wires : own_fault page ≡ None → kind_field page ≡ wires.number → PrintedIn wires page script bytes
  pub in_timers_first : own_fault page ≡ None → kind_field page ≡ timers_first.number → PrintedIn timers_first page script bytes
  pub in_widest : own_fault page ≡ None → kind_field page ≡ widest.number → PrintedIn widest page script bytes
