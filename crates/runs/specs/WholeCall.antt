-- What running a list of calls on a plan over a netlist, and ordering the netlist, answer and leave.
use Rattle.std.specs.Prelude.{ℕ, List, Result}
use Rattle.refusal.specs.declared.Fault.{Fault}
use Rattle.price.specs.Kind.{Kind}
use Rattle.netlist.specs.Meaning.{Meaning}
use Rattle.partition.specs.Orders.{OrderCall, LastTwoParted}
use Rattle.plan.specs.declared.calls.Asked.{Asked}
use Rattle.plan.specs.declared.calls.Answer.{Answer}
use Rattle.runs.specs.RunCalls.{RunOf}

-- The run keeps the promise; the order is refused exactly where the cells or the bytes are fewer than the modules or there are fewer than two of these,
-- and else written and answered at the price of parting off its last; and no split that parts its last two is cheaper than that.
pub record WholeCall {P : Type 0} (k : Kind P) (m : Meaning P) (calls calls_left : List (Asked P)) (answers answers_left : List (Answer P))
    (cells cells_left : List P) (bytes bytes_left : List ℕ) (count : ℕ) (ordered : Result P Fault) : Type 0 where
  pub run : RunOf k m calls calls_left answers answers_left count
  pub order : OrderCall k m cells cells_left bytes bytes_left ordered
  pub last_two : LastTwoParted k m
