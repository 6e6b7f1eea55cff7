use Rattle.std.proofs.Common.{ℕ, arith}
use Rattle.partition.specs.Pulls.{key_in}
use Rattle.partition.proofs.Keys.{all_but, none_waits, first_waits, greatest_start}
use Rattle.partition.proofs.pull_row.PullRow.greatest_waiting.Goals as goal

pub returns-in_err-best : goal.returns-in_err-best
returns-in_err-best g c =
    let taken : ℕ = c.args.self.now.taken.word in
    rw c.from_residual.ensures (none_waits taken c.minus.result.word (all_but c.at_or_past.result.word taken c.minus.result.word c.at_or_past.ensures c.minus.ensures) c.in_err-best.ensures)

pub loop-v-init : goal.loop-v-init
loop-v-init g c =
    let taken : ℕ = c.args.self.now.taken.word in
    let f = first_waits taken c.minus.result.word (all_but c.at_or_past.result.word taken c.minus.result.word c.at_or_past.ensures c.minus.ensures) c.in_ok-best.best c.in_ok-best.ensures in
    (omega (arith, f.0), greatest_start g.P.Price.kind g.met.P.Price.lawful (key_in g.P.Price.kind c.args.self.now.cells.now) taken c.in_ok-best.best f.1 f.2)

pub overflow_step-v : goal.overflow_step-v
overflow_step-v g c =
    let taken : ℕ = c.args.self.now.taken.word in
    omega (arith, (first_waits taken c.minus.result.word (all_but c.at_or_past.result.word taken c.minus.result.word c.at_or_past.ensures c.minus.ensures) c.in_ok-best.best c.in_ok-best.ensures).0)
