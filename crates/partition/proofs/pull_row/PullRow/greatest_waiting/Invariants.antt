use Rattle.std.proofs.Common.{◌≤◌}
use Rattle.partition.specs.Pulls.{Greatest, key_in}
use Rattle.partition.proofs.pull_row.PullRow.greatest_waiting.Given as goal

abbrev pub invariant-loop-v : goal.invariant-loop-v
invariant-loop-v g l = (l.v ≤ 64) × Greatest g.P.Price.kind (key_in g.P.Price.kind l.self.cells.now) l.self.taken.word l.v l.best
