use Rattle.std.proofs.Common.{◌≡◌}
use Rattle.partition.specs.Pulls.{cleared}
use Rattle.partition.proofs.pull_row.clear.Given as goal

abbrev pub invariant-loop-cell : goal.invariant-loop-cell
invariant-loop-cell g l = l.cells ≡ cleared g.P.Price.kind l.cell-index l.initial.cells
