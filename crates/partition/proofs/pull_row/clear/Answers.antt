use Rattle.std.proofs.Common.{set, ap, ◌∙◌, arith}
use Rattle.partition.proofs.Cells.{cleared_more}
use Rattle.partition.proofs.pull_row.clear.Goals as goal

pub loop-cell-preserved : goal.loop-cell-preserved
loop-cell-preserved g c =
    ap (set c.loop-cell.cells c.loop-cell.cell-index) c.zero.ensures
    ∙ cleared_more g.P.Price.kind c.loop-cell.cell-index c.args.cells.now c.loop-cell.cells (omega arith) c.loop-cell.invariant
