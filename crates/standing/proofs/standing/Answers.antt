use Rattle.std.proofs.Common.{◌∙◌, arith}
use Rattle.standing.specs.LentMeaning.{standing_meaning}
use Rattle.standing.proofs.Layering.{next_applied}
use Rattle.standing.proofs.standing.Goals as goal

pub loop-change-preserved : goal.loop-change-preserved
loop-change-preserved g c =
    let means = g.N.Netlist.meaning in
    c.apply_change.ensures.applies
    ∙ next_applied (means c.args.netlist.now) (standing_meaning means c.loop-change.layers) c.args.changes.now c.loop-change.change-index (omega arith) c.loop-change.invariant
