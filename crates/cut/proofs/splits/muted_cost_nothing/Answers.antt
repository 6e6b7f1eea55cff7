use Rattle.cut.proofs.RoundsFind.{muted_cost_nothing_lem}
use Rattle.cut.proofs.splits.muted_cost_nothing.Goals as goal

pub returns : goal.returns
returns g c = muted_cost_nothing_lem g.P.Price.kind g.met.P.Price.lawful
