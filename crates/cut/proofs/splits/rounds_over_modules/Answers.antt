use Rattle.cut.proofs.OverModules.{rounds_over_modules_lem}
use Rattle.cut.proofs.splits.rounds_over_modules.Goals as goal

pub returns : goal.returns
returns g c = rounds_over_modules_lem g.P.Price.kind g.met.P.Price.lawful
