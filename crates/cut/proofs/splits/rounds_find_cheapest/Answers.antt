use Rattle.cut.proofs.RoundsFind.{rounds_find_cheapest_lem}
use Rattle.cut.proofs.splits.rounds_find_cheapest.Goals as goal

pub returns : goal.returns
returns g c = rounds_find_cheapest_lem g.P.Price.kind g.met.P.Price.lawful
