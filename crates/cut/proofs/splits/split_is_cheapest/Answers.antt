use Rattle.cut.proofs.RoundsFind.{split_is_cheapest_lem}
use Rattle.cut.proofs.splits.split_is_cheapest.Goals as goal

pub returns : goal.returns
returns g c = split_is_cheapest_lem g.P.Price.kind g.met.P.Price.lawful
