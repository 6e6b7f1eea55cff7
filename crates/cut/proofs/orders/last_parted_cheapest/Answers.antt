use Rattle.cut.proofs.LastTwo.{last_parted_cheapest_lem}
use Rattle.cut.proofs.orders.last_parted_cheapest.Goals as goal

pub returns : goal.returns
returns g c = last_parted_cheapest_lem g.P.Price.kind g.met.P.Price.lawful
