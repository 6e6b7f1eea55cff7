use Rattle.cut.proofs.OrderFound.{order_is_the_only_one_lem}
use Rattle.cut.proofs.orders.order_is_the_only_one.Goals as goal

pub returns : goal.returns
returns g c = order_is_the_only_one_lem g.P.Price.kind g.met.P.Price.lawful
