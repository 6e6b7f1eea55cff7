use Rattle.cut.proofs.OrderFound.{order_takes_each_once_lem}
use Rattle.cut.proofs.orders.order_takes_each_once.Goals as goal

pub returns : goal.returns
returns g c = order_takes_each_once_lem g.P.Price.kind g.met.P.Price.lawful
