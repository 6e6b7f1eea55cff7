use Rattle.layers.proofs.Placed.{strap_price}
use Rattle.layers.proofs.strap.questions.StrapLayerNetlist.price.Goals as goal

pub returns : goal.returns
returns g c =
    strap_price g.N.Netlist.meaning g.N.Netlist.sound g.N.Price.Price.kind c.args.self.now c.args.net c.price.result c.price.ensures
