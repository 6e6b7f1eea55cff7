use Rattle.layers.proofs.Placed.{strap_pin_count}
use Rattle.layers.proofs.strap.questions.StrapLayerNetlist.pin_count.Goals as goal

pub returns : goal.returns
returns g c =
    strap_pin_count g.N.Netlist.meaning g.N.Netlist.sound g.N.Price.Price.kind c.args.self.now c.args.net c.pin_count.result c.pin_count.ensures
