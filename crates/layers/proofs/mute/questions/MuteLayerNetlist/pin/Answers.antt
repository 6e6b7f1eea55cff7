use Rattle.layers.proofs.Muting.{mute_pin}
use Rattle.layers.proofs.mute.questions.MuteLayerNetlist.pin.Goals as goal

pub returns : goal.returns
returns g c =
    mute_pin g.N.Netlist.meaning g.N.Netlist.sound g.N.Price.Price.kind c.args.self.now c.args.net c.args.k c.pin.result c.pin.ensures
