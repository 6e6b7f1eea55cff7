use Rattle.std.proofs.Common.{None, ◌∙◌}
use Rattle.layers.proofs.Muting.{mute_price, mute_price_marked, mute_price_unmarked, net_low}
use Rattle.layers.proofs.mute.questions.MuteLayerNetlist.price.Goals as goal

pub bounds-self-net : goal.bounds-self-net
bounds-self-net g c =
    let below = c.args.self.now.below in
    net_low (g.N.Netlist.meaning below) (g.N.Netlist.sound below) g.N.Price.Price.kind c.args.net c.in_ok-price.price c.in_ok-price.ensures

pub returns-then-self-net : goal.returns-then-self-net
returns-then-self-net g c =
    mute_price_marked g.N.Netlist.meaning g.N.Netlist.sound g.N.Price.Price.kind c.args.self.now c.args.net
    c.in_ok-price.price c.zero.result c.if-self-net.true c.zero.ensures c.in_ok-price.ensures

pub returns-else-self-net : goal.returns-else-self-net
returns-else-self-net g c =
    mute_price_unmarked g.N.Netlist.meaning g.N.Netlist.sound g.N.Price.Price.kind c.args.self.now c.args.net
    c.in_ok-price.price c.if-self-net.false c.in_ok-price.ensures

pub returns-in_err-price : goal.returns-in_err-price
returns-in_err-price g c =
    c.from_residual.ensures ∙ mute_price g.N.Netlist.meaning g.N.Netlist.sound g.N.Price.Price.kind c.args.self.now c.args.net None c.in_err-price.ensures
