use Rattle.std.proofs.Common.{arith}
use Rattle.layers.proofs.Regrouping.{strap_modules, modules_few}
use Rattle.layers.proofs.strap.questions.StrapLayerNetlist.module_count.Goals as goal

pub shared_ref_as_front-group_count : goal.shared_ref_as_front-group_count
shared_ref_as_front-group_count g c =
    let layer = c.args.self.now in
    omega (arith, layer.long, c.module_count.ensures, modules_few (g.N.Netlist.meaning layer.below) (g.N.Netlist.sound layer.below))

pub returns : goal.returns
returns g c =
    strap_modules g.N.Netlist.meaning g.N.Netlist.sound c.args.self.now c.module_count.result c.group_count.result
    c.module_count.ensures c.group_count.ensures
