use Rattle.std.proofs.Common.{sym, ◌∙◌}
use lib.ListN.{length-map}
use Rattle.netlist.specs.Places.{place}
use Rattle.layers.proofs.strap.questions.StrapLayerNetlist.home_count.Goals as goal

pub returns : goal.returns
returns g c =
    let layer = c.args.self.now in
    c.home_count.ensures ∙ sym (length-map (g.N.Netlist.meaning layer.below).places (place layer.row))
