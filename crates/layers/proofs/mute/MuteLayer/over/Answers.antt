use Rattle.std.proofs.Common.{refl, ap}
use Rattle.layers.proofs.Muting.{none_by_row}
use Rattle.layers.proofs.mute.MuteLayer.over.Goals as goal

pub returns : goal.returns
returns g c =
    let m = g.N.Netlist.meaning c.args.below in
    (ap (λ marks. record { places = m.places; nets = m.nets; muted = marks }) (none_by_row m.muted 1024), refl)
