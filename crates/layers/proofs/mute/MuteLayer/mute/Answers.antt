use Rattle.std.proofs.Common.{refl, ap, arith}
use Rattle.refusal.proofs.CheckLaws.{accepted}
use Rattle.layers.specs.Layered.{mute_meaning}
use Rattle.layers.proofs.Refused.{unmuted_there}
use Rattle.layers.proofs.Muting.{one_more_by_row}
use Rattle.layers.proofs.mute.MuteLayer.mute.Goals as goal

pub bounds-self-net : goal.bounds-self-net
bounds-self-net g c =
    let layer = c.args.self.now in
    omega (
      arith,
      unmuted_there (mute_meaning g.N.Netlist.meaning layer) c.args.net (accepted _ _ c.in_ok-check_unmuted.ensures),
      (g.N.Netlist.sound layer.below).few_nets,
    )

pub returns : goal.returns
returns g c =
    let layer = c.args.self.now in
    let below = g.N.Netlist.meaning layer.below in
    let few = (g.N.Netlist.sound layer.below).few_nets in
    let free = accepted _ _ c.in_ok-check_unmuted.ensures in
    let there = unmuted_there (mute_meaning g.N.Netlist.meaning layer) c.args.net free in
    record {
      mutes = (
        free,
        ap (λ marks. record { places = below.places; nets = below.nets; muted = marks })
            (one_more_by_row below.muted layer.row c.args.net (omega (arith, there, few, layer.long))),
      );
      below = refl;
    }
