use Rattle.std.proofs.Common.{sym, ap}
use Rattle.refusal.specs.Checks.{checked}
use Rattle.layers.specs.Layered.{mute_meaning, mute_sound}
use Rattle.layers.proofs.Refused.{net_absent, already_muted, may_be_muted}
use Rattle.layers.proofs.mute.MuteLayer.check_unmuted.Goals as goal

pub returns-in-None : goal.returns-in-None
returns-in-None g c =
    let layer = c.args.self.now in
    sym (ap checked (net_absent (mute_meaning g.N.Netlist.meaning layer) (mute_sound g.N.Netlist.meaning g.N.Netlist.sound layer) c.args.net c.in-None.ensures))

pub returns-in-Some-true : goal.returns-in-Some-true
returns-in-Some-true g c =
    let layer = c.args.self.now in
    sym (ap checked (already_muted (mute_meaning g.N.Netlist.meaning layer) (mute_sound g.N.Netlist.meaning g.N.Netlist.sound layer) c.args.net
    c.in-Some-true.field-0 c.in-Some-true.field-0-test c.in-Some-true.ensures))

pub returns-in-Some-false : goal.returns-in-Some-false
returns-in-Some-false g c =
    let layer = c.args.self.now in
    sym (ap checked (may_be_muted (mute_meaning g.N.Netlist.meaning layer) (mute_sound g.N.Netlist.meaning g.N.Netlist.sound layer) c.args.net
    c.in-Some-false.field-0 c.in-Some-false.field-0-test c.in-Some-false.ensures))
