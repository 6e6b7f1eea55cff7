use Rattle.std.proofs.Common.{Some, None, false, sym, ◌||◌, ap, ◌∙◌, get_or, arith}
use Rattle.layers.proofs.Refused.{marked_there}
use Rattle.layers.proofs.Muting.{mute_mark}
use Rattle.layers.proofs.mute.questions.MuteLayerNetlist.is_muted.Goals as goal

pub bounds-self-net : goal.bounds-self-net
bounds-self-net g c =
    let below = c.args.self.now.below in
    let s = g.N.Netlist.sound below in
    omega (arith, marked_there (g.N.Netlist.meaning below) s c.args.net c.in_ok-muted.muted c.in_ok-muted.ensures, s.few_nets)

pub returns-in_err-muted : goal.returns-in_err-muted
returns-in_err-muted g c =
    c.from_residual.ensures
    ∙ mute_mark g.N.Netlist.meaning g.N.Netlist.sound g.N.Price.Price.kind c.args.self.now c.args.net None c.in_err-muted.ensures

pub returns-then-muted : goal.returns-then-muted
returns-then-muted g c =
    ap Some c.if-muted.true ∙ ap (λ m. Some (m || get_or c.args.self.now.row c.args.net false)) (sym c.if-muted.true)
    ∙ mute_mark g.N.Netlist.meaning g.N.Netlist.sound g.N.Price.Price.kind c.args.self.now c.args.net (Some c.in_ok-muted.muted) c.in_ok-muted.ensures

pub returns-else-muted : goal.returns-else-muted
returns-else-muted g c =
    let row = c.args.self.now.row in
    ap (λ m. Some (m || get_or row c.args.net false)) (sym c.if-muted.false)
    ∙ mute_mark g.N.Netlist.meaning g.N.Netlist.sound g.N.Price.Price.kind c.args.self.now c.args.net (Some c.in_ok-muted.muted) c.in_ok-muted.ensures
