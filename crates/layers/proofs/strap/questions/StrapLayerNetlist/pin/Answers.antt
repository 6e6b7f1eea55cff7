use Rattle.std.proofs.Common.{ℕ, ◌<◌, Some, None, sym, ap, ◌∙◌, subst}
use Rattle.netlist.specs.Places.{place}
use Rattle.layers.proofs.Placed.{strap_pin, pin_low}
use Rattle.layers.proofs.strap.questions.StrapLayerNetlist.pin.Goals as goal

pub bounds-self-from : goal.bounds-self-from
bounds-self-from g c =
    let below = c.args.self.now.below in
    subst (λ (x : ℕ). x < 64) (sym c.from.ensures) (pin_low (g.N.Netlist.meaning below) (g.N.Netlist.sound below) g.N.Price.Price.kind c.args.net c.args.k c.in_ok-pin.pin c.in_ok-pin.ensures)

pub returns : goal.returns
returns g c =
    ap (λ v. Some (place c.args.self.now.row v)) c.from.ensures
    ∙ strap_pin g.N.Netlist.meaning g.N.Netlist.sound g.N.Price.Price.kind c.args.self.now c.args.net c.args.k
    (Some c.in_ok-pin.pin) c.in_ok-pin.ensures

pub returns-in_err-pin : goal.returns-in_err-pin
returns-in_err-pin g c =
    c.from_residual.ensures ∙ strap_pin g.N.Netlist.meaning g.N.Netlist.sound g.N.Price.Price.kind c.args.self.now c.args.net c.args.k None c.in_err-pin.ensures
