use Rattle.std.proofs.Common.{ℕ, ◌<◌, Some, None, sym, ap, ◌∙◌, subst}
use Rattle.netlist.specs.Places.{place}
use Rattle.layers.proofs.Placed.{strap_place, place_low}
use Rattle.layers.proofs.strap.questions.StrapLayerNetlist.place.Goals as goal

pub bounds-self-from : goal.bounds-self-from
bounds-self-from g c =
    let below = c.args.self.now.below in
    subst (λ (x : ℕ). x < 64) (sym c.from.ensures) (place_low (g.N.Netlist.meaning below) (g.N.Netlist.sound below) c.args.home c.in_ok-module.«module» c.in_ok-module.ensures)

pub returns : goal.returns
returns g c =
    ap (λ v. Some (place c.args.self.now.row v)) c.from.ensures
    ∙ strap_place g.N.Netlist.meaning g.N.Netlist.sound g.N.Price.Price.kind c.args.self.now c.args.home
    (Some c.in_ok-module.«module») c.in_ok-module.ensures

pub returns-in_err-module : goal.returns-in_err-module
returns-in_err-module g c =
    c.from_residual.ensures ∙ strap_place g.N.Netlist.meaning g.N.Netlist.sound g.N.Price.Price.kind c.args.self.now c.args.home None c.in_err-module.ensures
