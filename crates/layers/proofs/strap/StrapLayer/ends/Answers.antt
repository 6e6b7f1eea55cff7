use Rattle.std.proofs.Common.{Some, sym, ap, ◌∙◌}
use Rattle.std.proofs.lemmas.Result.{err_from_is_err_and}
use Rattle.layers.specs.Layered.{strap_meaning}
use Rattle.layers.proofs.Refused.{first_absent, second_absent, strap_together, strap_apart}
use Rattle.layers.proofs.strap.StrapLayer.ends.Goals as goal

pub returns-in_err-v : goal.returns-in_err-v
returns-in_err-v g c =
    let absent = c.in_err-v.ensures in
    let fault = err_from_is_err_and c.from_residual.result c.from_residual.ensures.1 in
    rw (fault.1, fault.2) (first_absent c.args.a c.args.b (strap_meaning g.N.Netlist.meaning c.args.self.now) absent.0 ∙ ap Some (sym absent.1))

pub returns-in_err-w : goal.returns-in_err-w
returns-in_err-w g c =
    let absent = c.in_err-w.ensures in
    let fault = err_from_is_err_and c.from_residual-in_err-w.result c.from_residual-in_err-w.ensures.1 in
    rw (fault.1, fault.2) (second_absent c.args.a c.args.b (strap_meaning g.N.Netlist.meaning c.args.self.now) absent.0 ∙ ap Some (sym absent.1))

pub returns-then-v-w : goal.returns-then-v-w
returns-then-v-w g c =
    strap_together c.args.a c.args.b (strap_meaning g.N.Netlist.meaning c.args.self.now) c.in_ok-v.v c.in_ok-w.w
    c.in_ok-v.ensures c.in_ok-w.ensures c.if-v-w.true

pub returns : goal.returns
returns g c =
    strap_apart c.args.a c.args.b (strap_meaning g.N.Netlist.meaning c.args.self.now) c.in_ok-v.v c.in_ok-w.w
    c.in_ok-v.ensures c.in_ok-w.ensures c.if-v-w.false
