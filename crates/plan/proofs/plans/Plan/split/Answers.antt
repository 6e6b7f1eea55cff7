use Rattle.std.proofs.Common.{Err, refl, ap, ◌∙◌}
use Rattle.std.proofs.lemmas.Result.{err_from_is_err_and}
use Rattle.plan.proofs.PlanSteps.{split_refused, split_accepted}
use Rattle.plan.proofs.plans.Plan.split.Goals as goal

pub returns-in_err-found : goal.returns-in_err-found
returns-in_err-found g c =
    let fault = err_from_is_err_and c.from_residual.result c.from_residual.ensures.1 in
    let out = split_refused g.N.Price.Price.kind g.met.N.Price.Price.lawful g.N.Netlist.meaning g.N.Netlist.sound c.args.self.now c.args.cells.now c.find.new.cells
    c.in_err-found.field-0.0 c.from_residual.result c.in_err-found.ensures (fault.1 ∙ ap Err fault.2) in
    record { call = out.0; cells = out.1 }

pub returns : goal.returns
returns g c =
    let out = split_accepted g.N.Price.Price.kind g.met.N.Price.Price.lawful g.N.Netlist.meaning g.N.Netlist.sound c.args.self.now c.args.cells.now c.find.new.cells
    _ c.in_ok-found.found c.in_ok-found.ensures refl refl refl in
    record { call = out.0; cells = out.1 }
