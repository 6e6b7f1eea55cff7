use Rattle.std.proofs.Common.{Err, sym, ap, ◌∙◌}
use Rattle.std.proofs.lemmas.Result.{err_from_is_err_and}
use Rattle.refusal.proofs.CheckLaws.{accepted, refused}
use Rattle.standing.specs.Standing.{change_fault}
use Rattle.plan.specs.Plans.{standing_changes}
use Rattle.plan.proofs.PlanSteps.{layers_refuse, room_tells}
use Rattle.plan.proofs.plans.Plan.check_change.Goals as goal

pub returns-in_err-apply_change : goal.returns-in_err-apply_change
returns-in_err-apply_change g c =
    let plan = c.args.self.now in
    let fault = err_from_is_err_and c.from_residual.result c.from_residual.ensures.1 in
    layers_refuse (g.N.Netlist.meaning plan.below) (standing_changes plan) c.args.change c.in_err-apply_change.field-0.0 c.from_residual.result
    (ap (change_fault c.args.change) (sym c.standing.ensures) ∙ refused _ _ c.in_err-apply_change.ensures.checked) (fault.1 ∙ ap Err fault.2)

pub returns : goal.returns
returns g c =
    let plan = c.args.self.now in
    room_tells (g.N.Netlist.meaning plan.below) (standing_changes plan) c.args.change c.check_room.result
    (ap (change_fault c.args.change) (sym c.standing.ensures) ∙ accepted _ _ c.in_ok-apply_change.ensures.checked) c.check_room.ensures
