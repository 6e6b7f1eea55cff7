use Rattle.std.proofs.Common.{Err, ap, ◌∙◌, arith}
use Rattle.std.proofs.lemmas.Result.{err_from_is_err_and}
use Rattle.refusal.proofs.CheckLaws.{accepted, refused}
use Rattle.plan.specs.Reckoning.{making}
use Rattle.plan.specs.Plans.{standing_changes}
use Rattle.std.proofs.lemmas.List.{length-reverse}
use Rattle.plan.proofs.PlanSteps.{change_room, change_refused, change_done}
use Rattle.plan.proofs.plans.Plan.make_change.Goals as goal

pub returns-in_err-check_change : goal.returns-in_err-check_change
returns-in_err-check_change g c =
    let plan = c.args.self.now in
    let fault = err_from_is_err_and c.from_residual.result c.from_residual.ensures.1 in
    change_refused g.N.Price.Price.kind g.met.N.Price.Price.lawful g.N.Netlist.meaning g.N.Netlist.sound (making c.args.change) plan
    c.in_err-check_change.field-0.0 c.from_residual.result (refused _ _ c.in_err-check_change.ensures) (fault.1 ∙ ap Err fault.2)

pub add-requires : goal.add-requires
add-requires g c =
    let plan = c.args.self.now in
    let long = length-reverse plan.changes.items in
    let room = change_room (g.N.Netlist.meaning plan.below) (standing_changes plan) c.args.change (accepted _ _ c.in_ok-check_change.ensures) in
    omega arith

pub returns : goal.returns
returns g c =
    change_done g.N.Price.Price.kind g.met.N.Price.Price.lawful g.N.Netlist.meaning g.N.Netlist.sound c.args.self.now c.add.new.self
    c.add.ensures.below c.args.change (accepted _ _ c.in_ok-check_change.ensures) c.add.ensures.stands c.add.ensures.shows
