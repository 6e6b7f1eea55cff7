use Rattle.std.proofs.Common.{◌≡◌, ◌<◌, [], ◌∷◌, ◌++◌, Err, sym, refl, ap, ◌∙◌, subst, arith}
use Rattle.std.specs.Option.{IsSome, IfNone, option_to_list}
use Rattle.std.proofs.lemmas.Bool.{false≢true}
use Rattle.std.proofs.lemmas.Result.{err_from_is_err_and}
use Rattle.arrayvec.specs.ArrayVec.{array_vec_len}
use Rattle.refusal.specs.declared.Fault.TheVariants.{NothingToTakeBack}
use Rattle.plan.specs.Reckoning.{take_back}
use Rattle.plan.specs.Plans.{standing_changes}
use Rattle.plan.specs.PlanCalls.{of_change, CallOn}
use Rattle.plan.proofs.PlanSteps.{latest_fewer, none_to_take_back, some_to_take_back, take_back_by, change_refused, take_back_done, err_of_ok_or, ok_of_ok_or}
use Rattle.plan.proofs.plans.Plan.take_back.Goals as goal

pub returns-in_err-ok_or : goal.returns-in_err-ok_or
returns-in_err-ok_or g c =
    let k = g.N.Price.Price.kind in
    let means = g.N.Netlist.meaning in
    let plan = c.args.self.now in
    let fault = err_from_is_err_and c.from_residual.result c.from_residual.ensures.1 in
    let absent = err_of_ok_or c.pop.result NothingToTakeBack c.in_err-ok_or.field-0.0 c.in_err-ok_or.ensures.value in
    let none : (0 < array_vec_len plan.changes) → ⊥ = λ h. false≢true (subst IsSome absent.0 (c.pop.ensures.variant.1 h)) in
    let same : c.pop.new.self ≡ plan.changes = subst (λ o. IfNone o (c.pop.new.self ≡ plan.changes)) absent.0 c.pop.ensures.empty in
    subst (λ changes. CallOn k means take_back plan (record { below = plan.below; changes = changes; shown = plan.shown }) (of_change c.from_residual.result)) (sym same)
    (change_refused k g.met.N.Price.Price.lawful means g.N.Netlist.sound take_back plan NothingToTakeBack c.from_residual.result
    (take_back_by (means plan.below) (standing_changes plan) ∙ none_to_take_back plan.changes.items (omega (arith, none)))
    (fault.1 ∙ ap Err (fault.2 ∙ absent.1)))

pub returns : goal.returns
returns g c =
    let plan = c.args.self.now in
    let means = g.N.Netlist.meaning in
    let latest = c.in_ok-ok_or.field-0 in
    let taken : plan.changes.items ≡ c.pop.new.self.items ++ latest ∷ [] =
    c.pop.ensures.items ∙ ap (λ o. c.pop.new.self.items ++ option_to_list o) (ok_of_ok_or c.pop.result NothingToTakeBack latest c.in_ok-ok_or.ensures.value) in
    take_back_done g.N.Price.Price.kind g.met.N.Price.Price.lawful means g.N.Netlist.sound plan _ refl
    (take_back_by (means plan.below) (standing_changes plan) ∙ some_to_take_back plan.changes.items c.pop.new.self.items latest taken)
    (latest_fewer plan.changes.items c.pop.new.self.items latest taken) refl
