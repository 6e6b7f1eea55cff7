use Rattle.std.proofs.Common.{◌<◌, length, Some, None, sym, ap, arith, rules}
use Rattle.std.proofs.lemmas.Bool.{lt-ltb, cond-true}
use Rattle.arrayvec.specs.ArrayVec.{array_vec_len}
use Rattle.refusal.specs.declared.Fault.TheVariants.{PlanFull}
use Rattle.refusal.specs.Checks.{checked}
use Rattle.plan.specs.Plans.{standing_changes}
use Rattle.std.proofs.lemmas.List.{length-reverse}
use Rattle.plan.proofs.plans.Plan.check_room.Goals as goal

pub returns : goal.returns
returns g c =
    let plan = c.args.self.now in
    let long = length-reverse plan.changes.items in
    let room : array_vec_len plan.changes < 64 = search rules in
    sym (ap checked (cond-true _ None (Some PlanFull) (lt-ltb (length (standing_changes plan)) 64 (omega arith))))
