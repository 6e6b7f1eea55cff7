use Rattle.std.proofs.Common.{reverse, refl, ap, ◌∙◌, rules}
use Rattle.plan.proofs.PlanSteps.{latest_more}
use Rattle.plan.proofs.plans.Plan.add.Goals as goal

pub returns : goal.returns
returns g c = record {
  stands = ap reverse c.push.ensures.items ∙ latest_more c.args.self.now.changes.items c.args.change;
  shows = refl;
  below = search rules;
}
