use Rattle.plan.proofs.PlanSteps.{look_on}
use Rattle.plan.proofs.plans.Plan.look.Goals as goal

pub returns : goal.returns
returns g c = look_on g.N.Price.Price.kind g.met.N.Price.Price.lawful g.N.Netlist.meaning g.N.Netlist.sound c.args.self.now
