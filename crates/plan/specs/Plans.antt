-- What a plan is: the netlist below it, the changes that stand and the split that is shown.
use Rattle.std.specs.Prelude.{List, reverse}
use Rattle.netlist.specs.Meaning.{Meaning, Sound}
use Rattle.standing.specs.declared.change.Change.{Change}
use Rattle.plan.specs.declared.plans.Plan.{Plan}
use Rattle.standing.specs.Standing.{applied}
use Rattle.standing.specs.StandingSound.{applied_sound}

-- the latest first
abbrev pub standing_changes : {N P : Type 0} → Plan N P → List Change
standing_changes plan = reverse plan.changes.items

-- the netlist below with the standing changes applied
abbrev pub plan_meaning : {N P : Type 0} → (N → Meaning P) → Plan N P → Meaning P
plan_meaning means plan = applied (means plan.below) (standing_changes plan)

pub plan_sound : {N P : Type 0} (means : N → Meaning P) → ((n : N) → Sound (means n)) → (plan : Plan N P) → Sound (plan_meaning means plan)
plan_sound means sound plan = applied_sound (means plan.below) (sound plan.below) (standing_changes plan)
