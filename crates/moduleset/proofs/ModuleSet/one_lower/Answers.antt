use Rattle.moduleset.proofs.Sets.{has_one_lower}
use Rattle.moduleset.proofs.ModuleSet.one_lower.Goals as goal

pub returns : goal.returns
returns c k h = has_one_lower c.args.self.word k h
