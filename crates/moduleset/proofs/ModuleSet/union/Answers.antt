use Rattle.moduleset.proofs.Sets.{has_or}
use Rattle.moduleset.proofs.ModuleSet.union.Goals as goal

pub returns : goal.returns
returns c k = has_or c.args.self.word c.args.other.word k
