use Rattle.std.proofs.Common.{arith}
use Rattle.moduleset.proofs.Sets.{has_minus}
use Rattle.moduleset.proofs.ModuleSet.minus.Goals as goal

pub returns : goal.returns
returns c k = has_minus c.args.self.word c.args.other.word k (omega arith)
