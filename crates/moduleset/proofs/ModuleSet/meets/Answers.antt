use Rattle.std.proofs.Common.{arith}
use Rattle.moduleset.proofs.Sets.{meets_some}
use Rattle.moduleset.proofs.ModuleSet.meets.Goals as goal

pub returns : goal.returns
returns c = meets_some c.args.self.word c.args.other.word (omega arith) (omega arith)
