use Rattle.std.proofs.Common.{sym, arith}
use Rattle.std.proofs.lemmas.Nat.{ones-le}
use Rattle.moduleset.proofs.Members.{length_members}
use Rattle.moduleset.proofs.ModuleSet.size.Goals as goal

pub overflow_cast-result : goal.overflow_cast-result
overflow_cast-result c = omega (arith, ones-le 64 c.args.self.word (omega arith))

pub returns : goal.returns
returns c = sym (length_members c.args.self.word (omega arith))
