use Rattle.std.proofs.Common.{sym, ◌∙◌, arith}
use Rattle.std.proofs.lemmas.Bool.{le-ltb}
use Rattle.moduleset.proofs.Sets.{has_shifted, has_past}
use Rattle.moduleset.proofs.ModuleSet.has.Goals as goal

pub returns-then-number-lt64 : goal.returns-then-number-lt64
returns-then-number-lt64 c = has_shifted c.args.self.word c.args.number (omega arith)

pub returns-else-number-lt64 : goal.returns-else-number-lt64
returns-else-number-lt64 c = le-ltb c.args.number 64 (omega arith) ∙ sym (has_past c.args.self.word c.args.number (omega arith))
