use Rattle.std.proofs.Common.{sym, ◌∙◌, arith}
use Rattle.std.proofs.lemmas.Bool.{lt-leb}
use Rattle.moduleset.proofs.Sets.{has_at_or_past}
use Rattle.moduleset.proofs.ModuleSet.at_or_past.Goals as goal

pub returns-then-first-ge64 : goal.returns-then-first-ge64
returns-then-first-ge64 c k h = c.empty.ensures k ∙ sym (lt-leb c.args.first k (omega arith))

pub returns : goal.returns
returns c k h = has_at_or_past c.args.first k (omega arith) h
