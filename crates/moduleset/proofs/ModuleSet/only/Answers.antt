use Rattle.std.proofs.Common.{sym, ◌∙◌}
use Rattle.moduleset.specs.Words.{members}
use Rattle.moduleset.proofs.Members.{lone_none, lone_first}
use Rattle.moduleset.proofs.ModuleSet.only.Goals as goal

pub returns-then-size-eq1 : goal.returns-then-size-eq1
returns-then-size-eq1 c = c.lowest.ensures ∙ sym (lone_first (members c.args.self.word) (sym c.size.ensures ∙ c.if-size-eq1.true))

pub returns-else-size-eq1 : goal.returns-else-size-eq1
returns-else-size-eq1 c = sym (lone_none (members c.args.self.word) (λ e. c.if-size-eq1.false (c.size.ensures ∙ e)))
