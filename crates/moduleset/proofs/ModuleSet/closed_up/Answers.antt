use Rattle.std.proofs.Common.{not, ◌&&◌, ap, ◌∙◌}
use Rattle.moduleset.specs.Words.{has}
use Rattle.moduleset.proofs.Sets.{closed_has}
use Rattle.moduleset.proofs.ModuleSet.closed_up.Goals as goal

pub returns : goal.returns
returns c k h =
    closed_has c.args.self.word c.args.number c.minus-before.result.word c.minus.result.word c.without-after.result.word c.one_lower.result.word c.union.result.word
    (λ j l. c.minus-before.ensures j ∙ ap (λ b. has c.args.self.word j && not b) (c.at_or_past.ensures j l))
    c.minus.ensures c.without-after.ensures c.one_lower.ensures c.union.ensures k h
