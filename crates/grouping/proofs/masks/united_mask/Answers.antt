use Rattle.std.proofs.Common.{ℕ, ap, subst, sym, ◌∙◌}
use Rattle.moduleset.specs.Words.{has as is_in, opened_at}
use Rattle.grouping.specs.Masks.{AlsoHas}
use Rattle.grouping.proofs.UnitedSets.{united_with, united_without}
use Rattle.grouping.proofs.masks.united_mask.Goals as goal

pub returns-then-has : goal.returns-then-has
returns-then-has c = record {
  united = λ pins s.
      united_with c.args.mask.word c.args.a c.args.b c.closed_up-closed.result.word pins s
      (λ v h. c.closed_up-closed.ensures v h ∙ ap (λ (x : ℕ). is_in c.args.mask.word (opened_at x v)) c.max-higher.ensures)
      c.with.result.word (ap (is_in c.args.mask.word) (sym c.max-higher.ensures) ∙ sym c.has.ensures ∙ c.if-has.true)
      (subst (AlsoHas c.closed_up-closed.result.word c.with.result.word) c.min.ensures c.with.ensures);
}

pub returns-else-has : goal.returns-else-has
returns-else-has c = record {
  united = λ pins s.
      united_without c.args.mask.word c.args.a c.args.b c.closed_up-closed.result.word pins s
      (λ v h. c.closed_up-closed.ensures v h ∙ ap (λ (x : ℕ). is_in c.args.mask.word (opened_at x v)) c.max-higher.ensures)
      (ap (is_in c.args.mask.word) (sym c.max-higher.ensures) ∙ sym c.has.ensures ∙ c.if-has.false);
}
