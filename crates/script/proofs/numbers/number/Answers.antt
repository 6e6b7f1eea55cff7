use Rattle.std.proofs.Common.{◌≡◌, length, sym, ◌∙◌, ⊎_elim, eqb-true, rules, arith}
use borrow.Author.Tests.{eqb-false}
use Rattle.script.proofs.Digits.{not_read, too_long, no_digits, leading_zero, number_read}
use Rattle.script.proofs.numbers.number.Goals as goal

pub returns-then-is_empty : goal.returns-then-is_empty
returns-then-is_empty c =
    not_read _ (λ n. ⊎_elim (λ none. no_digits _ n (eqb-true _ 0 (sym c.is_empty.ensures ∙ none))) (λ long. too_long _ n (omega (arith, long.1))) c.then-is_empty.either)

pub returns-then-bytes-gt1 : goal.returns-then-bytes-gt1
returns-then-bytes-gt1 c = not_read _ (λ n. leading_zero _ n c.if-bytes-gt1.true (search rules))

pub returns : goal.returns
returns c =
    let some : length c.args.bytes.now ≡ 0 → ⊥ = eqb-false _ 0 (sym c.is_empty.ensures ∙ c.if-is_empty.false) in
    number_read _ _ (omega arith) (omega (arith, some))
    (λ led. ⊎_elim (λ short. omega (arith, short.1, some)) (λ other. absurd (other led)) c.else-bytes-eq48.either) c.digits_read.ensures
