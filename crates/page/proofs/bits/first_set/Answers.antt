use Rattle.std.proofs.Common.{◌≡◌, rules, tests}
use Rattle.std.proofs.lemmas.Iterator.{first_from_Range}
use Rattle.page.specs.Bits.{bit_at}
use Rattle.page.proofs.bits.first_set.Goals as goal

pub returns : goal.returns
returns c =
    let bytes = c.args.bytes.now in
    first_from_Range _ _ _ _ (λ k. bit_at bytes k ≡ 1) (λ k. bit_at bytes k ≡ 1 → ⊥) c.find.ensures.ran
    (λ x q k. search (rules, tests))
    (λ x q k. search (rules, tests))
