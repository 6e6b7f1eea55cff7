use Rattle.std.proofs.Common.{◌≡◌, rules, tests, arith}
use Rattle.std.proofs.lemmas.Iterator.{cases_from_any, YieldsList-from_range}
use Rattle.page.specs.Layout.{pin}
use Rattle.page.proofs.PinLaws.{among_searched}
use Rattle.page.proofs.net.Net.repeats.Goals as goal

pub returns : goal.returns
returns c =
    let net = c.args.self.now in
    among_searched net.bytes.now net.at c.args.pin c.args.k c.any.result
    (cases_from_any _ _ _ (λ k. pin net.bytes.now net.at k ≡ c.args.pin) (λ k. pin net.bytes.now net.at k ≡ c.args.pin → ⊥) c.any.ensures.ran
    (YieldsList-from_range 0 c.args.k c.args.k (cc) (omega arith)) (λ x q k. search (rules, tests)) (λ x q k. search (rules, tests)))
