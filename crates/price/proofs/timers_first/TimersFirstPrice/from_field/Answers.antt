use Rattle.std.proofs.Common.{◌≡◌, ℕ, ◌/◌, ◌%◌, ◌^◌, ◌<◌, ◌∙◌, arith, rules}
use Rattle.std.proofs.lemmas.Nat.{and_mask}
use Rattle.std.proofs.lemmas.Bool.Decides.{nat_tests}
use Rattle.price.specs.TimersFirst.{stopped_wires}
use Rattle.price.specs.KindLaws.{same_timers_first}
use Rattle.price.proofs.timers_first.TimersFirstPrice.from_field.Goals as goal

-- sixteen bits of each part never stop
unstopped : (bits : ℕ) → bits < 2 ^ 32 → bits % 2 ^ 16 ≡ stopped_wires (bits / 2 ^ 16) (bits % 2 ^ 16)
unstopped bits h = grind (arith, nat_tests)

pub returns : goal.returns
returns c = same_timers_first _ _ (search rules) (and_mask c.args.bits 16 ∙ unstopped c.args.bits (omega arith))
