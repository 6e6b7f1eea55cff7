use Rattle.std.proofs.Common.{◌≡◌, ℕ, ◌+◌, ◌*◌, ◌%◌, ◌^◌, ◌<◌, ap, ◌∙◌, arith}
use lib.Bits.{bit_or}
use Rattle.std.proofs.lemmas.Nat.{or_shifted}
use Rattle.price.proofs.timers_first.TimersFirstPrice.print_word.Goals as goal

above : (t w : ℕ) → t < 2 ^ 32 → w < 2 ^ 32 → bit_or ((t * 2 ^ 32) % 2 ^ 64) w ≡ t * 2 ^ 32 + w
above t w h k =
    let e : (t * 2 ^ 32) % 2 ^ 64 ≡ t * 2 ^ 32 = omega arith in
    ap (λ x. bit_or x w) e ∙ or_shifted t 32 w k

pub returns : goal.returns
returns c =
    let s = c.args.self in
    ap (λ t. bit_or ((t * 2 ^ 32) % 2 ^ 64) c.from-2.result) c.from.ensures
    ∙ ap (bit_or ((s.timers * 2 ^ 32) % 2 ^ 64)) c.from-2.ensures
    ∙ above s.timers s.wires s.bounded.0 s.bounded.1
