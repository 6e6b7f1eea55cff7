use Rattle.std.proofs.Common.{ℕ, ◌-◌, ◌^◌, not, ◌&&◌, ap, ◌∙◌, arith}
use lib.Bits.{bit_and}
use Rattle.std.proofs.lemmas.Nat.{one_shl, pow_below}
use Rattle.moduleset.specs.Words.{has}
use Rattle.moduleset.proofs.Sets.{has_and, has_complement, has_one}
use Rattle.moduleset.proofs.ModuleSet.without.Goals as goal

pub returns : goal.returns
returns c k h =
    let w : ℕ = c.args.self.word in
    let v : ℕ = c.args.number in
    ap (λ (x : ℕ). has (bit_and w ((2 ^ 64 - 1) - x)) k) (one_shl (63 - v) 64 (omega arith)) ∙ has_and w _ k
    ∙ ap (λ b. has w k && b) (has_complement (2 ^ (63 - v)) k (pow_below (63 - v) 64 (omega arith)) h ∙ ap not (has_one v k (omega arith) h))
