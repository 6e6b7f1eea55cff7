use Rattle.std.proofs.Common.{ℕ, ◌-◌, ◌||◌, ap, ◌∙◌, arith}
use lib.Bits.{bit_or}
use Rattle.std.proofs.lemmas.Nat.{one_shl}
use Rattle.moduleset.specs.Words.{has}
use Rattle.moduleset.proofs.Sets.{has_or, has_one}
use Rattle.moduleset.proofs.ModuleSet.with.Goals as goal

pub returns : goal.returns
returns c k h =
    let w : ℕ = c.args.self.word in
    let v : ℕ = c.args.number in
    ap (λ (x : ℕ). has (bit_or w x) k) (one_shl (63 - v) 64 (omega arith)) ∙ has_or w _ k
    ∙ ap (λ b. has w k || b) (has_one v k (omega arith) h)
