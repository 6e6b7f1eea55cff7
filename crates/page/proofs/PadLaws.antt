-- Laws of the bits after the last net.
use Rattle.std.proofs.Common.{◌≡◌, ℕ, ◌+◌, ◌-◌, ◌*◌, ◌<◌, ◌≤◌, eqb, ltb, List, length, Some, None, Option, arith}
use Rattle.std.proofs.lemmas.Bool.{eq-eqb, ne_eqb}
use Rattle.std.specs.Bool.{then_some}
use Rattle.refusal.specs.declared.Fault.{Fault}
use Rattle.refusal.specs.declared.Fault.TheVariants.{AfterLastNet}
use Rattle.refusal.specs.Checks.{first_fault}
use Rattle.refusal.proofs.CheckLaws.{first_of_none, first_at, or_some, or_none, then_some_true, then_some_false}
use Rattle.page.specs.Bits.{bit_at}
use Rattle.page.specs.Faults.{bytes_to, pad_fault}

module _ (bytes : List ℕ) (end : ℕ) where
  check : ℕ → Option Fault
  check k = then_some (eqb (bit_at bytes (end + k)) 1) (AfterLastNet (end + k))

  none_set : (n : ℕ) → ((at : ℕ) → end ≤ at → at < end + n → bit_at bytes at ≡ 1 → ⊥) → first_fault check n ≡ None
  unfolding check
  none_set n clear = first_of_none check n (λ k h. then_some_false _ _ (ne_eqb _ 1 (clear (end + k) (omega arith) (omega arith))))

  pub pad_set : (at : ℕ) → end ≤ at → at < 8 * bytes_to end → bit_at bytes at ≡ 1 → ((b : ℕ) → end ≤ b → b < at → bit_at bytes b ≡ 1 → ⊥)
      → pad_fault bytes end ≡ Some (AfterLastNet at)
  unfolding pad_fault check
  pad_set at low high set clear =
      let e : end + (at - end) ≡ at = omega arith in
      or_some _
      (first_at check (AfterLastNet at) (at - end) (8 * bytes_to end - end) (none_set (at - end) (λ b l h. clear b l (omega arith)))
      (rw e (then_some_true _ _ (eq-eqb (bit_at bytes at) 1 set))) (omega arith))

  pub pad_clear : ((b : ℕ) → end ≤ b → b < 8 * bytes_to end → bit_at bytes b ≡ 1 → ⊥)
      → pad_fault bytes end ≡ then_some (ltb (bytes_to end) (length bytes)) (AfterLastNet (8 * bytes_to end))
  unfolding pad_fault check
  pad_clear clear = or_none _ (none_set (8 * bytes_to end - end) (λ b l h. clear b l (omega arith)))
