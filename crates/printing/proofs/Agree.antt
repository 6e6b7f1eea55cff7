-- Two pages with the same first bits: their fields and the faults of their nets, as far as these bits reach, are the same.
use Rattle.std.proofs.Common.{◌≡◌, ℕ, zero, suc, ◌+◌, ◌*◌, ◌<◌, ◌≤◌, eqb, List, length, Some, None, Option, refl, ◌∙◌, inl, inr, arith}
use Rattle.std.proofs.lemmas.Bool.{cases_lt}
use Rattle.refusal.specs.declared.Fault.{Fault}
use Rattle.refusal.specs.Checks.{first_fault}
use Rattle.refusal.proofs.CheckLaws.{some_same, first_same, first_stays}
use Rattle.page.specs.Bits.{bit_at, field_at}
use Rattle.page.specs.Layout.{pin_bit, pin, pin_count, price_bit}
use Rattle.page.specs.Faults.{among, pin_fault, net_fault}
use Rattle.page.proofs.FieldLaws.{holds_whole}
use Rattle.printing.proofs.FewPins.{passed_few}

some_fault : (x : Option Fault) → (x ≡ None → ⊥) → (fault : Fault) × (x ≡ Some fault)
some_fault None h = absurd (h refl)
some_fault (Some fault) h = (fault, refl)

-- the first n bits are the same, and both pages have so many
module _ (a b : List ℕ) (n : ℕ) (same : (at : ℕ) → at < n → bit_at a at ≡ bit_at b at) (a_long : n ≤ 8 * length a) (b_long : n ≤ 8 * length b) where
  pub field_same : (at width : ℕ) → at + width ≤ n → field_at a at width ≡ field_at b at width
  unfolding field_at
  field_same at zero h = refl
  field_same at (suc width) h = rw (field_same at width (omega arith), same (at + width) (omega arith))

  among_same : (at v k : ℕ) → at + 7 + 6 * k ≤ n → among a at v k ≡ among b at v k
  among_same at v k h = some_same (λ i. eqb (pin a at i) v) (λ i. eqb (pin b at i) v) k (λ i l. rw (field_same (pin_bit at i) 6 (omega arith)))

  pin_same : (modules at k : ℕ) → at + 13 + 6 * k ≤ n → pin_fault a modules at k ≡ pin_fault b modules at k
  unfolding pin_fault
  pin_same modules at k h =
      rw (
        holds_whole a (pin_bit at k) 6 (omega arith),
        holds_whole b (pin_bit at k) 6 (omega arith),
        field_same (pin_bit at k) 6 (omega arith),
        among_same at (pin b at k) k (omega arith),
      )

  pins_same : (modules at k : ℕ) → at + 7 + 6 * k ≤ n → first_fault (pin_fault a modules at) k ≡ first_fault (pin_fault b modules at) k
  pins_same modules at k h = first_same _ _ k (λ i l. pin_same modules at i (omega arith))

  -- With more pins than modules, one of the first pins fails, and the price field is not looked at.
  many_pins : (modules at : ℕ) → modules ≤ 64 → at + 423 ≤ n → modules < pin_count b at → net_fault a modules at ≡ net_fault b modules at
  unfolding net_fault
  many_pins modules at few h more =
      let first = some_fault (first_fault (pin_fault b modules at) (modules + 1)) (λ p. let f = passed_few b modules at (modules + 1) p in omega arith) in
      let in_a = first_stays (pin_fault a modules at) first.0 (modules + 1) (pin_count b at) (pins_same modules at (modules + 1) (omega arith) ∙ first.1) (omega arith) in
      let in_b = first_stays (pin_fault b modules at) first.0 (modules + 1) (pin_count b at) first.1 (omega arith) in
      rw (holds_whole a at 7 (omega arith), holds_whole b at 7 (omega arith), field_same at 7 (omega arith), in_a, in_b)

  few_pins : (modules at : ℕ) → modules ≤ 64 → at + 423 ≤ n → pin_count b at ≤ modules → net_fault a modules at ≡ net_fault b modules at
  unfolding net_fault
  few_pins modules at few h less =
      rw (
        holds_whole a at 7 (omega arith),
        holds_whole b at 7 (omega arith),
        field_same at 7 (omega arith),
        pins_same modules at (pin_count b at) (omega arith),
        holds_whole a (price_bit b at) 32 (omega arith),
        holds_whole b (price_bit b at) 32 (omega arith),
      )

  pub net_same : (modules at : ℕ) → modules ≤ 64 → at + 423 ≤ n → net_fault a modules at ≡ net_fault b modules at
  net_same modules at few h =
      elim (cases_lt modules (pin_count b at)) [
        | inl more ↦ many_pins modules at few h more
        | inr less ↦ few_pins modules at few h less
      ]
