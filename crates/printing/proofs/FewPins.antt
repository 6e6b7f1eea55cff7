-- A net whose pins pass their checks has no more pins than there are modules, since they are distinct modules.
use Rattle.std.proofs.Common.{◌≡◌, ℕ, ◌<◌, ◌≤◌, ltb, List, None, sym, ◌∙◌, arith}
use Rattle.refusal.specs.declared.Place.TheVariants.{Bit}
use Rattle.refusal.specs.declared.Fault.TheVariants.{TooFewPins}
use Rattle.std.specs.Bool.{then_some}
use Rattle.refusal.specs.Checks.{first_fault}
use Rattle.refusal.proofs.CheckLaws.{option_or_none, none_at}
use Rattle.bottom.proofs.Distinct.{distinct_few}
use Rattle.page.specs.Layout.{pin, pin_count, price_bit, net_pins}
use Rattle.page.specs.Faults.{ends, pin_fault, net_fault}
use Rattle.page.proofs.PinLaws.{passed}
use Rattle.page.proofs.TableLaws.{length_net_pins}
use Rattle.page.proofs.Accepted.{net_pin_at}

module _ (bytes : List ℕ) (modules at : ℕ) where
  pub passed_few : (n : ℕ) → first_fault (pin_fault bytes modules at) n ≡ None → n ≤ modules
  passed_few n p =
      let pin_is = net_pin_at bytes at n in
      let long = length_net_pins bytes at n in
      let each : (k : ℕ) → k < n → (pin bytes at k < modules) × ((e : ℕ) → e < k → pin bytes at e ≡ pin bytes at k → ⊥) =
      λ k l. passed bytes at modules k (none_at (pin_fault bytes modules at) k n p l) in
      let few = distinct_few modules (net_pins bytes at n)
      (λ k l. omega (arith, pin_is k (omega arith), (each k (omega arith)).0))
      (λ e k before l same. (each k (omega arith)).1 e before (sym (pin_is e (omega arith)) ∙ sym same ∙ pin_is k (omega arith))) in
      omega arith

  pub net_passed_few : net_fault bytes modules at ≡ None → pin_count bytes at ≤ modules
  unfolding net_fault
  net_passed_few p =
      let whole = option_or_none (ends bytes at 7) _ p in
      let two = option_or_none (then_some (ltb (pin_count bytes at) 2) (TooFewPins (Bit at))) _ whole.1 in
      passed_few (pin_count bytes at) (option_or_none (first_fault (pin_fault bytes modules at) (pin_count bytes at)) (ends bytes (price_bit bytes at) 32) two.1).0
