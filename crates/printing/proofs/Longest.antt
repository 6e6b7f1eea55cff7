-- A page without a fault has at most 54,147 bytes.
use Rattle.std.proofs.Common.{◌≡◌, ℕ, zero, suc, ◌+◌, ◌-◌, ◌*◌, ◌≤◌, not, eqb, ltb, List, length, None, arith}
use Rattle.std.proofs.lemmas.Bool.{ltb-false}
use Rattle.refusal.specs.declared.Place.TheVariants.{Bit}
use Rattle.refusal.specs.declared.Fault.TheVariants.{OtherKind, TooManyModules, TooManyNets, AfterLastNet}
use Rattle.std.specs.Bool.{then_some}
use Rattle.refusal.specs.Checks.{first_fault}
use Rattle.refusal.proofs.CheckLaws.{option_or_none, then_some_none}
use Rattle.page.specs.Bits.{bit_at}
use Rattle.page.specs.Layout.{kind_field, modules_field, nets_field, net_bit}
use Rattle.page.specs.Faults.{ends, bytes_to, net_fault, nets_fault, header_fault, pad_fault, page_fault}
use Rattle.printing.proofs.FewPins.{net_passed_few}

module _ (bytes : List ℕ) where
  -- at most 64 modules and 1,024 nets
  pub header_few : (kind : ℕ) → header_fault bytes kind ≡ None → (modules_field bytes ≤ 64) × (nets_field bytes ≤ 1024)
  header_few kind p =
      let a = option_or_none (ends bytes 0 4) _ p in
      let b = option_or_none (then_some (not (eqb (kind_field bytes) kind)) (OtherKind 0)) _ a.1 in
      let c = option_or_none (ends bytes 4 7) _ b.1 in
      let d = option_or_none (then_some (ltb 64 (modules_field bytes)) (TooManyModules (Bit 4))) _ c.1 in
      let e = option_or_none (ends bytes 11 11) (then_some (ltb 1024 (nets_field bytes)) (TooManyNets (Bit 11))) d.1 in (
        ltb-false 64 (modules_field bytes) (then_some_none _ (TooManyModules (Bit 4)) d.0),
        ltb-false 1024 (nets_field bytes) (then_some_none _ (TooManyNets (Bit 11)) e.1),
      )

  -- A net takes at most 7 bits, 64 times 6 and 32.
  pub nets_reach : (modules n : ℕ) → modules ≤ 64 → nets_fault bytes modules n ≡ None → net_bit bytes n ≤ 22 + 423 * n
  unfolding net_bit first_fault
  nets_reach modules zero few p = omega arith
  nets_reach modules (suc n) few p =
      let both = option_or_none (nets_fault bytes modules n) (net_fault bytes modules (net_bit bytes n)) p in
      omega (arith, nets_reach modules n few both.0, net_passed_few bytes modules (net_bit bytes n) both.1)

  pad_reach : (end : ℕ) → pad_fault bytes end ≡ None → length bytes ≤ bytes_to end
  unfolding pad_fault
  pad_reach end p =
      let both = option_or_none (first_fault (λ k. then_some (eqb (bit_at bytes (end + k)) 1) (AfterLastNet (end + k))) (8 * bytes_to end - end)) _ p in
      ltb-false (bytes_to end) (length bytes) (then_some_none _ (AfterLastNet (8 * bytes_to end)) both.1)

  pub at_most : (kind : ℕ) → page_fault bytes kind ≡ None → length bytes ≤ 54147
  unfolding page_fault
  at_most kind p =
      let headed = option_or_none (header_fault bytes kind) _ p in
      let netted = option_or_none (nets_fault bytes (modules_field bytes) (nets_field bytes)) _ headed.1 in
      let few = header_few kind headed.0 in
      let modules = few.0 in
      let nets = few.1 in
      let reach = nets_reach (modules_field bytes) (nets_field bytes) modules netted.0 in
      let padded = pad_reach (net_bit bytes (nets_field bytes)) netted.1 in
      omega arith
