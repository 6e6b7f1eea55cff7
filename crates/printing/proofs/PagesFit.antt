-- A page without a fault of its own fits tables of 1,025 starts, 65,536 pins and 1,024 prices, and larger ones.
use Rattle.std.proofs.Common.{◌≡◌, ℕ, zero, suc, ◌+◌, ◌*◌, ◌<◌, ◌≤◌, List, length, Some, None, Option, refl, add-one, arith}
use Rattle.std.proofs.lemmas.Bool.{le-ltb}
use Rattle.std.specs.Option.{option_or}
use Rattle.refusal.specs.declared.Fault.{Fault}
use Rattle.refusal.proofs.CheckLaws.{option_or_none, none_at}
use Rattle.page.specs.Layout.{modules_field, nets_field, pin_count, net_bit, pins_table}
use Rattle.page.specs.Faults.{net_fault, nets_fault, header_fault, page_fault, room_fault, unpack_fault}
use Rattle.page.proofs.TableLaws.{count_more}
use Rattle.page.proofs.Accepted.{few_modules, few_nets}
use Rattle.printing.proofs.FewPins.{net_passed_few}

-- A second check that finds nothing where the first finds nothing tells nothing new.
first_alone : (a b : Option Fault) → (a ≡ None → b ≡ None) → option_or a b ≡ a
first_alone None b h = h refl
first_alone (Some fault) b h = refl

module _ (bytes : List ℕ) (kind : ℕ) where
  module _ (fine : page_fault bytes kind ≡ None) where
    netted : nets_fault bytes (modules_field bytes) (nets_field bytes) ≡ None
    unfolding page_fault
    netted = (option_or_none (nets_fault bytes (modules_field bytes) (nets_field bytes)) _ (option_or_none (header_fault bytes kind) _ fine).1).0

    few_pins : (i : ℕ) → i < nets_field bytes → pin_count bytes (net_bit bytes i) ≤ 64
    few_pins i h =
        let net = none_at (λ j. net_fault bytes (modules_field bytes) (net_bit bytes j)) i (nets_field bytes) netted h in
        omega (arith, few_modules bytes kind fine, net_passed_few bytes (modules_field bytes) (net_bit bytes i) net)

    -- The first n nets have at most 64 n pins.
    pins_few : (n : ℕ) → n ≤ nets_field bytes → length (pins_table bytes n) ≤ 64 * n
    unfolding pins_table
    pins_few zero h = omega arith
    pins_few (suc n) h = omega (arith, pins_few n (omega arith), rw (add-one n) at (count_more bytes n), few_pins n (omega arith))

    -- It has at most 1,024 nets, so there is room for their starts, pins and prices.
    room : (starts pins prices : ℕ) → 1025 ≤ starts → 65536 ≤ pins → 1024 ≤ prices
        → room_fault (nets_field bytes) (length (pins_table bytes (nets_field bytes))) starts pins prices ≡ None
    room starts pins prices s p c =
        let nets = few_nets bytes kind fine in
        let all = pins_few (nets_field bytes) (omega arith) in
        rw (
          le-ltb starts (nets_field bytes + 1) (omega arith),
          le-ltb pins (length (pins_table bytes (nets_field bytes))) (omega arith),
          le-ltb prices (nets_field bytes) (omega arith),
        )

  -- So a page unpacked into such tables is refused by its own fault alone.
  pub pages_fit : (starts pins prices : ℕ) → 1025 ≤ starts → 65536 ≤ pins → 1024 ≤ prices → unpack_fault bytes kind starts pins prices ≡ page_fault bytes kind
  unfolding unpack_fault
  pages_fit starts pins prices s p c = first_alone (page_fault bytes kind) _ (λ fine. room fine starts pins prices s p c)
