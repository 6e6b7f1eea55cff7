-- Why a page is refused, if it is: the checks in their order, of which the first that fails is told.
use Rattle.std.specs.Prelude.{ℕ, ◌+◌, ◌-◌, ◌*◌, ◌/◌, Bool, not, List, length, Option, ◌==◌, nat_lt}
use Rattle.std.specs.Option.{option_or}
use Rattle.std.specs.Bool.{then_some}
use Rattle.refusal.specs.declared.Place.TheVariants.{Bit}
use Rattle.refusal.specs.declared.Fault.{Fault}
use Rattle.refusal.specs.declared.Fault.TheVariants.{PageEnds, OtherKind, TooManyModules, TooManyNets, TooFewPins, NoSuchModule, RepeatedPin, AfterLastNet, TooShort}
use Rattle.refusal.specs.Checks.{some_below, first_fault}
use Rattle.page.specs.Bits.{bit_at}
use Rattle.page.specs.Layout.{kind_field, modules_field, nets_field, pin_count, pin_bit, pin, price_bit, net_bit, pins_table}

-- how many bytes hold the bits up to a bit
abbrev pub bytes_to : ℕ → ℕ
bytes_to end = (end + 7) / 8

-- a page with so many nets and so many pins in all, unpacked into tables with so many starts, pins and prices: the first table that is too short
abbrev pub room_fault : ℕ → ℕ → ℕ → ℕ → ℕ → Option Fault
room_fault nets count starts pins prices =
    option_or (then_some (nat_lt starts (nets + 1)) (TooShort 1))
    (option_or (then_some (nat_lt pins count) (TooShort 2)) (then_some (nat_lt prices nets) (TooShort 3)))

module _ (bytes : List ℕ) where
  -- the page ends inside the field
  abbrev pub ends : ℕ → ℕ → Option Fault
  ends at width = then_some (nat_lt (8 * length bytes) (at + width)) (PageEnds at)

  -- the header's fields: the kind wanted, at most 64 modules, at most 1,024 nets
  abbrev pub header_fault : ℕ → Option Fault
  header_fault kind =
      option_or (ends 0 4) (option_or (then_some (not (kind_field bytes == kind)) (OtherKind 0))
      (option_or (ends 4 7) (option_or (then_some (nat_lt 64 (modules_field bytes)) (TooManyModules (Bit 4)))
      (option_or (ends 11 11) (then_some (nat_lt 1024 (nets_field bytes)) (TooManyNets (Bit 11)))))))

  -- one of the first n pins of a net is v
  abbrev pub among : ℕ → ℕ → ℕ → Bool
  among at v n = some_below (λ k. pin bytes at k == v) n

  -- pin k of the net at a bit, of so many modules
  unfoldable pub pin_fault : ℕ → ℕ → ℕ → Option Fault
  pin_fault modules at k =
      option_or (ends (pin_bit at k) 6)
      (option_or (then_some (not (nat_lt (pin bytes at k) modules)) (NoSuchModule (Bit (pin_bit at k))))
      (then_some (among at (pin bytes at k) k) (RepeatedPin (Bit (pin_bit at k)))))

  -- the net at a bit: its pin count, which is two and more, its pins, its price
  unfoldable pub net_fault : ℕ → ℕ → Option Fault
  net_fault modules at =
      option_or (ends at 7) (option_or (then_some (nat_lt (pin_count bytes at) 2) (TooFewPins (Bit at)))
      (option_or (first_fault (pin_fault modules at) (pin_count bytes at)) (ends (price_bit bytes at) 32)))

  abbrev pub nets_fault : ℕ → ℕ → Option Fault
  nets_fault modules n = first_fault (λ i. net_fault modules (net_bit bytes i)) n

  -- after the last net: a pad bit that is set, else a byte that follows
  unfoldable pub pad_fault : ℕ → Option Fault
  pad_fault end =
      option_or (first_fault (λ k. then_some (bit_at bytes (end + k) == 1) (AfterLastNet (end + k))) (8 * bytes_to end - end))
      (then_some (nat_lt (bytes_to end) (length bytes)) (AfterLastNet (8 * bytes_to end)))

  -- the page itself, where a kind is wanted
  unfoldable pub page_fault : ℕ → Option Fault
  page_fault kind =
      option_or (header_fault kind) (option_or (nets_fault (modules_field bytes) (nets_field bytes)) (pad_fault (net_bit bytes (nets_field bytes))))

  -- the page, and then the tables
  unfoldable pub unpack_fault : ℕ → ℕ → ℕ → ℕ → Option Fault
  unpack_fault kind starts pins prices =
      option_or (page_fault kind) (room_fault (nets_field bytes) (length (pins_table bytes (nets_field bytes))) starts pins prices)
