-- Where the fields of a page stand, and what they say.
use Rattle.std.specs.Prelude.{ℕ, zero, suc, ◌+◌, ◌*◌, List, [], ◌∷◌, ◌++◌, length}
use Rattle.price.specs.Kind.{Kind}
use Rattle.page.specs.Bits.{field_at}

-- the first bit of pin k of the net that begins at a bit
abbrev pub pin_bit : ℕ → ℕ → ℕ
pin_bit at k = at + 7 + 6 * k

module _ (bytes : List ℕ) where
  -- the header: kind 4 bits, modules 7, nets 11
  abbrev pub kind_field : ℕ
  kind_field = field_at bytes 0 4

  abbrev pub modules_field : ℕ
  modules_field = field_at bytes 4 7

  abbrev pub nets_field : ℕ
  nets_field = field_at bytes 11 11

  -- A net that begins at a bit: its pin count 7 bits, each pin 6, its price 32.
  abbrev pub pin_count : ℕ → ℕ
  pin_count at = field_at bytes at 7

  abbrev pub pin : ℕ → ℕ → ℕ
  pin at k = field_at bytes (pin_bit at k) 6

  abbrev pub price_bit : ℕ → ℕ
  price_bit at = pin_bit at (pin_count at)

  abbrev pub price_field : ℕ → ℕ
  price_field at = field_at bytes (price_bit at) 32

  -- the first bit after the net
  abbrev pub net_end : ℕ → ℕ
  net_end at = price_bit at + 32

  -- the first bit of net i
  unfoldable pub net_bit : ℕ → ℕ
  net_bit zero = 22
  net_bit (suc i) = net_end (net_bit i)

  -- the first n pins of a net
  unfoldable pub net_pins : ℕ → ℕ → List ℕ
  net_pins at zero = []
  net_pins at (suc n) = net_pins at n ++ (pin at n ∷ [])

  -- The tables of the first n nets: their pins one after the other, where each net's pins start (and the last one's end), and their prices.
  unfoldable pub pins_table : ℕ → List ℕ
  pins_table zero = []
  pins_table (suc i) = pins_table i ++ net_pins (net_bit i) (pin_count (net_bit i))

  unfoldable pub starts_table : ℕ → List ℕ
  starts_table zero = 0 ∷ []
  starts_table (suc i) = starts_table i ++ (length (pins_table (suc i)) ∷ [])

  unfoldable pub prices_table : {P : Type 0} → Kind P → ℕ → List P
  prices_table k zero = []
  prices_table k (suc i) = prices_table k i ++ (k.field (price_field (net_bit i)) ∷ [])
