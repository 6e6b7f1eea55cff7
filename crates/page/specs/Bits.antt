-- The bits of a page, the most significant of each byte first.
use Rattle.std.specs.Prelude.{ℕ, zero, suc, ◌+◌, ◌-◌, ◌*◌, ◌/◌, ◌%◌, ◌^◌, List, slice_index}

abbrev pub bit_at : List ℕ → ℕ → ℕ
bit_at bytes at = slice_index bytes (at / 8) / 2 ^ (7 - at % 8) % 2

-- the number in the field of some width that begins at a bit
unfoldable pub field_at : List ℕ → ℕ → ℕ → ℕ
field_at bytes at zero = 0
field_at bytes at (suc width) = field_at bytes at width * 2 + bit_at bytes (at + width)
