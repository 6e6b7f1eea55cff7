-- The sides word of a split: 64 bits, home module 0 the most significant, 1 for side B, and 0 past the last home module.
use Rattle.std.specs.Prelude.{◌≡◌, ℕ, zero, suc, ◌+◌, ◌-◌, ◌/◌, ◌%◌, ◌^◌, ◌<◌, ◌≤◌, Bool, cond, ◌&&◌, nat_lt}

unfoldable pub sides_word : ℕ → (ℕ → Bool) → ℕ
sides_word zero side = 0
sides_word (suc i) side = sides_word i side + cond (side i) (2 ^ (63 - i)) 0

-- It has 64 bits, and bit i from the top is 1 exactly for a home module i on side B.
pub record HasEachSide (homes : ℕ) (side : ℕ → Bool) (word : ℕ) : Type 0 where
  pub fits : word < 2 ^ 64
  pub bits : (i : ℕ) → i < 64 → word / 2 ^ (63 - i) % 2 ≡ cond (nat_lt i homes && side i) 1 0

abbrev pub SidesWordHasEachSide : Type 0
SidesWordHasEachSide = (homes : ℕ) (side : ℕ → Bool) → homes ≤ 64 → HasEachSide homes side (sides_word homes side)
