-- Bytes parted at a byte.
use Rattle.std.specs.Prelude.{◌≡◌, ℕ, List, ◌∷◌, ◌++◌, ◌≢◌}
use Rattle.std.specs.List.{AllByRecursion}

-- no byte of the list is this one
abbrev pub Without : ℕ → List ℕ → Type 0
Without byte bytes = AllByRecursion (λ b. b ≢ byte) bytes

-- the bytes before and after the first of this byte
pub record Parted (byte : ℕ) (bytes before after : List ℕ) : Type 0 where
  pub whole : bytes ≡ before ++ byte ∷ after
  pub first : Without byte before
