-- The lines of a script.
use Rattle.std.specs.Prelude.{◌≡◌, ℕ, ◌<◌, cond, ◌⊎◌, List, [], ◌∷◌, length, ◌==◌}
use Rattle.script.specs.Pieces.{Without, Parted}

-- a byte put before the first line; where there is none it is a line alone
abbrev pub onto_first : ℕ → List (List ℕ) → List (List ℕ)
onto_first byte [] = (byte ∷ []) ∷ []
onto_first byte (line ∷ lines) = (byte ∷ line) ∷ lines

-- Byte 0x0A ends a line; the last line perhaps has none, and nothing stands after the last 0x0A.
abbrev pub lines_of : List ℕ → List (List ℕ)
lines_of [] = []
lines_of (byte ∷ bytes) = cond (byte == 10) ([] ∷ lines_of bytes) (onto_first byte (lines_of bytes))

-- the first line of a script, and what follows it
pub record FirstLine (script line rest : List ℕ) : Type 0 where
  pub some : 0 < length script
  pub ended : Parted 10 script line rest ⊎ ((script ≡ line) × (rest ≡ []) × Without 10 line)
