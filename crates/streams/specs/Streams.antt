-- What is taken from a reader, and what is put into a writer, where the bytes that these have are known.
use Rattle.std.specs.Prelude.{◌≡◌, ◌≢◌, ℕ, ◌<◌, ◌≤◌, List, [], ◌++◌, length, Option}
use Rattle.std.specs.Io.KnownBytes.{Consumes, Appends, IsAtEnd}

-- At most so many bytes are taken.
pub record TakesAtMost (most : ℕ) (left left' : Option (List ℕ)) : Type 0 where
  pub bytes : List ℕ
  pub taken : Consumes left left' bytes
  pub few : length bytes ≤ most

-- These bytes are taken, so many; fewer only where no more are left.
pub record TakesFirst (most : ℕ) (left left' : Option (List ℕ)) (bytes : List ℕ) : Type 0 where
  pub taken : Consumes left left' bytes
  pub few : length bytes ≤ most
  pub whole : length bytes < most → IsAtEnd left'

-- A first part of the bytes is put after what the writer had, and some byte is not.
pub record PutsFirst (had has : Option (List ℕ)) (bytes : List ℕ) : Type 0 where
  pub put : List ℕ
  pub rest : List ℕ
  pub parts : bytes ≡ put ++ rest
  pub some_left : rest ≢ []
  pub appended : Appends had has put
