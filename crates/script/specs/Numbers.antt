-- The numbers of a script line.
use Rattle.std.specs.Prelude.{◌≡◌, ℕ, ◌<◌, List, Some, decimal, Option}

-- the bytes are a number of 1 to 4 digits
pub record IsNumber (bytes : List ℕ) (n : ℕ) : Type 0 where
  pub short : n < 10000
  pub digits : bytes ≡ decimal n

-- the answer is the number that the bytes are, if any
pub record NumberRead (bytes : List ℕ) (answer : Option ℕ) : Type 0 where
  pub read : (n : ℕ) → IsNumber bytes n → answer ≡ Some n
  pub only : (n : ℕ) → answer ≡ Some n → IsNumber bytes n
