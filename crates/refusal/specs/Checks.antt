-- Checks in a row, of which the first that fails is told.
use Rattle.std.specs.Prelude.{ℕ, zero, suc, Bool, false, ◌||◌, Some, None, Ok, Err, Option, Result}
use Rattle.std.specs.Option.{option_or}
use Rattle.refusal.specs.declared.Fault.{Fault}

-- some number below n passes the test
unfoldable pub some_below : (ℕ → Bool) → ℕ → Bool
some_below test zero = false
some_below test (suc n) = some_below test n || test n

-- the first fault of the checks 0, 1, .. below n
unfoldable pub first_fault : (ℕ → Option Fault) → ℕ → Option Fault
first_fault check zero = None
first_fault check (suc n) = option_or (first_fault check n) (check n)

-- what a check answers that finds this fault, or none
abbrev pub checked : Option Fault → Result (Unit {0}) Fault
checked None = Ok tt
checked (Some fault) = Err fault
