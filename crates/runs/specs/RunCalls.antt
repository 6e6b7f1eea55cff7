-- What a run of calls on a new plan answers and leaves.
use Rattle.std.specs.Prelude.{◌≡◌, ℕ, ◌<◌, min, List, [], map, length, take, drop, None, slice_index_or}
use Rattle.price.specs.Kind.{Kind}
use Rattle.netlist.specs.Meaning.{Meaning, homes}
use Rattle.plan.specs.declared.calls.Asked.{Asked}
use Rattle.plan.specs.declared.calls.Asked.TheVariants.{Look}
use Rattle.plan.specs.declared.calls.Answer.{Answer}
use Rattle.plan.specs.Reckoning.{call_of, refusal, stand}
use Rattle.plan.specs.Promise.{Promise}
use Rattle.plan.specs.Runs.{answers_of}
use Rattle.plan.specs.PlanCalls.{CallLeft}

-- each of the first n calls stays what it is, with the row of a split left as the split leaves it
abbrev pub RowsLeft : {P : Type 0} → Kind P → Meaning P → List (Asked P) → List (Asked P) → ℕ → Type 0
RowsLeft k m before after n =
    (i : ℕ) → i < n → CallLeft k (refusal m (stand m (map call_of (take i before))) (call_of (slice_index_or before i Look))) (homes m) (slice_index_or before i Look) (slice_index_or after i Look)

-- So many calls are run as there are answers to write them into. These are answered as is reckoned from what the netlist means and the calls,
-- and the promise holds of them; the answers and calls beyond stay.
pub record RunOf {P : Type 0} (k : Kind P) (m : Meaning P) (calls calls_left : List (Asked P)) (answers answers_left : List (Answer P)) (count : ℕ) : Type 0 where
  pub as_many : count ≡ min (length calls) (length answers)
  pub promise : Promise k m (map call_of (take count calls)) (take count answers_left)
  pub exact : take count answers_left ≡ answers_of k m [] None (map call_of (take count calls))
  pub answers_stay : drop count answers_left ≡ drop count answers
  pub rows_left : RowsLeft k m calls calls_left count
  pub calls_stay : drop count calls_left ≡ drop count calls
