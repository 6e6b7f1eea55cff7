-- What a list of calls is answered and leaves shown, and what a call adds to the promise over the calls before it.
use Rattle.std.specs.Prelude.{◌≡◌, List, [], ◌∷◌, ◌++◌, None, Option}
use Rattle.price.specs.Kind.{Kind}
use Rattle.netlist.specs.Meaning.{Meaning}
use Rattle.cut.specs.declared.found.FoundSplit.{FoundSplit}
use Rattle.standing.specs.declared.change.Change.{Change}
use Rattle.plan.specs.declared.calls.Answer.{Answer}
use Rattle.standing.specs.Standing.{applied}
use Rattle.plan.specs.Reckoning.{Call, refusal, left_by, stand, found, shown_by, answer_by}
use Rattle.plan.specs.Promise.{Promise}

-- What a call leaves where the changes cs stand over m and o is shown.
pub record Leaves {P : Type 0} (k : Kind P) (m : Meaning P) (cs : List Change) (o : Option (FoundSplit P)) (call : Call) (cs_left : List Change) (o_left : Option (FoundSplit P)) : Type 0 where
  pub changes : cs_left ≡ left_by (refusal m cs call) cs call
  pub shown : o_left ≡ shown_by (refusal m cs call) (found k (applied m cs)) o call

-- the answer to a call there
abbrev pub answer_to : {P : Type 0} → Kind P → Meaning P → List Change → Option (FoundSplit P) → Call → Answer P
answer_to k m cs o call = answer_by (refusal m cs call) (found k (applied m cs)) o call

-- what is shown after a list of calls
abbrev pub shown_after : {P : Type 0} → Kind P → Meaning P → List Change → Option (FoundSplit P) → List Call → Option (FoundSplit P)
shown_after k m cs o [] = o
shown_after k m cs o (call ∷ calls) = shown_after k m (left_by (refusal m cs call) cs call) (shown_by (refusal m cs call) (found k (applied m cs)) o call) calls

-- the answers to a list of calls
abbrev pub answers_of : {P : Type 0} → Kind P → Meaning P → List Change → Option (FoundSplit P) → List Call → List (Answer P)
answers_of k m cs o [] = []
answers_of k m cs o (call ∷ calls) =
    answer_to k m cs o call ∷ answers_of k m (left_by (refusal m cs call) cs call) (shown_by (refusal m cs call) (found k (applied m cs)) o call) calls

-- These calls on a new plan over m were answered so; now the changes cs stand and o is shown.
pub record Ran {P : Type 0} (k : Kind P) (m : Meaning P) (calls : List Call) (cs : List Change) (o : Option (FoundSplit P)) (answers : List (Answer P)) : Type 0 where
  pub stands : cs ≡ stand m calls
  pub shows : o ≡ shown_after k m [] None calls
  pub answered : answers ≡ answers_of k m [] None calls

-- A call where the changes cs stand and o is shown, answered so, that leaves others: whatever calls and answers led there,
-- these and this call led to what it leaves, and the promise holds of all of them.
pub record KeepsPromise {P : Type 0} (k : Kind P) (m : Meaning P) (cs : List Change) (o : Option (FoundSplit P)) (call : Call) (answer : Answer P)
    (cs_left : List Change) (o_left : Option (FoundSplit P)) : Type 0 where
  pub goes_on : (calls : List Call) (answers : List (Answer P)) → Ran k m calls cs o answers → Ran k m (calls ++ call ∷ []) cs_left o_left (answers ++ answer ∷ [])
  pub promise : (calls : List Call) (answers : List (Answer P)) → Ran k m calls cs o answers → Promise k m (calls ++ call ∷ []) (answers ++ answer ∷ [])
