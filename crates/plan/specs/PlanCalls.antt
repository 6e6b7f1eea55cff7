-- What a call on a plan answers and leaves.
use Rattle.std.specs.Prelude.{◌≡◌, ℕ, List, [], Some, None, Ok, Err, vec_items, Option, Result}
use Rattle.refusal.specs.declared.Fault.{Fault}
use Rattle.price.specs.Kind.{Kind}
use Rattle.netlist.specs.Meaning.{Meaning}
use Rattle.cut.specs.declared.found.FoundSplit.{FoundSplit}
use Rattle.partition.specs.Pulls.{cleared}
use Rattle.plan.specs.declared.calls.Answer.{Answer}
use Rattle.plan.specs.declared.calls.Answer.TheVariants.{Done, Refused, Found}
use Rattle.plan.specs.declared.plans.Plan.{Plan}
use Rattle.plan.specs.declared.calls.Asked.{Asked}
use Rattle.plan.specs.declared.calls.Asked.TheVariants.{Strap, Mute, TakeBack, Split, Look}
use Rattle.plan.specs.Reckoning.{Call, strap, mute, take_back, split, look, call_of, refusal}
use Rattle.plan.specs.Runs.{Leaves, answer_to, Ran, KeepsPromise}
use Rattle.plan.specs.Plans.{standing_changes}

-- the answer of a change or take back, and that of a split
abbrev pub of_change : {P : Type 0} → Result (Unit {0}) Fault → Answer P
of_change (Ok _) = Done
of_change (Err fault) = Refused fault

abbrev pub of_split : {P : Type 0} → Result (FoundSplit P) Fault → Answer P
of_split (Ok found) = Found found
of_split (Err fault) = Refused fault

-- These calls on a new plan over the netlist below were answered so, and led to this plan.
abbrev pub LedTo : {N P : Type 0} → Kind P → (N → Meaning P) → List Call → List (Answer P) → Plan N P → Type 0
LedTo k means calls answers plan = Ran k (means plan.below) calls (standing_changes plan) plan.shown answers

-- why a call on a plan is refused
abbrev pub refusal_on : {N P : Type 0} → (N → Meaning P) → Plan N P → Call → Option Fault
refusal_on means plan call = refusal (means plan.below) (standing_changes plan) call

-- A call on a plan: it is answered and leaves the changes and what is shown as is reckoned from what the netlist below means,
-- it leaves that netlist, and refused it leaves the whole plan. With it the promise holds of every history that leads here.
pub record CallOn {N P : Type 0} (k : Kind P) (means : N → Meaning P) (call : Call) (before after : Plan N P) (answer : Answer P) : Type 0 where
  pub exact : answer ≡ answer_to k (means before.below) (standing_changes before) before.shown call
  pub leaves : Leaves k (means before.below) (standing_changes before) before.shown call (standing_changes after) after.shown
  pub below_stays : after.below ≡ before.below
  pub refused_stays : (fault : Fault) → answer ≡ Refused fault → after ≡ before
  pub promise : KeepsPromise k (means before.below) (standing_changes before) before.shown call answer (standing_changes after) after.shown

-- the cells that a split of so many home modules leaves: zero for each of them, or as they were where it is refused
abbrev pub cells_left : {P : Type 0} → Kind P → Option Fault → ℕ → List P → List P
cells_left k (Some fault) count cells = cells
cells_left k None count cells = cleared k count cells

-- the row of cells that a call brings
abbrev pub row_of : {P : Type 0} → Asked P → List P
row_of (Strap a b) = []
row_of (Mute n) = []
row_of TakeBack = []
row_of (Split cells) = vec_items cells
row_of Look = []

-- a row of cells after a call: a split leaves it so, and any other call as it was
abbrev pub row_left : {P : Type 0} → Kind P → Option Fault → ℕ → Call → List P → List P
row_left k refused count (strap a b) row = row
row_left k refused count (mute n) row = row
row_left k refused count take_back row = row
row_left k refused count (split cells) row = cells_left k refused count row
row_left k refused count look row = row

-- A call as a value stays what it is; of a split's row the cells are left as a split leaves them.
pub record CallLeft {P : Type 0} (k : Kind P) (refused : Option Fault) (count : ℕ) (before after : Asked P) : Type 0 where
  pub same_call : call_of after ≡ call_of before
  pub row : row_of after ≡ row_left k refused count (call_of before) (row_of before)
