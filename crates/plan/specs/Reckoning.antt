-- What stands after a list of calls on a new plan: reckoned from the meaning of the netlist below and the calls alone.
use Rattle.std.specs.Prelude.{ℕ, cond, List, [], ◌∷◌, length, Some, None, vec_len, Option, nat_lt}
use Rattle.std.specs.Option.{option_or}
use Rattle.refusal.specs.declared.Fault.{Fault}
use Rattle.refusal.specs.declared.Fault.TheVariants.{PlanFull, NothingToTakeBack}
use Rattle.price.specs.Kind.{Kind}
use Rattle.netlist.specs.Meaning.{Meaning, homes}
use Rattle.cut.specs.Lawful as lawful
use Rattle.cut.specs.Rounds.{split_of}
use Rattle.cut.specs.SidesWord.{sides_word}
use Rattle.cut.specs.declared.found.FoundSplit.{FoundSplit}
use Rattle.layers.specs.Refusals.{strap_fault, mute_fault}
use Rattle.partition.specs.Splits.{split_fault}
use Rattle.standing.specs.declared.change.Change.{Change}
use Rattle.standing.specs.declared.change.Change.TheVariants.{Strapped, Muted}
use Rattle.plan.specs.declared.calls.Asked.{Asked}
use Rattle.plan.specs.declared.calls.Asked.TheVariants.{Strap, Mute, TakeBack, Split, Look}
use Rattle.plan.specs.declared.calls.Answer.{Answer}
use Rattle.plan.specs.declared.calls.Answer.TheVariants.{Done, Refused, Found, Absent}
use Rattle.standing.specs.Standing.{applied}

-- A call by its arguments; of a split's row of cells only the length matters.
pub data Call : Type 0 where
  strap : ℕ → ℕ → Call
  mute : ℕ → Call
  take_back : Call
  split : ℕ → Call
  look : Call

abbrev pub call_of : {P : Type 0} → Asked P → Call
call_of (Strap a b) = strap a b
call_of (Mute n) = mute n
call_of TakeBack = take_back
call_of (Split cells) = split (vec_len cells)
call_of Look = look

-- the call that makes a change
abbrev pub making : Change → Call
making (Strapped a b) = strap a b
making (Muted n) = mute n

-- refused where 64 changes stand
abbrev pub full_fault : List Change → Option Fault
full_fault cs = cond (nat_lt (length cs) 64) None (Some PlanFull)

abbrev pub empty_fault : List Change → Option Fault
empty_fault [] = Some NothingToTakeBack
empty_fault (c ∷ cs) = None

-- why a call is refused where these changes stand over m
unfoldable pub refusal : {P : Type 0} → Meaning P → List Change → Call → Option Fault
refusal m cs (strap a b) = option_or (strap_fault a b (applied m cs)) (full_fault cs)
refusal m cs (mute n) = option_or (mute_fault n (applied m cs)) (full_fault cs)
refusal m cs take_back = empty_fault cs
refusal m cs (split cells) = split_fault (applied m cs) cells
refusal m cs look = None

abbrev pub without_latest : List Change → List Change
without_latest [] = []
without_latest (c ∷ cs) = cs

-- the changes after an accepted call
abbrev pub changed : List Change → Call → List Change
changed cs (strap a b) = Strapped a b ∷ cs
changed cs (mute n) = Muted n ∷ cs
changed cs take_back = without_latest cs
changed cs (split cells) = cs
changed cs look = cs

-- a refused call leaves the changes
abbrev pub left_by : Option Fault → List Change → Call → List Change
left_by (Some fault) cs call = cs
left_by None cs call = changed cs call

abbrev pub stand_after : {P : Type 0} → Meaning P → List Change → List Call → List Change
stand_after m cs [] = cs
stand_after m cs (call ∷ calls) = stand_after m (left_by (refusal m cs call) cs call) calls

-- the changes that stand after a list of calls on a new plan
abbrev pub stand : {P : Type 0} → Meaning P → List Call → List Change
stand m calls = stand_after m [] calls

-- the split that is found of a meaning, as it is answered
abbrev pub answered : {P : Type 0} → ℕ → Option (lawful.Split P) → Option (FoundSplit P)
answered homes None = None
answered homes (Some s) = Some (record { sides = sides_word homes s.side; price = s.price })

unfoldable pub found : {P : Type 0} → Kind P → Meaning P → Option (FoundSplit P)
found k m = answered (homes m) (split_of k m)

-- what is shown after an accepted call: f is what a split finds, o is what was shown before
abbrev pub shown_then : {P : Type 0} → Option (FoundSplit P) → Option (FoundSplit P) → Call → Option (FoundSplit P)
shown_then f o (strap a b) = None
shown_then f o (mute n) = None
shown_then f o take_back = None
shown_then f o (split cells) = f
shown_then f o look = o

-- a refused call leaves what is shown
abbrev pub shown_by : {P : Type 0} → Option Fault → Option (FoundSplit P) → Option (FoundSplit P) → Call → Option (FoundSplit P)
shown_by (Some fault) f o call = o
shown_by None f o call = shown_then f o call

abbrev pub told : {P : Type 0} → Option (FoundSplit P) → Answer P
told (Some s) = Found s
told None = Absent

abbrev pub accepted_answer : {P : Type 0} → Option (FoundSplit P) → Option (FoundSplit P) → Call → Answer P
accepted_answer f o (strap a b) = Done
accepted_answer f o (mute n) = Done
accepted_answer f o take_back = Done
accepted_answer f o (split cells) = told f
accepted_answer f o look = told o

abbrev pub answer_by : {P : Type 0} → Option Fault → Option (FoundSplit P) → Option (FoundSplit P) → Call → Answer P
answer_by (Some fault) f o call = Refused fault
answer_by None f o call = accepted_answer f o call
