-- Calls on a plan, from what was checked and what was left.
use Rattle.std.proofs.Common.{◌≡◌, ℕ, ◌<◌, List, [], ◌∷◌, ◌++◌, reverse, length, Some, None, Ok, Err, Option, Result, sym, refl, ap, ◌∙◌, subst, ap₂, arith}
use Rattle.std.proofs.lemmas.List.{reverse-append}
use Rattle.std.proofs.lemmas.Bool.Decides.{nat_tests}
use Rattle.std.specs.Option.{ok_or, option_or}
use Rattle.refusal.specs.declared.Fault.{Fault}
use Rattle.refusal.specs.declared.Fault.TheVariants.{NothingToTakeBack}
use Rattle.refusal.specs.Checks.{checked}
use Rattle.price.specs.Kind.{Kind, Laws}
use Rattle.netlist.specs.Meaning.{Meaning, Sound, homes}
use Rattle.cut.specs.declared.found.FoundSplit.{FoundSplit}
use Rattle.partition.specs.Pulls.{cleared}
use Rattle.partition.specs.Splits.{SplitAnswer, SplitCall, split_fault}
use Rattle.standing.specs.declared.change.Change.{Change}
use Rattle.standing.specs.declared.change.Change.TheVariants.{Strapped, Muted}
use Rattle.plan.specs.declared.calls.Answer.{Answer}
use Rattle.plan.specs.declared.calls.Answer.TheVariants.{Done, Refused, Found}
use Rattle.plan.specs.declared.plans.Plan.{Plan}
use Rattle.standing.specs.Standing.{applied, change_fault}
use Rattle.plan.specs.Reckoning.{Call, making, strap, mute, take_back, split, look, full_fault, empty_fault, refusal, without_latest, changed, left_by, answered, found, shown_then, shown_by, told, accepted_answer, answer_by}
use Rattle.plan.specs.Runs.{Leaves, answer_to}
use Rattle.plan.specs.Plans.{standing_changes, plan_meaning}
use Rattle.plan.specs.PlanCalls.{of_change, of_split, refusal_on, CallOn, cells_left}
use Rattle.refusal.proofs.CheckLaws.{option_or_none}
use Rattle.plan.proofs.Changes.{homes_applied}
use Rattle.plan.proofs.Promised.{told_refused, keeps_promise, look_free}

-- one change more, and one fewer
pub latest_more : (xs : List Change) (c : Change) → reverse (xs ++ c ∷ []) ≡ c ∷ reverse xs
latest_more xs c = reverse-append xs (c ∷ [])

pub latest_fewer : (old new : List Change) (c : Change) → old ≡ new ++ c ∷ [] → reverse new ≡ without_latest (reverse old)
latest_fewer old new c e = sym (ap (λ xs. without_latest (reverse xs)) e ∙ ap without_latest (latest_more new c))

pub none_to_take_back : (xs : List Change) → length xs ≡ 0 → empty_fault (reverse xs) ≡ Some NothingToTakeBack
none_to_take_back [] e = refl
none_to_take_back (c ∷ cs) e = absurd (omega arith)

pub some_to_take_back : (old new : List Change) (c : Change) → old ≡ new ++ c ∷ [] → empty_fault (reverse old) ≡ None
some_to_take_back old new c e = ap (λ xs. empty_fault (reverse xs)) e ∙ ap empty_fault (latest_more new c)

done_refused : {P : Type 0} (fault : Fault) → ◌≡◌ {A = Answer P} Done (Refused fault) → ⊥
done_refused fault e = let z : ◌≡◌ {A = ℕ} 0 1 = cc in omega arith

ok_err : {X : Type 0} (x : X) (fault : Fault) → Ok x ≡ Err fault → ⊥
ok_err x fault e = let z : ◌≡◌ {A = ℕ} 0 1 = cc in omega arith

-- what `ok_or` tells of an option
pub err_of_ok_or : {X E : Type 0} (o : Option X) (e f : E) → Err f ≡ ok_or o e → (o ≡ None) × (f ≡ e)
err_of_ok_or None e f h = (refl, cc)
err_of_ok_or (Some x) e f h = absurd (let z : ◌≡◌ {A = ℕ} 0 1 = cc in omega arith)

pub ok_of_ok_or : {X E : Type 0} (o : Option X) (e : E) (x : X) → Ok x ≡ ok_or o e → o ≡ Some x
ok_of_ok_or None e x h = absurd (let z : ◌≡◌ {A = ℕ} 0 1 = cc in omega arith)
ok_of_ok_or (Some y) e x h = let same : y ≡ x = cc in ap Some same

-- the check of a change
module _ {P : Type 0} (m : Meaning P) (cs : List Change) where
  -- the layers' refusal comes first, then that of a full plan
  making_refused : (change : Change) → refusal m cs (making change) ≡ option_or (change_fault change (applied m cs)) (full_fault cs)
  unfolding refusal
  making_refused (Strapped a b) = refl
  making_refused (Muted n) = refl

  pub layers_refuse : (change : Change) (fault : Fault) (r : Result (Unit {0}) Fault) → change_fault change (applied m cs) ≡ Some fault → r ≡ Err fault
      → r ≡ checked (refusal m cs (making change))
  layers_refuse change fault r e q = q ∙ sym (ap checked (making_refused change ∙ ap (λ z. option_or z (full_fault cs)) e))

  pub room_tells : (change : Change) (r : Result (Unit {0}) Fault) → change_fault change (applied m cs) ≡ None → r ≡ checked (full_fault cs)
      → r ≡ checked (refusal m cs (making change))
  room_tells change r e room = room ∙ sym (ap checked (making_refused change ∙ ap (λ z. option_or z (full_fault cs)) e))

  -- an accepted change finds room
  pub change_room : (change : Change) → refusal m cs (making change) ≡ None → length cs < 64
  change_room change e =
      let room : full_fault cs ≡ None = (option_or_none (change_fault change (applied m cs)) (full_fault cs) (sym (making_refused change) ∙ e)).1 in
      grind (arith, nat_tests)

  pub take_back_by : refusal m cs take_back ≡ empty_fault cs
  unfolding refusal
  take_back_by = refl

-- what a call of `split` over the standing netlist tells
module _ {P : Type 0} (k : Kind P) (m : Meaning P) (cells after : List P) where
  pub split_refused_by : (f : Option Fault) (fault : Fault) → SplitAnswer f k m cells after (Err fault) → (f ≡ Some fault) × (after ≡ cells)
  split_refused_by None fault h = absurd (ok_err h.answer fault (sym h.answered))
  split_refused_by (Some other) fault h = (let e = h.refused in ap Some (let same : other ≡ fault = cc in same), h.cells_stay)

  pub split_found_by : (f : Option Fault) (v : FoundSplit P) → SplitAnswer f k m cells after (Ok v) → (f ≡ None) × (found k m ≡ Some v) × (after ≡ cleared k (homes m) cells)
  unfolding found
  split_found_by None v h =
      let e = h.answered in
      let same : h.answer ≡ v = cc in
      (refl, ap (answered (homes m)) h.by_rounds ∙ ap Some (sym (ap₂ (λ s p. record { sides = s; price = p }) h.sides h.price) ∙ same), h.zeroed)
  split_found_by (Some fault) v h = absurd (ok_err v fault h.refused)

-- a split on a plan, and what it leaves of the cells
abbrev pub SplitOn : {N P : Type 0} → Kind P → (N → Meaning P) → Plan N P → Plan N P → List P → List P → Answer P → Type 0
SplitOn k means before after cells cells' answer =
    CallOn k means (split (length cells)) before after answer × (cells' ≡ cells_left k (refusal_on means before (split (length cells))) (homes (means before.below)) cells)

module _ {N P : Type 0} (k : Kind P) (l : Laws k) (means : N → Meaning P) (sound : (n : N) → Sound (means n)) where
  call_on : (call : Call) (before after : Plan N P) (answer : Answer P)
      → answer ≡ answer_to k (means before.below) (standing_changes before) before.shown call
      → Leaves k (means before.below) (standing_changes before) before.shown call (standing_changes after) after.shown
      → after.below ≡ before.below → ((fault : Fault) → answer ≡ Refused fault → after ≡ before) → CallOn k means call before after answer
  call_on call before after answer exact leaves below stays = record {
    exact = exact;
    leaves = leaves;
    below_stays = below;
    refused_stays = stays;
    promise = keeps_promise k l (means before.below) (sound before.below) (standing_changes before) (standing_changes after) before.shown after.shown call answer exact leaves;
  }

  pub refused_on : (call : Call) (plan : Plan N P) (fault : Fault) → refusal_on means plan call ≡ Some fault → CallOn k means call plan plan (Refused fault)
  refused_on call plan fault e =
      let f = found k (plan_meaning means plan) in
      call_on call plan plan (Refused fault) (ap (λ r. answer_by r f plan.shown call) (sym e))
      (record { changes = ap (λ r. left_by r (standing_changes plan) call) (sym e); shown = ap (λ r. shown_by r f plan.shown call) (sym e) })
      refl (λ _ _. refl)

  accepted_on : (call : Call) (before after : Plan N P) (answer : Answer P) → refusal_on means before call ≡ None
      → answer ≡ accepted_answer (found k (plan_meaning means before)) before.shown call
      → standing_changes after ≡ changed (standing_changes before) call → after.shown ≡ shown_then (found k (plan_meaning means before)) before.shown call
      → after.below ≡ before.below → ((fault : Fault) → answer ≡ Refused fault → after ≡ before) → CallOn k means call before after answer
  accepted_on call before after answer e a cs o below stays =
      let f = found k (plan_meaning means before) in
      call_on call before after answer (a ∙ ap (λ r. answer_by r f before.shown call) (sym e))
      (record { changes = cs ∙ ap (λ r. left_by r (standing_changes before) call) (sym e); shown = o ∙ ap (λ r. shown_by r f before.shown call) (sym e) })
      below stays

  -- a refused change, take back or split, by its result
  pub change_refused : (call : Call) (plan : Plan N P) (fault : Fault) (r : Result (Unit {0}) Fault) → refusal_on means plan call ≡ Some fault → r ≡ Err fault
      → CallOn k means call plan plan (of_change r)
  change_refused call plan fault r e q = subst (λ z. CallOn k means call plan plan (of_change z)) (sym q) (refused_on call plan fault e)

  module _ (before after : Plan N P) (below : after.below ≡ before.below) where
    done_on : (call : Call) → refusal_on means before call ≡ None → Done ≡ accepted_answer (found k (plan_meaning means before)) before.shown call
        → standing_changes after ≡ changed (standing_changes before) call → after.shown ≡ shown_then (found k (plan_meaning means before)) before.shown call
        → CallOn k means call before after Done
    done_on call e a cs o = accepted_on call before after Done e a cs o below (λ fault z. absurd (done_refused fault z))

    pub change_done : (change : Change) → refusal_on means before (making change) ≡ None → standing_changes after ≡ change ∷ standing_changes before → after.shown ≡ None
        → CallOn k means (making change) before after Done
    change_done (Strapped a b) e cs o = done_on (strap a b) e refl cs o
    change_done (Muted n) e cs o = done_on (mute n) e refl cs o

    pub take_back_done : refusal_on means before take_back ≡ None → standing_changes after ≡ changed (standing_changes before) take_back → after.shown ≡ None
        → CallOn k means take_back before after Done
    take_back_done e cs o = done_on take_back e refl cs o

  pub look_on : (plan : Plan N P) → CallOn k means look plan plan (told plan.shown)
  look_on plan = accepted_on look plan plan (told plan.shown) (look_free (means plan.below) (standing_changes plan)) refl refl refl refl (λ fault z. refl)

  -- a call of `split` over the standing netlist, told as a split on the plan
  module _ (plan : Plan N P) (cells cells' : List P) where
    -- the refusal of a split on a plan is that of the call over the standing netlist
    split_refusal : refusal_on means plan (split (length cells)) ≡ split_fault (plan_meaning means plan) (length cells)
    unfolding refusal
    split_refusal = refl

    pub split_refused : (fault : Fault) (r : Result (FoundSplit P) Fault) → SplitCall k (plan_meaning means plan) cells cells' (Err fault) → r ≡ Err fault
        → SplitOn k means plan plan cells cells' (of_split r)
    split_refused fault r h q =
        let by = split_refused_by k (plan_meaning means plan) cells cells' (split_fault (plan_meaning means plan) (length cells)) fault h in
        let e : refusal_on means plan (split (length cells)) ≡ Some fault = split_refusal ∙ by.0 in (
          subst (λ z. CallOn k means (split (length cells)) plan plan (of_split z)) (sym q) (refused_on (split (length cells)) plan fault e),
          by.1 ∙ ap (λ f. cells_left k f (homes (means plan.below)) cells) (sym e),
        )

    pub split_accepted : (after : Plan N P) (v : FoundSplit P) → SplitCall k (plan_meaning means plan) cells cells' (Ok v)
        → after.below ≡ plan.below → standing_changes after ≡ standing_changes plan → after.shown ≡ Some v → SplitOn k means plan after cells cells' (Found v)
    split_accepted after v h below cs o =
        let by = split_found_by k (plan_meaning means plan) cells cells' (split_fault (plan_meaning means plan) (length cells)) v h in
        let e : refusal_on means plan (split (length cells)) ≡ None = split_refusal ∙ by.0 in (
          accepted_on (split (length cells)) plan after (Found v) e (ap told (sym by.1)) cs (o ∙ sym by.1) below (λ fault z. absurd (told_refused (Some v) fault z)),
          by.2 ∙ ap (λ count. cleared k count cells) (homes_applied (means plan.below) (standing_changes plan))
              ∙ ap (λ f. cells_left k f (homes (means plan.below)) cells) (sym e),
        )
