-- A run whose calls are answered exactly as reckoned keeps the promise.
use Rattle.std.proofs.Common.{◌≡◌, ℕ, zero, suc, ◌<◌, ◌≤◌, Bool, false, ltb, ◌⊎◌, List, [], ◌∷◌, ◌++◌, length, take, Some, None, Option, sym, refl, ap, ◌∙◌, subst, inl, inr, ⊎_elim, arith}
use Rattle.std.specs.List.{slice_get}
use Rattle.std.proofs.lemmas.Bool.{cases_lt, lt-ltb, le-ltb, cond-true, cond-false}
use Rattle.refusal.specs.declared.Fault.{Fault}
use Rattle.refusal.specs.declared.Fault.TheVariants.{TooShort, TooFewGroups}
use Rattle.price.specs.Kind.{Kind, Laws}
use Rattle.netlist.specs.Meaning.{Meaning, Sound, homes, modules}
use Rattle.cut.specs.declared.found.FoundSplit.{FoundSplit}
use Rattle.standing.specs.declared.change.Change.{Change}
use Rattle.plan.specs.declared.calls.Answer.{Answer}
use Rattle.plan.specs.declared.calls.Answer.TheVariants.{Done, Refused, Found, Absent}
use Rattle.standing.specs.Standing.{applied}
use Rattle.plan.specs.Reckoning.{Call, strap, mute, take_back, split, look, refusal, left_by, stand_after, stand, found, shown_by, told, answer_by}
use Rattle.plan.specs.Promise.{LawfulSplit, Truthful, Idle, Latest, Promise}
use Rattle.plan.specs.Runs.{Leaves, answer_to, shown_after, answers_of, Ran, KeepsPromise}
use Rattle.std.proofs.lemmas.Option.{none-some}
use Rattle.plan.proofs.Changes.{homes_applied, named}
use Rattle.plan.proofs.Truth.{standing_right, too_few, two_found, found_truthful}
use Rattle.plan.proofs.Histories.{shown_more, ran_more}

take_one_more : {X : Type 0} (xs : List X) (i : ℕ) (x : X) → slice_get xs i ≡ Some x → take (suc i) xs ≡ take i xs ++ x ∷ []
take_one_more [] i x e = absurd (none-some x e)
take_one_more (y ∷ ys) zero x e = let q : y ≡ x = cc in ap (λ z. z ∷ []) q
take_one_more (y ∷ ys) (suc i) x e = ap (λ zs. y ∷ zs) (take_one_more ys i x e)

take_all : {X : Type 0} (xs : List X) (i : ℕ) → slice_get xs i ≡ None → take (suc i) xs ≡ take i xs
take_all [] zero e = refl
take_all [] (suc i) e = refl
take_all (y ∷ ys) zero e = absurd (none-some y (sym e))
take_all (y ∷ ys) (suc i) e = ap (λ zs. y ∷ zs) (take_all ys i e)

some_same : {X : Type 0} (x y : X) → Some x ≡ Some y → x ≡ y
some_same x y e = cc

told_found : {P : Type 0} (o : Option (FoundSplit P)) (v : FoundSplit P) → told o ≡ Found v → o ≡ Some v
told_found None v e = let z : ◌≡◌ {A = ℕ} 0 1 = cc in absurd (omega arith)
told_found (Some x) v e = cc

pub told_refused : {P : Type 0} (o : Option (FoundSplit P)) (fault : Fault) → told o ≡ Refused fault → ⊥
told_refused None fault e = let z : ◌≡◌ {A = ℕ} 0 1 = cc in omega arith
told_refused (Some x) fault e = let z : ◌≡◌ {A = ℕ} 0 1 = cc in omega arith

module _ {P : Type 0} (m : Meaning P) (cs : List Change) (cells : ℕ) where
  pub split_short : cells < homes m → refusal m cs (split cells) ≡ Some (TooShort 1)
  unfolding refusal
  split_short h = let same = homes_applied m cs in cond-true (ltb cells (homes (applied m cs))) (Some (TooShort 1)) _ (lt-ltb cells (homes (applied m cs)) (omega arith))

  wide : homes m ≤ cells → ltb cells (homes (applied m cs)) ≡ false
  wide h = let same = homes_applied m cs in le-ltb cells (homes (applied m cs)) (omega arith)

  pub split_one_group : homes m ≤ cells → modules (applied m cs) < 2 → refusal m cs (split cells) ≡ Some TooFewGroups
  unfolding refusal
  split_one_group h few =
      cond-false (ltb cells (homes (applied m cs))) (Some (TooShort 1)) _ (wide h)
      ∙ cond-true (ltb (modules (applied m cs)) 2) (Some TooFewGroups) None (lt-ltb (modules (applied m cs)) 2 few)

  pub split_free : homes m ≤ cells → 2 ≤ modules (applied m cs) → refusal m cs (split cells) ≡ None
  unfolding refusal
  split_free h two =
      cond-false (ltb cells (homes (applied m cs))) (Some (TooShort 1)) _ (wide h)
      ∙ cond-false (ltb (modules (applied m cs)) 2) (Some TooFewGroups) None (le-ltb (modules (applied m cs)) 2 two)

pub look_free : {P : Type 0} (m : Meaning P) (cs : List Change) → refusal m cs look ≡ None
unfolding refusal
look_free m cs = refl

module _ {P : Type 0} (k : Kind P) (l : Laws k) (m : Meaning P) (s : Sound m) where
  abbrev FoundThere : List Change → Option (FoundSplit P) → Type 0
  FoundThere cs o = (v : FoundSplit P) → o ≡ Some v → found k (applied m cs) ≡ Some v

  -- what is shown was found where the changes stand
  shown_step : (cs : List Change) (o : Option (FoundSplit P)) (r : Option Fault) (call : Call) → FoundThere cs o → FoundThere (left_by r cs call) (shown_by r (found k (applied m cs)) o call)
  shown_step cs o (Some fault) call h v e = h v e
  shown_step cs o None (strap a b) h v e = absurd (none-some v e)
  shown_step cs o None (mute n) h v e = absurd (none-some v e)
  shown_step cs o None take_back h v e = absurd (none-some v e)
  shown_step cs o None (split cells) h v e = e
  shown_step cs o None look h v e = h v e

  shown_there : (calls : List Call) (cs : List Change) (o : Option (FoundSplit P)) → FoundThere cs o → FoundThere (stand_after m cs calls) (shown_after k m cs o calls)
  shown_there [] cs o h v e = h v e
  shown_there (call ∷ calls) cs o h v e =
      shown_there calls (left_by (refusal m cs call) cs call) (shown_by (refusal m cs call) (found k (applied m cs)) o call) (shown_step cs o (refusal m cs call) call h) v e

  each_answered : (cs : List Change) (o : Option (FoundSplit P)) (calls : List Call) → length (answers_of k m cs o calls) ≡ length calls
  each_answered cs o [] = refl
  each_answered cs o (call ∷ calls) = ap suc (each_answered (left_by (refusal m cs call) cs call) (shown_by (refusal m cs call) (found k (applied m cs)) o call) calls)

  -- the answer to call number i
  at_call : (cs : List Change) (o : Option (FoundSplit P)) (calls : List Call) (i : ℕ) (call : Call) → slice_get calls i ≡ Some call
      → slice_get (answers_of k m cs o calls) i ≡ Some (answer_to k m (stand_after m cs (take i calls)) (shown_after k m cs o (take i calls)) call)
  at_call cs o [] i call e = absurd (none-some call e)
  at_call cs o (c ∷ calls) zero call e = let q : c ≡ call = cc in ap (λ z. Some (answer_to k m cs o z)) q
  at_call cs o (c ∷ calls) (suc i) call e = at_call (left_by (refusal m cs c) cs c) (shown_by (refusal m cs c) (found k (applied m cs)) o c) calls i call e

  module _ (calls : List Call) where
    abbrev changes_at : ℕ → List Change
    changes_at i = stand m (take i calls)

    abbrev shown_at : ℕ → Option (FoundSplit P)
    shown_at i = shown_after k m [] None (take i calls)

    abbrev found_at : ℕ → Option (FoundSplit P)
    found_at i = found k (applied m (changes_at i))

    abbrev answers : List (Answer P)
    answers = answers_of k m [] None calls

    abbrev refusal_at : ℕ → Call → Option Fault
    refusal_at i call = refusal m (changes_at i) call

    abbrev answer_by_fault : ℕ → Call → Option Fault → Option (Answer P)
    answer_by_fault i call r = Some (answer_by r (found_at i) (shown_at i) call)

    answer_at : (i : ℕ) (call : Call) (r : Option Fault) → slice_get calls i ≡ Some call → refusal_at i call ≡ r → slice_get answers i ≡ answer_by_fault i call r
    answer_at i call r e q = at_call [] None calls i call e ∙ ap (answer_by_fault i call) q

    answered_by : (i : ℕ) (call : Call) (a : Answer P) → slice_get calls i ≡ Some call → slice_get answers i ≡ Some a → answer_by (refusal_at i call) (found_at i) (shown_at i) call ≡ a
    answered_by i call a e q = some_same _ a (sym (at_call [] None calls i call e) ∙ q)

    shown_next : (i : ℕ) (call : Call) → slice_get calls i ≡ Some call → shown_at (suc i) ≡ shown_by (refusal_at i call) (found_at i) (shown_at i) call
    shown_next i call e = ap (λ z. shown_after k m [] None z) (take_one_more calls i call e) ∙ shown_more k m [] None (take i calls) call

    shown_past : (i : ℕ) → slice_get calls i ≡ None → shown_at (suc i) ≡ shown_at i
    shown_past i e = ap (λ z. shown_after k m [] None z) (take_all calls i e)

    still_latest : (i : ℕ) (v : FoundSplit P) → Idle m calls i → Latest m calls answers i v → Latest m calls answers (suc i) v
    still_latest i v idle latest = record {
      at = latest.at;
      before = (let b = latest.before in omega arith);
      cells = latest.cells;
      is_split = latest.is_split;
      result = latest.result;
      quiet = λ h p q. ⊎_elim (λ low. latest.quiet h p low) (λ high. let e : i ≡ h = omega arith in subst (λ z. Idle m calls z) e idle) (cases_lt h i);
    }

    -- what is shown is the answer of the latest accepted split
    shown_latest_step : (i : ℕ) (v : FoundSplit P) → (shown_at i ≡ Some v → Latest m calls answers i v) → shown_at (suc i) ≡ Some v → Latest m calls answers (suc i) v
    shown_latest_step i v before e = by (slice_get calls i) refl
      where
        of : (call : Call) → slice_get calls i ≡ Some call → (r : Option Fault) → refusal_at i call ≡ r → shown_by r (found_at i) (shown_at i) call ≡ Some v → Latest m calls answers (suc i) v
        of call p (Some fault) q h =
            still_latest i v (λ c p' z. let same : c ≡ call = some_same c call (sym p' ∙ p) in absurd (none-some fault (sym (sym q ∙ (ap (λ y. refusal_at i y) (sym same) ∙ z))))) (before h)
        of (strap a b) p None q h = absurd (none-some v h)
        of (mute n) p None q h = absurd (none-some v h)
        of take_back p None q h = absurd (none-some v h)
        of (split cells) p None q h = record {
          at = i;
          before = omega arith;
          cells = cells;
          is_split = p;
          result = answer_at i (split cells) None p q ∙ ap (λ z. Some (told z)) h;
          quiet = λ x y z. absurd (omega arith);
        }
        of look p None q h = still_latest i v (λ c p' z. some_same c look (sym p' ∙ p)) (before h)

        by : (n : Option Call) → slice_get calls i ≡ n → Latest m calls answers (suc i) v
        by None p = still_latest i v (λ c p' z. absurd (none-some c (sym p ∙ p'))) (before (sym (shown_past i p) ∙ e))
        by (Some call) p = of call p (refusal_at i call) refl (sym (shown_next i call p) ∙ e)

    shown_latest : (i : ℕ) (v : FoundSplit P) → shown_at i ≡ Some v → Latest m calls answers i v
    shown_latest zero v e = absurd (none-some v e)
    shown_latest (suc i) v e = shown_latest_step i v (λ h. shown_latest i v h) e

    stays_shown : (i : ℕ) (call : Call) (v : FoundSplit P) (r : Option Fault) → (r ≡ None → call ≡ look) → shown_at i ≡ Some v → shown_by r (found_at i) (shown_at i) call ≡ Some v
    stays_shown i call v (Some fault) q h = h
    stays_shown i call v None q h = subst (λ z. shown_by None (found_at i) (shown_at i) z ≡ Some v) (sym (q refl)) h

    latest_shown_step : (i : ℕ) (v : FoundSplit P) → (Latest m calls answers i v → shown_at i ≡ Some v) → Latest m calls answers (suc i) v → shown_at (suc i) ≡ Some v
    latest_shown_step i v before latest = ⊎_elim earlier here (cases_lt latest.at i)
      where
        of : (r : Option Fault) (cells : ℕ) → answer_by r (found_at i) (shown_at i) (split cells) ≡ Found v → shown_by r (found_at i) (shown_at i) (split cells) ≡ Some v
        of (Some fault) cells e = let z : ◌≡◌ {A = ℕ} 0 1 = cc in absurd (omega arith)
        of None cells e = told_found (found_at i) v e

        here : i ≤ latest.at → shown_at (suc i) ≡ Some v
        here h =
            let b = latest.before in
            let e : latest.at ≡ i = omega arith in
            let cells = latest.cells in
            let p : slice_get calls i ≡ Some (split cells) = subst (λ z. slice_get calls z ≡ Some (split cells)) e latest.is_split in
            let q : slice_get answers i ≡ Some (Found v) = subst (λ z. slice_get answers z ≡ Some (Found v)) e latest.result in
            shown_next i (split cells) p ∙ of (refusal_at i (split cells)) cells (answered_by i (split cells) (Found v) p q)

        earlier : latest.at < i → shown_at (suc i) ≡ Some v
        earlier h = by (slice_get calls i) refl
          where
            shorter : Latest m calls answers i v
            shorter = record {
              at = latest.at;
              before = h;
              cells = latest.cells;
              is_split = latest.is_split;
              result = latest.result;
              quiet = λ x p q. latest.quiet x p (omega arith);
            }

            by : (n : Option Call) → slice_get calls i ≡ n → shown_at (suc i) ≡ Some v
            by None p = shown_past i p ∙ before shorter
            by (Some call) p = shown_next i call p ∙ stays_shown i call v (refusal_at i call) (λ z. latest.quiet i h (omega arith) call p z) (before shorter)

    latest_shown : (i : ℕ) (v : FoundSplit P) → Latest m calls answers i v → shown_at i ≡ Some v
    latest_shown zero v latest = let b = latest.before in absurd (omega arith)
    latest_shown (suc i) v latest = latest_shown_step i v (λ h. latest_shown i v h) latest

    look_told : (i : ℕ) → slice_get calls i ≡ Some look → slice_get answers i ≡ Some (told (shown_at i))
    look_told i e = answer_at i look None e (look_free m (changes_at i))

    refused_split : (i cells : ℕ) (fault : Fault) → slice_get calls i ≡ Some (split cells) → slice_get answers i ≡ Some (Refused fault)
        → (cells < homes m) ⊎ ((side : ℕ → Bool) → LawfulSplit m (changes_at i) side → ⊥)
    refused_split i cells fault e a = ⊎_elim inl (λ room. inr (none_lawful room)) (cases_lt cells (homes m))
      where
        not_free : (r : Option Fault) → answer_by r (found_at i) (shown_at i) (split cells) ≡ Refused fault → r ≡ None → ⊥
        not_free (Some x) h z = none-some x (sym z)
        not_free None h z = told_refused (found_at i) fault h

        none_lawful : homes m ≤ cells → (side : ℕ → Bool) → LawfulSplit m (changes_at i) side → ⊥
        none_lawful room side v =
            ⊎_elim (λ few. (too_few k l m s (changes_at i) (named m (take i calls)) few).1 side v)
            (λ two. not_free (refusal_at i (split cells)) (answered_by i (split cells) (Refused fault) e a) (split_free m (changes_at i) cells room two))
            (cases_lt (modules (applied m (changes_at i))) 2)

    accepted_split : (i cells : ℕ) → slice_get calls i ≡ Some (split cells) → ((fault : Fault) → slice_get answers i ≡ Some (Refused fault) → ⊥)
        → (homes m ≤ cells) × ((v : FoundSplit P) × (slice_get answers i ≡ Some (Found v)) × Truthful k m (changes_at i) v)
    accepted_split i cells e accepted =
        ⊎_elim (λ short. absurd (accepted (TooShort 1) (answer_at i (split cells) (Some (TooShort 1)) e (split_short m (changes_at i) cells short))))
        (λ room.
        ⊎_elim (λ few. absurd (accepted TooFewGroups (answer_at i (split cells) (Some TooFewGroups) e (split_one_group m (changes_at i) cells room few))))
        (λ two.
        let there = two_found k l m s (changes_at i) (named m (take i calls)) (omega arith) in
        (room, (there.0, answer_at i (split cells) None e (split_free m (changes_at i) cells room two) ∙ ap (λ z. Some (told z)) there.1, there.2)))
        (cases_lt (modules (applied m (changes_at i))) 2))
        (cases_lt cells (homes m))

    change_done : (i : ℕ) (call : Call) → slice_get calls i ≡ Some call → refusal_at i call ≡ None → (call ≡ look → ⊥) → ((cells : ℕ) → call ≡ split cells → ⊥) → slice_get answers i ≡ Some Done
    change_done i call e free not_look not_split = answer_at i call None e free ∙ ap Some (done call not_look not_split)
      where
        done : (call : Call) → (call ≡ look → ⊥) → ((cells : ℕ) → call ≡ split cells → ⊥) → answer_by None (found_at i) (shown_at i) call ≡ Done
        done (strap a b) a' b' = refl
        done (mute n) a' b' = refl
        done take_back a' b' = refl
        done (split cells) a' b' = absurd (b' cells refl)
        done look a' b' = absurd (a' refl)

    pub promised : Promise k m calls answers
    promised = record {
      all_answered = each_answered [] None calls;
      looks_truthful = λ i v e a.
          let h = told_found (shown_at i) v (some_same _ (Found v) (sym (look_told i e) ∙ a)) in
          found_truthful k l m s (changes_at i) (named m (take i calls)) v (shown_there (take i calls) [] None (λ x z. absurd (none-some x z)) v h);
      split_refused = refused_split;
      split_accepted = accepted_split;
      look_shows = λ i v e latest. look_told i e ∙ ap (λ z. Some (told z)) (latest_shown i v latest);
      look_else = λ i e none. look_told i e ∙ absent i (shown_at i) refl none;
      refused_first = λ i call fault e q. answer_at i call (Some fault) e q;
      change_done = change_done;
      standing_right = λ i. standing_right k l m s (changes_at i) (named m (take i calls));
    }
      where
        absent : (i : ℕ) (o : Option (FoundSplit P)) → shown_at i ≡ o → ((v : FoundSplit P) → Latest m calls answers i v → ⊥) → Some (told o) ≡ Some Absent
        absent i None e none = refl
        absent i (Some v) e none = absurd (none v (shown_latest i v e))

pub keeps_promise : {P : Type 0} (k : Kind P) → Laws k → (m : Meaning P) → Sound m → (cs cs_left : List Change) (o o_left : Option (FoundSplit P)) (call : Call) (answer : Answer P)
    → answer ≡ answer_to k m cs o call → Leaves k m cs o call cs_left o_left → KeepsPromise k m cs o call answer cs_left o_left
keeps_promise {P} k l m s cs cs_left o o_left call answer e leaves = record {
  goes_on = on;
  promise = λ calls answers r. subst (λ z. Promise k m (calls ++ call ∷ []) z) (sym (on calls answers r).answered) (promised k l m s (calls ++ call ∷ []));
}
  where
    on : (calls : List Call) (answers : List (Answer P)) → Ran k m calls cs o answers → Ran k m (calls ++ call ∷ []) cs_left o_left (answers ++ answer ∷ [])
    on calls answers r = ran_more k m calls cs cs_left o o_left answers call answer r e leaves
