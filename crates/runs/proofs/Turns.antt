-- The turns of a run: what holds so far, of one call more, and at the end.
use Rattle.std.proofs.Common.{◌≡◌, ℕ, zero, suc, ◌+◌, ◌<◌, min, List, [], ◌∷◌, map, length, get_or, take, drop, set, sym, refl, ap, ◌∙◌, subst, ⊎_elim, arith, get_or-set_other, get_or-set_same}
use Rattle.std.proofs.lemmas.Bool.{cases_lt}
use Rattle.price.specs.Kind.{Kind, Laws}
use Rattle.netlist.specs.Meaning.{Meaning, Sound, homes}
use Rattle.plan.specs.declared.calls.Asked.{Asked}
use Rattle.plan.specs.declared.calls.Asked.TheVariants.{Look}
use Rattle.plan.specs.declared.calls.Answer.{Answer}
use Rattle.plan.specs.declared.plans.Plan.{Plan}
use Rattle.plan.specs.Reckoning.{call_of, refusal, stand}
use Rattle.plan.specs.Promise.{Promise}
use Rattle.plan.specs.Runs.{Ran}
use Rattle.plan.specs.Plans.{standing_changes}
use Rattle.plan.specs.PlanCalls.{LedTo, refusal_on, CallOn, CallLeft}
use Rattle.plan.proofs.Histories.{same_item, same_rest, one_more_answered}
use Rattle.plan.proofs.Promised.{promised}
use Rattle.runs.specs.RunCalls.{RowsLeft, RunOf}

getD_there : {X : Type 0} (xs : List X) (i : ℕ) (d e : X) → i < length xs → get_or xs i d ≡ get_or xs i e
getD_there [] i d e h = absurd (omega arith)
getD_there (x ∷ xs) zero d e h = refl
getD_there (x ∷ xs) (suc i) d e h = getD_there xs i d e (omega arith)

-- After i calls: the netlist is the one the plan was made over, the calls so far led to the plan, and what is ahead is as it was.
pub record SoFar {N P : Type 0} (k : Kind P) (means : N → Meaning P) (netlist : N) (calls calls_now : List (Asked P)) (answers answers_now : List (Answer P)) (plan : Plan N P) (i : ℕ) : Type 0 where
  pub below : plan.below ≡ netlist
  pub calls_ahead : drop i calls_now ≡ drop i calls
  pub answers_ahead : drop i answers_now ≡ drop i answers
  pub ran : Ran k (means netlist) (map call_of (take i calls)) (standing_changes plan) plan.shown (take i answers_now)
  pub rows : RowsLeft k (means netlist) calls calls_now i

module _ {N P : Type 0} (k : Kind P) (means : N → Meaning P) (netlist : N) (calls : List (Asked P)) (answers : List (Answer P)) where
  pub run_starts : (plan : Plan N P) → plan.below ≡ netlist → LedTo k means [] [] plan → SoFar k means netlist calls calls answers answers plan 0
  run_starts plan below led = record {
    below = below;
    calls_ahead = refl;
    answers_ahead = refl;
    ran = record { stands = led.stands; shows = led.shows; answered = refl };
    rows = λ i h. absurd (omega arith);
  }

  module _ (calls_now : List (Asked P)) (answers_now : List (Answer P)) (before after : Plan N P) (i : ℕ) (x call_left : Asked P) (answer : Answer P)
      (there : i < length calls) (there_now : i < length calls_now) (room : i < length answers) (room_now : i < length answers_now)
      (so_far : SoFar k means netlist calls calls_now answers answers_now before i)
      (call_on : CallOn k means (call_of (get_or calls_now i x)) before after answer)
      (left : CallLeft k (refusal_on means before (call_of (get_or calls_now i x))) (homes (means before.below)) (get_or calls_now i x) call_left) where
    same_netlist : means before.below ≡ means netlist
    same_netlist = ap means so_far.below

    as_handed : get_or calls_now i x ≡ get_or calls i Look
    as_handed = same_item calls calls_now i x there there_now so_far.calls_ahead ∙ getD_there calls i x Look there

    -- the row that this call leaves
    this_row : CallLeft k (refusal (means netlist) (stand (means netlist) (map call_of (take i calls))) (call_of (get_or calls i Look))) (homes (means netlist)) (get_or calls i Look) call_left
    this_row =
        subst (λ call. CallLeft k (refusal (means netlist) (stand (means netlist) (map call_of (take i calls))) (call_of call)) (homes (means netlist)) call call_left) as_handed
        (subst (λ cs. CallLeft k (refusal (means netlist) cs (call_of (get_or calls_now i x))) (homes (means netlist)) (get_or calls_now i x) call_left) so_far.ran.stands
        (subst (λ m. CallLeft k (refusal m (standing_changes before) (call_of (get_or calls_now i x))) (homes m) (get_or calls_now i x) call_left) same_netlist left))

    pub run_goes_on : SoFar k means netlist calls (set calls_now i call_left) answers (set answers_now i answer) after (i + 1)
    run_goes_on = record {
      below = call_on.below_stays ∙ so_far.below;
      calls_ahead = same_rest calls calls_now i x there there_now so_far.calls_ahead call_left;
      answers_ahead = same_rest answers answers_now i answer room room_now so_far.answers_ahead answer;
      ran =
          one_more_answered call_of k (means netlist) (means before.below) calls calls_now answers_now i x
          (standing_changes before) (standing_changes after) before.shown after.shown answer
          there there_now room_now so_far.calls_ahead same_netlist so_far.ran call_on.exact call_on.leaves;
      rows = each_row;
    }
      where
        each_row : RowsLeft k (means netlist) calls (set calls_now i call_left) (i + 1)
        each_row j h =
            ⊎_elim
            (λ low.
            subst (λ z. CallLeft k (refusal (means netlist) (stand (means netlist) (map call_of (take j calls))) (call_of (get_or calls j Look))) (homes (means netlist)) (get_or calls j Look) z)
            (sym (get_or-set_other calls_now i j call_left Look (λ e. omega arith))) (so_far.rows j low))
            (λ high.
            let e : i ≡ j = omega arith in
            subst
            (λ z. CallLeft k (refusal (means netlist) (stand (means netlist) (map call_of (take z calls))) (call_of (get_or calls z Look))) (homes (means netlist)) (get_or calls z Look)
            (get_or (set calls_now i call_left) z Look))
            e
            (subst (λ z. CallLeft k (refusal (means netlist) (stand (means netlist) (map call_of (take i calls))) (call_of (get_or calls i Look))) (homes (means netlist)) (get_or calls i Look) z)
            (sym (get_or-set_same calls_now i call_left Look there_now)) this_row))
            (cases_lt j i)

  pub run_ends : Laws k → Sound (means netlist) → (calls_now : List (Asked P)) (answers_now : List (Answer P)) (plan : Plan N P) (i count : ℕ) → i ≡ count → count ≡ min (length calls) (length answers)
      → SoFar k means netlist calls calls_now answers answers_now plan i → RunOf k (means netlist) calls calls_now answers answers_now count
  run_ends l s calls_now answers_now plan i count e as_many so_far = subst (λ n. RunOf k (means netlist) calls calls_now answers answers_now n) e (record {
    as_many = e ∙ as_many;
    promise = subst (λ z. Promise k (means netlist) (map call_of (take i calls)) z) (sym so_far.ran.answered) (promised k l (means netlist) s (map call_of (take i calls)));
    exact = so_far.ran.answered;
    answers_stay = so_far.answers_ahead;
    rows_left = so_far.rows;
    calls_stay = so_far.calls_ahead;
  })
