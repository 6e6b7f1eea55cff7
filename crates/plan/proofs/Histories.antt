-- What stands, what is shown and what was answered after one call more.
use Rattle.std.proofs.Common.{◌≡◌, ℕ, ◌+◌, ◌<◌, List, [], ◌∷◌, ◌++◌, map, length, get_or, take, drop, set, None, Option, sym, refl, ap, ◌∙◌, subst, ap₂, arith, drop-set-lt}
use Rattle.std.proofs.lemmas.List.{map_more, take_more_set, drop_more}
use Rattle.price.specs.Kind.{Kind}
use Rattle.netlist.specs.Meaning.{Meaning}
use Rattle.cut.specs.declared.found.FoundSplit.{FoundSplit}
use Rattle.standing.specs.declared.change.Change.{Change}
use Rattle.plan.specs.declared.calls.Answer.{Answer}
use Rattle.standing.specs.Standing.{applied}
use Rattle.plan.specs.Reckoning.{Call, refusal, left_by, stand_after, found, shown_by}
use Rattle.plan.specs.Runs.{Leaves, answer_to, shown_after, answers_of, Ran}

module _ {P : Type 0} (k : Kind P) (m : Meaning P) where
  abbrev left : List Change → Call → List Change
  left cs call = left_by (refusal m cs call) cs call

  abbrev shown : List Change → Option (FoundSplit P) → Call → Option (FoundSplit P)
  shown cs o call = shown_by (refusal m cs call) (found k (applied m cs)) o call

  pub stand_more : (cs : List Change) (calls : List Call) (call : Call) → stand_after m cs (calls ++ call ∷ []) ≡ left (stand_after m cs calls) call
  stand_more cs [] call = refl
  stand_more cs (c ∷ calls) call = stand_more (left cs c) calls call

  pub shown_more : (cs : List Change) (o : Option (FoundSplit P)) (calls : List Call) (call : Call)
      → shown_after k m cs o (calls ++ call ∷ []) ≡ shown (stand_after m cs calls) (shown_after k m cs o calls) call
  shown_more cs o [] call = refl
  shown_more cs o (c ∷ calls) call = shown_more (left cs c) (shown cs o c) calls call

  answers_more : (cs : List Change) (o : Option (FoundSplit P)) (calls : List Call) (call : Call)
      → answers_of k m cs o (calls ++ call ∷ []) ≡ answers_of k m cs o calls ++ answer_to k m (stand_after m cs calls) (shown_after k m cs o calls) call ∷ []
  answers_more cs o [] call = refl
  answers_more cs o (c ∷ calls) call = ap (λ answers. answer_to k m cs o c ∷ answers) (answers_more (left cs c) (shown cs o c) calls call)

  pub ran_more : (calls : List Call) (cs cs_left : List Change) (o o_left : Option (FoundSplit P)) (answers : List (Answer P)) (call : Call) (answer : Answer P)
      → Ran k m calls cs o answers → answer ≡ answer_to k m cs o call → Leaves k m cs o call cs_left o_left
      → Ran k m (calls ++ call ∷ []) cs_left o_left (answers ++ answer ∷ [])
  ran_more calls cs cs_left o o_left answers call answer r e leaves = record {
    stands = leaves.changes ∙ (ap (λ z. left z call) r.stands ∙ sym (stand_more [] calls call));
    shows = leaves.shown ∙ (ap₂ (λ z y. shown z y call) r.stands r.shows ∙ sym (shown_more [] None calls call));
    answered =
        ap₂ (λ zs z. zs ++ z ∷ []) r.answered (e ∙ ap₂ (λ z y. answer_to k m z y call) r.stands r.shows)
        ∙ sym (answers_more [] None calls call);
  }

module _ {X : Type 0} (old new : List X) (i : ℕ) (x : X) (h : i < length old) (h_new : i < length new) (e : drop i new ≡ drop i old) where
  both : (get_or new i x ∷ drop (i + 1) new) ≡ (get_or old i x ∷ drop (i + 1) old)
  both = sym (drop_more new i x h_new) ∙ (e ∙ drop_more old i x h)

  pub same_item : get_or new i x ≡ get_or old i x
  same_item = let b = both in cc

  pub same_rest : (y : X) → drop (i + 1) (set new i y) ≡ drop (i + 1) old
  same_rest y = drop-set-lt (i + 1) new i y (omega arith) ∙ (let b = both in cc)

-- One turn of a run: the call is still as it was handed in, its answer is written, and the history is one longer.
pub one_more_answered : {P X : Type 0} (call_of : X → Call) (k : Kind P) (m m_now : Meaning P) (old new : List X) (answers : List (Answer P)) (i : ℕ) (x : X)
    (cs cs_left : List Change) (o o_left : Option (FoundSplit P)) (answer : Answer P)
    → i < length old → i < length new → i < length answers → drop i new ≡ drop i old → m_now ≡ m
    → Ran k m (map call_of (take i old)) cs o (take i answers)
    → answer ≡ answer_to k m_now cs o (call_of (get_or new i x))
    → Leaves k m_now cs o (call_of (get_or new i x)) cs_left o_left
    → Ran k m (map call_of (take (i + 1) old)) cs_left o_left (take (i + 1) (set answers i answer))
one_more_answered {P} {X} call_of k m m_now old new answers i x cs cs_left o o_left answer ho hn ha rest same r e leaves =
    let q : get_or new i x ≡ get_or old i x = same_item old new i x ho hn rest in
    let e' : answer ≡ answer_to k m cs o (call_of (get_or new i x)) = e ∙ ap (λ z. answer_to k z cs o (call_of (get_or new i x))) same in
    let leaves' : Leaves k m cs o (call_of (get_or new i x)) cs_left o_left = subst (λ z. Leaves k z cs o (call_of (get_or new i x)) cs_left o_left) same leaves in
    let more = ran_more k m (map call_of (take i old)) cs cs_left o o_left (take i answers) (call_of (get_or new i x)) answer r e' leaves' in
    let calls : map call_of (take i old) ++ call_of (get_or new i x) ∷ [] ≡ map call_of (take (i + 1) old) =
    ap (λ z. map call_of (take i old) ++ call_of z ∷ []) q ∙ sym (map_more call_of old i x ho) in
    subst (λ zs. Ran k m zs cs_left o_left (take (i + 1) (set answers i answer))) calls
    (subst (λ zs. Ran k m (map call_of (take i old) ++ call_of (get_or new i x) ∷ []) cs_left o_left zs) (sym (take_more_set answers i answer ha)) more)
