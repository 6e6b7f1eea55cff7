-- For any split: a module that is on another side than the one taken before it is pulled no more than the price of the nets
-- that cross and have all pins among the modules taken so far, itself included.
-- The proof carries a set `base`: all that is taken and not in it is on the side of the latest, and no module that waits is pulled
-- toward it more than the crossing nets within what is taken cost. At a module on the other side all that is taken becomes the base.
use Rattle.std.proofs.Common.{◌≡◌, ℕ, Bool, true, false, ◌&&◌, ◌||◌, eqb, ◌⊎◌, List, [], ◌∷◌, sym, ap, ◌∙◌, subst, inl, inr, ⊎_elim}
use Rattle.std.proofs.lemmas.Bool.{false≢true, both_ways, eqb-true, eqb-false, cases_Bool, and_parts, and_from, or_cases, or_parts, or_right}
use Rattle.price.specs.Kind.{Kind, NotGreater, Laws}
use Rattle.netlist.specs.Nets.{Net}
use Rattle.cut.specs.Cuts.{has, crosses, pulls, total, pull}
use Rattle.std.specs.List.{list_all}
use Rattle.cut.specs.Orders.{TakenAsListed}
use Rattle.cut.proofs.Members.{has_head, has_tail, has_cases, has_one, Member, any_member, member_any, every_member, members_every, not_every_member, same_side, crosses_by, pulls_parts, pulls_from}
use Rattle.cut.proofs.Totals.{le_refl, le_trans, join_le, total_le, total_cover, total_apart, total_none}
use Rattle.cut.proofs.OrderRule.{later_pulled_no_more}

-- the set and v
abbrev pub and_also : ℕ → (ℕ → Bool) → ℕ → Bool
and_also v among p = eqb p v || among p

-- a net with these pins crosses and has all of them in the set
abbrev pub crosses_within : (ℕ → Bool) → (ℕ → Bool) → List ℕ → Bool
crosses_within side among ps = crosses side ps && list_all among ps

-- the crossing nets that come with v
abbrev comes_with : (ℕ → Bool) → ℕ → (ℕ → Bool) → List ℕ → Bool
comes_with side v among ps = crosses_within side (and_also v among) ps && has ps v

in_the_set : (v p : ℕ) (among : ℕ → Bool) → (p ≡ v → ⊥) → and_also v among p ≡ true → among p ≡ true
in_the_set v p among d h = ⊎_elim (λ e. absurd (d (eqb-true p v e))) (λ e. e) (or_cases (eqb p v) (among p) h)

-- a net that pulls v toward the set pulls it toward the base, or it crosses and comes with v
pulls_base_or_comes : (side : ℕ → Bool) (x : Bool) (v : ℕ) (among base : ℕ → Bool) → among v ≡ false
    → ((p : ℕ) → among p ≡ true → base p ≡ false → side p ≡ x) → (x ≡ side v → ⊥)
    → (ps : List ℕ) → pulls v among ps ≡ true → (pulls v base ps ≡ true) ⊎ (comes_with side v among ps ≡ true)
pulls_base_or_comes side x v among base new outside d ps h =
    let a = pulls_parts v among ps h in
    ⊎_elim
    (λ e.
    let q : Member ps (λ p. among p ≡ true) = any_member among ps a.1 in
    let other : q.0 ≡ v → ⊥ = λ i. both_ways (among v) new (subst (λ z. among z ≡ true) i q.2) in
    inl (pulls_from v base ps a.0 (member_any base ps q.0 q.1 (in_the_set v q.0 base other (every_member (and_also v base) ps q.0 e q.1))) e))
    (λ e.
    let q : Member ps (λ p. and_also v base p ≡ false) = not_every_member (and_also v base) ps e in
    let o = or_parts (eqb q.0 v) (base q.0) q.2 in
    let i : among q.0 ≡ true = in_the_set v q.0 among (eqb-false q.0 v o.0) (every_member (and_also v among) ps q.0 a.2 q.1) in
    let c : crosses side ps ≡ true = crosses_by side ps q.0 v q.1 a.0 (λ z. d (sym (outside q.0 i o.1) ∙ z)) in
    inr (and_from (crosses_within side (and_also v among) ps) (has ps v) (and_from (crosses side ps) (list_all (and_also v among) ps) c a.2) a.0))
    (cases_Bool (list_all (and_also v base) ps))

within_more : (side : ℕ → Bool) (v : ℕ) (among : ℕ → Bool) (ps : List ℕ) → crosses_within side among ps ≡ true → crosses_within side (and_also v among) ps ≡ true
within_more side v among ps h =
    let a = and_parts (crosses side ps) (list_all among ps) h in
    and_from (crosses side ps) (list_all (and_also v among) ps) a.0
    (members_every (and_also v among) ps (λ p e. or_right (eqb p v) (among p) (every_member among ps p a.1 e)))

comes_with_new : (side : ℕ → Bool) (v : ℕ) (among : ℕ → Bool) → among v ≡ false → (ps : List ℕ) → comes_with side v among ps ≡ true
    → (crosses_within side (and_also v among) ps ≡ true) × (crosses_within side among ps ≡ false)
comes_with_new side v among new ps h =
    let a = and_parts (crosses_within side (and_also v among) ps) (has ps v) h in (
      a.0,
      ⊎_elim
          (λ e. absurd (both_ways (among v) new (every_member among ps v (and_parts (crosses side ps) (list_all among ps) e).1 a.1)))
          (λ e. e)
          (cases_Bool (crosses_within side among ps)),
    )

module _ {P : Type 0} (k : Kind P) (l : Laws k) (nets : List (Net P)) (side : ℕ → Bool) where
  -- the price of the nets that cross within the set
  abbrev within : (ℕ → Bool) → P
  within among = total k (crosses_within side among) nets

  bound_at_other_side : (x : Bool) (v : ℕ) (among base : ℕ → Bool) → among v ≡ false → ((p : ℕ) → among p ≡ true → base p ≡ false → side p ≡ x) → (x ≡ side v → ⊥)
      → NotGreater k (pull k nets v base) (within among) → NotGreater k (pull k nets v among) (within (and_also v among))
  bound_at_other_side x v among base new outside d h =
      let coming : P = total k (comes_with side v among) nets in
      le_trans k l (pull k nets v among) (k.join (pull k nets v base) coming) (within (and_also v among))
      (total_cover k l (pulls v among) (pulls v base) (comes_with side v among) nets (pulls_base_or_comes side x v among base new outside d))
      (le_trans k l (k.join (pull k nets v base) coming) (k.join (within among) coming) (within (and_also v among))
      (join_le k l (pull k nets v base) (within among) coming coming h (le_refl k l coming))
      (total_apart k l (crosses_within side (and_also v among)) (crosses_within side among) (comes_with side v among) nets (within_more side v among) (comes_with_new side v among new)))

  -- after `before` and then u, each module of the list that is on another side than the one before it is bounded so
  abbrev pub Bounded : ℕ → List ℕ → List ℕ → Type 0
  Bounded u before [] = Unit {0}
  Bounded u before (v ∷ vs) =
      ((side u ≡ side v → ⊥) → NotGreater k (pull k nets v (has (u ∷ before))) (within (has (v ∷ u ∷ before)))) × Bounded v (u ∷ before) vs

  bounded_from : (m u : ℕ) (before vs : List ℕ) (base : ℕ → Bool) → TakenAsListed k nets m (u ∷ before) vs
      → ((p : ℕ) → has (u ∷ before) p ≡ true → base p ≡ false → side p ≡ side u)
      → ((w : ℕ) → has vs w ≡ true → NotGreater k (pull k nets w base) (within (has (u ∷ before))))
      → Bounded u before vs
  bounded_from m u before [] base t outside low = tt
  bounded_from m u before (v ∷ vs) base t outside low = (
    at_v,
    ⊎_elim
        (λ e. bounded_from m v (u ∷ before) vs base t.1
        (λ p i j. ⊎_elim (λ q. ap side q) (λ q. outside p q j ∙ e) (has_cases v (u ∷ before) p i))
        (λ w i. le_trans k l (pull k nets w base) (within (has (u ∷ before))) (within (has (v ∷ u ∷ before)))
        (low w (has_tail v vs w i)) (total_le k l (crosses_within side (has (u ∷ before))) (crosses_within side (has (v ∷ u ∷ before))) nets (within_more side v (has (u ∷ before))))))
        (λ d. bounded_from m v (u ∷ before) vs (has (u ∷ before)) t.1
        (λ p i j. ⊎_elim (λ q. ap side q) (λ q. absurd (both_ways (has (u ∷ before) p) j q)) (has_cases v (u ∷ before) p i))
        (λ w i. le_trans k l (pull k nets w (has (u ∷ before))) (pull k nets v (has (u ∷ before))) (within (has (v ∷ u ∷ before)))
        (later_pulled_no_more k nets m l (u ∷ before) v vs t w i) (at_v d)))
        (same_side (side u) (side v)),
  )
    where
      at_v : (side u ≡ side v → ⊥) → NotGreater k (pull k nets v (has (u ∷ before))) (within (has (v ∷ u ∷ before)))
      at_v d = bound_at_other_side (side u) v (has (u ∷ before)) base t.0.waits outside d (low v (has_head v vs))

  pulls_nothing : (w : ℕ) (ps : List ℕ) → pulls w (λ _. false) ps ≡ false
  pulls_nothing w ps = ⊎_elim
      (λ e. absurd (false≢true (any_member (λ _. false) ps (pulls_parts w (λ _. false) ps e).1).2))
      (λ e. e) (cases_Bool (pulls w (λ _. false) ps))

  -- the first base is empty
  pub pull_bounded : (m u : ℕ) (vs : List ℕ) → TakenAsListed k nets m (u ∷ []) vs → Bounded u [] vs
  pull_bounded m u vs t = bounded_from m u [] vs (λ _. false) t
      (λ p i j. ap side (has_one u p i))
      (λ w i. subst (λ z. NotGreater k z (within (has (u ∷ [])))) (sym (total_none k l (pulls w (λ _. false)) nets (pulls_nothing w)))
      (l.zero_least (within (has (u ∷ [])))))
