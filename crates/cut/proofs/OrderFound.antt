-- The function `order` obeys the rule and has as many modules as there are.
use Rattle.std.proofs.Common.{◌≡◌, ℕ, zero, suc, ◌+◌, ◌<◌, ◌≤◌, Bool, true, false, cond, not, eqb, ◌⊎◌, List, [], ◌∷◌, length, sym, refl, ap, ◌∙◌, subst, inl, inr, ⊎_elim, arith}
use native.Mathlib.Nat.{suc_inj}
use Rattle.std.specs.List.{filter, range_with_len}
use Rattle.std.proofs.lemmas.List.FromFn.{length-range_with_len}
use Rattle.std.proofs.lemmas.Bool.{false≢true, eqb-true, eqb-false, ne_eqb, cases_Bool, cases_eq, cases_order, or_parts, or_from, cond_both}
use Rattle.price.specs.Kind.{Kind, NotGreater, Laws}
use Rattle.netlist.specs.Nets.{Net}
use Rattle.cut.specs.Cuts.{has, pull}
use Rattle.cut.specs.Orders.{MostPulled, TakenAsListed, IsOrder, most_pulled, next_taken, order}
use Rattle.cut.specs.OrderLaws.{OrderIsTheOnlyOne, OrderTakesEachOnce}
use Rattle.cut.proofs.Members.{has_head, has_tail, has_at_head, has_cases, has_one}
use Rattle.cut.proofs.Totals.{le_refl, le_trans, less_le, less_le_less, le_less_less}
use Rattle.cut.proofs.OrderRule.{order_one, order_times}

-- the list without v
abbrev without : ℕ → List ℕ → List ℕ
without v ws = filter (λ w. not (eqb w v)) ws

-- v goes, another stays
kept_both : (v w : ℕ) (gone kept : List ℕ) (P : List ℕ → Type 0) → (eqb w v ≡ true → P gone) → (eqb w v ≡ false → P kept) → P (cond (not (eqb w v)) kept gone)
kept_both v w gone kept P f g = by_test (eqb w v) f g
  where
    by_test : (t : Bool) → (t ≡ true → P gone) → (t ≡ false → P kept) → P (cond (not t) kept gone)
    by_test true f g = f refl
    by_test false f g = g refl

without_member : (v : ℕ) (ws : List ℕ) (p : ℕ) → has (without v ws) p ≡ true → (has ws p ≡ true) × (p ≡ v → ⊥)
without_member v [] p h = absurd (false≢true h)
without_member v (w ∷ ws) p h =
    let tail : has (without v ws) p ≡ true → (has (w ∷ ws) p ≡ true) × (p ≡ v → ⊥) = λ i. (let r = without_member v ws p i in (has_tail w ws p r.0, r.1)) in
    kept_both v w (without v ws) (w ∷ without v ws) (λ z. has z p ≡ true → (has (w ∷ ws) p ≡ true) × (p ≡ v → ⊥))
    (λ e. tail)
    (λ e i. ⊎_elim (λ q. (has_at_head w ws p q, λ r. eqb-false w v e (sym q ∙ r))) tail (has_cases w (without v ws) p i))
    h

member_without : (v : ℕ) (ws : List ℕ) (p : ℕ) → has ws p ≡ true → (p ≡ v → ⊥) → has (without v ws) p ≡ true
member_without v [] p h d = absurd (false≢true h)
member_without v (w ∷ ws) p h d =
    kept_both v w (without v ws) (w ∷ without v ws) (λ z. has z p ≡ true)
    (λ e. ⊎_elim (λ q. absurd (d (q ∙ eqb-true w v e))) (λ q. member_without v ws p q d) (has_cases w ws p h))
    (λ e. ⊎_elim (has_at_head w (without v ws) p) (λ q. has_tail w (without v ws) p (member_without v ws p q d)) (has_cases w ws p h))

-- lists that rise, as the waiting ones do
abbrev Rising : List ℕ → Type 0
Rising [] = Unit {0}
Rising (w ∷ ws) = ((x : ℕ) → has ws x ≡ true → w < x) × Rising ws

without_rising : (v : ℕ) (ws : List ℕ) → Rising ws → Rising (without v ws)
without_rising v [] r = tt
without_rising v (w ∷ ws) r =
    kept_both v w (without v ws) (w ∷ without v ws) Rising
    (λ e. without_rising v ws r.1)
    (λ e. (λ x h. r.0 x (without_member v ws x h).0, without_rising v ws r.1))

without_absent : (v : ℕ) (ws : List ℕ) → (has ws v ≡ true → ⊥) → without v ws ≡ ws
without_absent v [] h = refl
without_absent v (w ∷ ws) h =
    ap (λ b. cond (not b) (w ∷ without v ws) (without v ws)) (ne_eqb w v (λ e. h (has_at_head w ws v (sym e))))
    ∙ ap (λ z. w ∷ z) (without_absent v ws (λ i. h (has_tail w ws v i)))

-- of a rising list, one fewer
without_one : (v : ℕ) (ws : List ℕ) → Rising ws → has ws v ≡ true → suc (length (without v ws)) ≡ length ws
without_one v [] r h = absurd (false≢true h)
without_one v (w ∷ ws) r h =
    kept_both v w (without v ws) (w ∷ without v ws) (λ z. suc (length z) ≡ suc (length ws))
    (λ e. ap (λ z. suc (length z)) (without_absent v ws (λ i. absurd (omega (arith, eqb-true w v e, r.0 v i)))))
    (λ e. ap suc (without_one v ws r.1 (⊎_elim (λ q. absurd (eqb-false w v e (sym q))) (λ q. q) (has_cases w ws v h))))

member_numbers : (i n p : ℕ) → i ≤ p → p < i + n → has (range_with_len i n) p ≡ true
member_numbers i zero p a b = absurd (omega arith)
member_numbers i (suc n) p a b = ⊎_elim
    (has_at_head i (range_with_len (i + 1) n) p)
    (λ d. has_tail i (range_with_len (i + 1) n) p (member_numbers (i + 1) n p (omega arith) (omega arith)))
    (cases_eq p i)

numbers_member : (i n p : ℕ) → has (range_with_len i n) p ≡ true → (i ≤ p) × (p < i + n)
numbers_member i zero p h = absurd (false≢true h)
numbers_member i (suc n) p h = ⊎_elim (λ e. omega arith) (λ e. omega (arith, numbers_member (i + 1) n p e)) (has_cases i (range_with_len (i + 1) n) p h)

numbers_rising : (i n : ℕ) → Rising (range_with_len i n)
numbers_rising i zero = tt
numbers_rising i (suc n) = (λ x h. omega (arith, numbers_member (i + 1) n x h), numbers_rising (i + 1) n)

module _ {P : Type 0} (k : Kind P) (l : Laws k) (nets : List (Net P)) (taken : List ℕ) where
  abbrev pulled : ℕ → P
  pulled v = pull k nets v (has taken)

  abbrev most : ℕ → List ℕ → ℕ
  most v ws = most_pulled k nets taken v ws

  -- of two, the one more pulled
  abbrev more : ℕ → ℕ → ℕ
  more v w = cond (k.less (pulled v) (pulled w)) w v

  more_both : (v w : ℕ) → NotGreater k (pulled v) (pulled (more v w)) × NotGreater k (pulled w) (pulled (more v w))
  more_both v w =
      cond_both (k.less (pulled v) (pulled w)) w v (λ z. NotGreater k (pulled v) (pulled z) × NotGreater k (pulled w) (pulled z))
      (λ e. (less_le k l (pulled v) (pulled w) e, le_refl k l (pulled w)))
      (λ e. (le_refl k l (pulled v), e))

  more_one : (v w : ℕ) → (more v w ≡ v) ⊎ (more v w ≡ w)
  more_one v w = cond_both (k.less (pulled v) (pulled w)) w v (λ z. (z ≡ v) ⊎ (z ≡ w)) (λ e. inr refl) (λ e. inl refl)

  most_member : (v : ℕ) (ws : List ℕ) → has (v ∷ ws) (most v ws) ≡ true
  most_member v [] = has_head v []
  most_member v (w ∷ ws) =
      ⊎_elim
      (λ e. ⊎_elim
      (λ q. has_at_head v (w ∷ ws) (most (more v w) ws) (e ∙ q))
      (λ q. has_tail v (w ∷ ws) (most (more v w) ws) (has_at_head w ws (most (more v w) ws) (e ∙ q)))
      (more_one v w))
      (λ e. has_tail v (w ∷ ws) (most (more v w) ws) (has_tail w ws (most (more v w) ws) e))
      (has_cases (more v w) ws (most (more v w) ws) (most_member (more v w) ws))

  most_over_first : (v : ℕ) (ws : List ℕ) → NotGreater k (pulled v) (pulled (most v ws))
  most_over_first v [] = le_refl k l (pulled v)
  most_over_first v (w ∷ ws) = le_trans k l (pulled v) (pulled (more v w)) (pulled (most (more v w) ws)) (more_both v w).0 (most_over_first (more v w) ws)

  most_over : (v : ℕ) (ws : List ℕ) (x : ℕ) → has (v ∷ ws) x ≡ true → NotGreater k (pulled x) (pulled (most v ws))
  most_over v [] x h = subst (λ z. NotGreater k (pulled z) (pulled v)) (sym (has_one v x h)) (le_refl k l (pulled v))
  most_over v (w ∷ ws) x h =
      let b : ℕ = most (more v w) ws in
      ⊎_elim
      (λ e. subst (λ z. NotGreater k (pulled z) (pulled b)) (sym e) (most_over_first v (w ∷ ws)))
      (λ e. ⊎_elim
      (λ q. subst (λ z. NotGreater k (pulled z) (pulled b)) (sym q)
      (le_trans k l (pulled w) (pulled (more v w)) (pulled b) (more_both v w).1 (most_over_first (more v w) ws)))
      (λ q. most_over (more v w) ws x (has_tail (more v w) ws x q))
      (has_cases w ws x e))
      (has_cases v (w ∷ ws) x h)

  -- in a rising list those before it are pulled less
  most_lowest : (v : ℕ) (ws : List ℕ) → Rising (v ∷ ws) → (x : ℕ) → has (v ∷ ws) x ≡ true → x < most v ws → k.less (pulled x) (pulled (most v ws)) ≡ true
  most_lowest v [] r x h lt = absurd (omega (arith, has_one v x h))
  most_lowest v (w ∷ ws) r x h below =
      let from_v : Rising (v ∷ ws) = (λ y e. r.0 y (has_tail w ws y e), r.1.1) in
      cond_both (k.less (pulled v) (pulled w)) w v (λ z. x < most z ws → k.less (pulled x) (pulled (most z ws)) ≡ true)
      (λ e lt. ⊎_elim
      (λ q. subst (λ z. k.less (pulled z) (pulled (most w ws)) ≡ true) (sym q)
      (less_le_less k l (pulled v) (pulled w) (pulled (most w ws)) e (most_over_first w ws)))
      (λ q. most_lowest w ws r.1 x q lt)
      (has_cases v (w ∷ ws) x h))
      (λ e lt. ⊎_elim
      (λ q. most_lowest v ws from_v x (has_at_head v ws x q) lt)
      (λ q. ⊎_elim
      (λ a. subst (λ z. k.less (pulled z) (pulled (most v ws)) ≡ true) (sym a)
      (le_less_less k l (pulled w) (pulled v) (pulled (most v ws)) e
      (most_lowest v ws from_v v (has_head v ws) (omega (arith, r.0 w (has_head w ws), a)))))
      (λ a. most_lowest v ws from_v x (has_tail v ws x a) lt)
      (has_cases w ws x q))
      (has_cases v (w ∷ ws) x h))
      below

-- the waiting list has what is not taken
abbrev Waiting : ℕ → List ℕ → List ℕ → Type 0
Waiting m taken ws = (w : ℕ) → (has ws w ≡ true → (w < m) × (has taken w ≡ false)) × (w < m → has taken w ≡ false → has ws w ≡ true)

waiting_next : (m : ℕ) (taken ws : List ℕ) (v : ℕ) → Waiting m taken ws → Waiting m (v ∷ taken) (without v ws)
waiting_next m taken ws v a x = (
  (λ h.
      let r = without_member v ws x h in
      (((a x).0 r.0).0, or_from (eqb x v) (has taken x) (ne_eqb x v r.1) ((a x).0 r.0).1)),
  (λ lt out.
      let o = or_parts (eqb x v) (has taken x) out in
      member_without v ws x ((a x).1 lt o.1) (eqb-false x v o.0)),
)

module _ {P : Type 0} (k : Kind P) (l : Laws k) (nets : List (Net P)) (m : ℕ) where
  most_ranked : (taken : List ℕ) (w : ℕ) (ws : List ℕ) → Rising (w ∷ ws) → (x : ℕ) → has (w ∷ ws) x ≡ true
      → (x ≡ most k l nets taken w ws)
      ⊎ ((k.less (pulled k l nets taken x) (pulled k l nets taken (most k l nets taken w ws)) ≡ true)
      ⊎ ((pulled k l nets taken x ≡ pulled k l nets taken (most k l nets taken w ws)) × (most k l nets taken w ws < x)))
  most_ranked taken w ws r x h =
      let v : ℕ = most k l nets taken w ws in
      let at : ℕ → P = pulled k l nets taken in
      ⊎_elim inl
      (λ o. inr (⊎_elim
      (λ e. inl (most_lowest k l nets taken w ws r x h e))
      (λ e. ⊎_elim inl (λ f. inr (l.connected (at x) (at v) f (most_over k l nets taken w ws x h), e)) (cases_Bool (k.less (at x) (at v))))
      o))
      (cases_order x v)

  most_is_next : (taken : List ℕ) (w : ℕ) (ws : List ℕ) → Waiting m taken (w ∷ ws) → Rising (w ∷ ws) → MostPulled k nets m taken (most_pulled k nets taken w ws)
  most_is_next taken w ws a r =
      let h = (a (most_pulled k nets taken w ws)).0 (most_member k l nets taken w ws) in
      record { there = h.0; waits = h.1; first = λ x lt out. most_ranked taken w ws r x ((a x).1 lt out) }

  next_as_listed : (n : ℕ) (taken ws : List ℕ) → length ws ≡ n → Waiting m taken ws → Rising ws
      → TakenAsListed k nets m taken (next_taken k nets n taken ws) × (length (next_taken k nets n taken ws) ≡ n)
  next_as_listed zero taken [] h a r = (λ w lt. ⊎_elim (λ e. e) (λ e. absurd (false≢true ((a w).1 lt e))) (cases_Bool (has taken w)), refl)
  next_as_listed zero taken (w ∷ ws) h a r = absurd (omega arith)
  next_as_listed (suc n) taken [] h a r = absurd (omega arith)
  next_as_listed (suc n) taken (w ∷ ws) h a r =
      let v : ℕ = most_pulled k nets taken w ws in
      let rest : TakenAsListed k nets m (v ∷ taken) (next_taken k nets n (v ∷ taken) (without v (w ∷ ws))) × (length (next_taken k nets n (v ∷ taken) (without v (w ∷ ws))) ≡ n) =
      next_as_listed n (v ∷ taken) (without v (w ∷ ws)) (suc_inj (without_one v (w ∷ ws) r (most_member k l nets taken w ws) ∙ h)) (waiting_next m taken (w ∷ ws) v a) (without_rising v (w ∷ ws) r) in
      ((most_is_next taken w ws a r, rest.0), ap suc rest.1)

module _ {P : Type 0} (k : Kind P) (l : Laws k) (nets : List (Net P)) where
  order_begun : (n : ℕ) → TakenAsListed k nets (suc n) (0 ∷ []) (next_taken k nets n (0 ∷ []) (range_with_len 1 n)) × (length (next_taken k nets n (0 ∷ []) (range_with_len 1 n)) ≡ n)
  order_begun n = next_as_listed k l nets (suc n) n (0 ∷ []) (range_with_len 1 n) (length-range_with_len 1 n) waiting (numbers_rising 1 n)
    where
      waiting : Waiting (suc n) (0 ∷ []) (range_with_len 1 n)
      waiting w = (
        (λ h. (omega (arith, numbers_member 1 n w h), or_from (eqb w 0) false (ne_eqb w 0 (λ e. absurd (omega (arith, numbers_member 1 n w h)))) refl)),
        (λ lt out. member_numbers 1 n w (positive w (eqb-false w 0 (or_parts (eqb w 0) false out).0)) (omega arith)),
      )
        where
          positive : (w : ℕ) → (w ≡ 0 → ⊥) → 1 ≤ w
          positive w d = omega arith

  pub order_is : (m : ℕ) → IsOrder k nets m (order k nets m)
  unfolding order
  order_is zero = refl
  order_is (suc n) = (omega arith, refl, (order_begun n).0)

  pub length_order : (m : ℕ) → length (order k nets m) ≡ m
  unfolding order
  length_order zero = refl
  length_order (suc n) = ap suc (order_begun n).1

pub order_is_the_only_one_lem : {P : Type 0} (k : Kind P) → Laws k → OrderIsTheOnlyOne k
order_is_the_only_one_lem k l nets m = (order_is k l nets m, λ list o. order_one k nets m l (order k nets m) list (order_is k l nets m) o)

pub order_takes_each_once_lem : {P : Type 0} (k : Kind P) → Laws k → OrderTakesEachOnce k
order_takes_each_once_lem k l nets m = (length_order k l nets m, order_times k nets m (order k nets m) (order_is k l nets m))
