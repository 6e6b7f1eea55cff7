-- What the rule of the order says: which modules a list that obeys it takes, how often, and that there is one such list.
use Rattle.std.proofs.Common.{◌≡◌, ℕ, ◌+◌, ◌<◌, ◌≤◌, true, false, cond, eqb, ltb, ◌⊎◌, List, [], ◌∷◌, sym, refl, ap, ◌∙◌, subst, ap₂, inl, inr, ⊎_elim, arith}
use Rattle.std.specs.List.{count_by}
use Rattle.std.proofs.lemmas.List.Sums.{sum_by-cons}
use Rattle.std.proofs.lemmas.Bool.{false≢true, both_ways, eq-eqb, ne_eqb, lt-ltb, le-ltb, cases_Bool, cases_eq, cases_lt, or_parts}
use Rattle.price.specs.Kind.{Kind, NotGreater, Laws}
use Rattle.netlist.specs.Nets.{Net}
use Rattle.cut.specs.Cuts.{has, pull}
use Rattle.cut.specs.Orders.{MostPulled, TakenAsListed, IsOrder}
use Rattle.cut.proofs.Members.{has_tail, has_at_head, has_cases, has_one}
use Rattle.cut.proofs.Totals.{le_refl, less_le}

module _ {P : Type 0} (k : Kind P) (nets : List (Net P)) (m : ℕ) where
  abbrev by : List ℕ → ℕ → P
  by taken v = pull k nets v (has taken)

  pub listed_waits : (taken list : List ℕ) → TakenAsListed k nets m taken list → (w : ℕ) → has list w ≡ true → (w < m) × (has taken w ≡ false)
  listed_waits taken [] t w h = absurd (false≢true h)
  listed_waits taken (v ∷ rest) t w h = ⊎_elim
      (λ e. (subst (λ z. z < m) (sym e) t.0.there, subst (λ z. has taken z ≡ false) (sym e) t.0.waits))
      (λ e. (let r = listed_waits (v ∷ taken) rest t.1 w e in (r.0, (or_parts (eqb w v) (has taken w) r.1).1)))
      (has_cases v rest w h)

  pub waits_listed : (taken list : List ℕ) → TakenAsListed k nets m taken list → (w : ℕ) → w < m → (has taken w ≡ true) ⊎ (has list w ≡ true)
  waits_listed taken [] t w h = inl (t w h)
  waits_listed taken (v ∷ rest) t w h = ⊎_elim
      (λ e. ⊎_elim (λ q. inr (has_at_head v rest w q)) inl (has_cases v taken w e))
      (λ e. inr (has_tail v rest w e))
      (waits_listed (v ∷ taken) rest t.1 w h)

  -- none that comes later is pulled more
  pub later_pulled_no_more : Laws k → (taken : List ℕ) (v : ℕ) (rest : List ℕ) → TakenAsListed k nets m taken (v ∷ rest)
      → (w : ℕ) → has rest w ≡ true → NotGreater k (pull k nets w (has taken)) (pull k nets v (has taken))
  later_pulled_no_more l taken v rest t w h =
      let a = listed_waits taken (v ∷ rest) t w (has_tail v rest w h) in
      ⊎_elim
      (λ e. subst (λ z. NotGreater k (by taken w) (by taken z)) e (le_refl k l (by taken w)))
      (λ o. ⊎_elim (λ e. less_le k l (by taken w) (by taken v) e) (λ e. subst (λ z. NotGreater k (by taken w) z) e.0 (le_refl k l (by taken w))) o)
      (t.0.first w a.0 a.1)

  -- two that are most pulled are one
  pub most_pulled_one : Laws k → (taken : List ℕ) (v w : ℕ) → MostPulled k nets m taken v → MostPulled k nets m taken w → w ≡ v
  most_pulled_one l taken v w a b =
      ⊎_elim (λ e. e) (λ o. ⊎_elim sym (λ p. absurd (clash o p)) (b.first v a.there a.waits)) (a.first w b.there b.waits)
    where
      strict : (p q : P) → k.less p q ≡ true → k.less q p ≡ true → ⊥
      strict p q e f = both_ways (k.less p p) (l.irreflexive p) (l.transitive p q p e f)

      level : (p q : P) → k.less p q ≡ true → q ≡ p → ⊥
      level p q e f = both_ways (k.less p p) (l.irreflexive p) (subst (λ z. k.less p z ≡ true) f e)

      clash : (k.less (by taken w) (by taken v) ≡ true) ⊎ ((by taken w ≡ by taken v) × (v < w)) → (k.less (by taken v) (by taken w) ≡ true) ⊎ ((by taken v ≡ by taken w) × (w < v)) → ⊥
      clash (inl e) (inl f) = strict (by taken w) (by taken v) e f
      clash (inl e) (inr f) = level (by taken w) (by taken v) e f.0
      clash (inr e) (inl f) = level (by taken v) (by taken w) f e.0
      clash (inr e) (inr f) = omega arith

  taken_one : Laws k → (taken vs ws : List ℕ) → TakenAsListed k nets m taken vs → TakenAsListed k nets m taken ws → ws ≡ vs
  taken_one l taken [] [] a b = refl
  taken_one l taken [] (w ∷ ws) a b = absurd (both_ways (has taken w) b.0.waits (a w b.0.there))
  taken_one l taken (v ∷ vs) [] a b = absurd (both_ways (has taken v) a.0.waits (b v a.0.there))
  taken_one l taken (v ∷ vs) (w ∷ ws) a b =
      let e : w ≡ v = most_pulled_one l taken v w a.0 b.0 in
      ap₂ (λ x xs. x ∷ xs) e (taken_one l (v ∷ taken) vs ws a.1 (subst (λ z. TakenAsListed k nets m (z ∷ taken) ws) e b.1))

  pub order_one : Laws k → (vs ws : List ℕ) → IsOrder k nets m vs → IsOrder k nets m ws → ws ≡ vs
  order_one l [] [] a b = refl
  order_one l [] (w ∷ ws) a b = absurd (omega (arith, b.0))
  order_one l (v ∷ vs) [] a b = absurd (omega (arith, a.0))
  order_one l (v ∷ vs) (w ∷ ws) a b = ap₂ (λ x xs. x ∷ xs) (b.1 ∙ sym a.1) (taken_one l (0 ∷ []) vs ws a.2 b.2)

  -- a module that was taken or is not there is not listed, one that waits is listed once
  times_taken : (taken list : List ℕ) → TakenAsListed k nets m taken list → (w : ℕ) → (has taken w ≡ true) ⊎ (m ≤ w) → count_by (eqb w) list ≡ 0
  times_taken taken [] t w o = refl
  times_taken taken (v ∷ rest) t w o =
      sum_by-cons _ v rest ∙ ap₂ (λ b n. cond b 1 0 + n) (ne_eqb w v other) (times_taken (v ∷ taken) rest t.1 w (⊎_elim (λ h. inl (has_tail v taken w h)) inr o))
    where
      other : w ≡ v → ⊥
      other e = ⊎_elim
          (λ h. both_ways (has taken v) t.0.waits (subst (λ z. has taken z ≡ true) e h))
          (λ h. absurd (omega (arith, t.0.there)))
          o

  times_waiting : (taken list : List ℕ) → TakenAsListed k nets m taken list → (w : ℕ) → has taken w ≡ false → w < m → count_by (eqb w) list ≡ 1
  times_waiting taken [] t w out h = absurd (both_ways (has taken w) out (t w h))
  times_waiting taken (v ∷ rest) t w out h = ⊎_elim
      (λ e. sum_by-cons _ v rest ∙ ap₂ (λ b n. cond b 1 0 + n) (eq-eqb w v e) (times_taken (v ∷ taken) rest t.1 w (inl (has_at_head v taken w e))))
      (λ d. sum_by-cons _ v rest ∙ ap₂ (λ b n. cond b 1 0 + n) (ne_eqb w v d) (times_waiting (v ∷ taken) rest t.1 w (later d) h))
      (cases_eq w v)
    where
      later : (w ≡ v → ⊥) → has (v ∷ taken) w ≡ false
      later d = ⊎_elim (λ e. absurd (⊎_elim d (both_ways (has taken w) out) (has_cases v taken w e))) (λ e. e) (cases_Bool (has (v ∷ taken) w))

  pub order_times : (list : List ℕ) → IsOrder k nets m list → (w : ℕ) → count_by (eqb w) list ≡ cond (ltb w m) 1 0
  order_times [] o w = sym (ap (λ b. cond b 1 0) (le-ltb w m (omega (arith, o))))
  order_times (v ∷ rest) o w = ⊎_elim
      (λ e. sum_by-cons _ v rest ∙ ap₂ (λ b n. cond b 1 0 + n) (eq-eqb w v (e ∙ sym o.1)) (times_taken (0 ∷ []) rest o.2 w (inl (has_at_head 0 [] w e)))
      ∙ sym (ap (λ b. cond b 1 0) (lt-ltb w m (omega (arith, o.0)))))
      (λ d. sum_by-cons _ v rest ∙ ap (λ b. cond b 1 0 + count_by (eqb w) rest) (ne_eqb w v (λ e. d (e ∙ o.1))) ∙ (drop_zero (count_by (eqb w) rest) ∙ later d (cases_lt w m)))
      (cases_eq w 0)
    where
      drop_zero : (n : ℕ) → 0 + n ≡ n
      drop_zero n = omega arith

      later : (w ≡ 0 → ⊥) → (w < m) ⊎ (m ≤ w) → count_by (eqb w) rest ≡ cond (ltb w m) 1 0
      later d (inl h) =
          times_waiting (0 ∷ []) rest o.2 w (⊎_elim (λ e. absurd (d (has_one 0 w e))) (λ e. e) (cases_Bool (has (0 ∷ []) w))) h
          ∙ sym (ap (λ b. cond b 1 0) (lt-ltb w m h))
      later d (inr h) = times_taken (0 ∷ []) rest o.2 w (inr h) ∙ sym (ap (λ b. cond b 1 0) (le-ltb w m h))
