-- A net's pins as a set, once two groups are one.
use Rattle.std.proofs.Common.{◌≡◌, ℕ, ◌<◌, max, min, true, false, eqb, List, map, sym, ap, ◌∙◌, subst, ⊎_elim, arith}
use Rattle.std.proofs.lemmas.Bool.{both_ways, eqb-true, eq-eqb, cases_Bool, cases_lt, or_cases, or_left, or_right}
use Rattle.std.proofs.lemmas.Bool.Decides.{nat_tests}
use Rattle.moduleset.specs.Words.{has as is_in, opened_at}
use Rattle.moduleset.proofs.Sets.{has_past}
use Rattle.netlist.specs.Changes.{united_place}
use Rattle.cut.specs.Cuts.{has}
use Rattle.cut.proofs.Members.{map_member, member_of_map, same_tests}
use Rattle.grouping.specs.Masks.{SetOf, AlsoHas}

united_opened : (a b v : ℕ) → united_place a b (opened_at (max a b) v) ≡ v
united_opened a b v = grind (arith, nat_tests)

united_higher : (a b : ℕ) → united_place a b (max a b) ≡ min a b
united_higher a b = grind (arith, nat_tests)

-- any but the higher of the two is opened from what becomes of it
opened_united : (a b p : ℕ) → (p ≡ max a b → ⊥) → opened_at (max a b) (united_place a b p) ≡ p
opened_united a b p ne = grind (arith, nat_tests)

united_stays_small : (a b p : ℕ) → p < 64 → united_place a b p < 64
united_stays_small a b p h = grind (arith, nat_tests)

module _ (mask a b closed : ℕ) (pins : List ℕ) (s : SetOf mask pins) (opened : (v : ℕ) → v < 64 → is_in closed v ≡ is_in mask (opened_at (max a b) v)) where
  small : (w v : ℕ) → is_in w v ≡ true → v < 64
  small w v y = ⊎_elim (λ h. h) (λ h. absurd (both_ways (is_in w v) (has_past w v h) y)) (cases_lt v 64)

  -- what the closed set has, the united pins have
  closed_there : (v : ℕ) → is_in closed v ≡ true → has (map (united_place a b) pins) v ≡ true
  closed_there v y =
      let u : ℕ = opened_at (max a b) v in
      subst (λ (x : ℕ). has (map (united_place a b) pins) x ≡ true) (united_opened a b v)
      (map_member (united_place a b) pins u (sym (s u) ∙ sym (opened v (small closed v y)) ∙ y))

  -- what the united pins have besides the higher of the two, the closed set has
  there_closed : (v p : ℕ) → v ≡ united_place a b p → has pins p ≡ true → (p ≡ max a b → ⊥) → is_in closed v ≡ true
  there_closed v p e m ne =
      let q : is_in mask p ≡ true = s p ∙ m in
      ap (is_in closed) e ∙ opened (united_place a b p) (united_stays_small a b p (small mask p q)) ∙ ap (is_in mask) (opened_united a b p ne) ∙ q

  pub united_without : is_in mask (max a b) ≡ false → SetOf closed (map (united_place a b) pins)
  united_without none v =
      same_tests (is_in closed v) (has (map (united_place a b) pins) v)
      (closed_there v)
      (λ y.
      let m = member_of_map (united_place a b) pins v y in
      there_closed v m.0 m.2 m.1 (λ e. both_ways (is_in mask (max a b)) none (ap (is_in mask) (sym e) ∙ s m.0 ∙ m.1)))

  pub united_with : (result : ℕ) → is_in mask (max a b) ≡ true → AlsoHas closed result (min a b) → SetOf result (map (united_place a b) pins)
  united_with result some also v =
      same_tests (is_in result v) (has (map (united_place a b) pins) v)
      (λ y. ⊎_elim
      (closed_there v)
      (λ e. subst (λ (x : ℕ). has (map (united_place a b) pins) x ≡ true) (united_higher a b ∙ sym (eqb-true v (min a b) e))
      (map_member (united_place a b) pins (max a b) (sym (s (max a b)) ∙ some)))
      (or_cases (is_in closed v) (eqb v (min a b)) (sym (also v (small result v y)) ∙ y)))
      (λ y.
      let m = member_of_map (united_place a b) pins v y in
      let p : ℕ = m.0 in
      let l : v < 64 = subst (λ (x : ℕ). x < 64) (sym m.2) (united_stays_small a b p (small mask p (s p ∙ m.1))) in
      also v l ∙ ⊎_elim
      (λ e. or_right (is_in closed v) (eqb v (min a b)) (eq-eqb v (min a b) (m.2 ∙ ap (united_place a b) (eqb-true p (max a b) e) ∙ united_higher a b)))
      (λ e. or_left (is_in closed v) (eqb v (min a b)) (there_closed v p m.2 m.1 (λ q. both_ways (eqb p (max a b)) e (eq-eqb p (max a b) q))))
      (cases_Bool (eqb p (max a b))))
