-- Sets that are built one module after another by a test.
use Rattle.std.proofs.Common.{◌≡◌, ℕ, ◌+◌, ◌<◌, ◌≤◌, Bool, true, false, ◌&&◌, ◌||◌, eqb, ltb, ◌⊎◌, sym, refl, ap, ◌∙◌, ap₂, inl, inr, arith}
use Rattle.std.proofs.lemmas.Bool.{cases_order, lt-ltb, le-ltb, eq-eqb, ne_eqb}
use Rattle.moduleset.specs.Words.{has as is_in}
use Rattle.grouping.specs.Masks.{AlsoHas}

-- the set has those below n that pass the test
abbrev pub PassBelow : (ℕ → Bool) → ℕ → ℕ → Type 0
PassBelow test n set = (v : ℕ) → v < 64 → is_in set v ≡ (ltb v n && test v)

module _ (test : ℕ → Bool) where
  pub pass_none : (set : ℕ) → ((v : ℕ) → is_in set v ≡ false) → PassBelow test 0 set
  pass_none set e v h = e v ∙ sym (ap (λ b. b && test v) (le-ltb v 0 (omega arith)))

  module _ (set n : ℕ) (before : PassBelow test n set) where
    pub pass_skip : test n ≡ false → PassBelow test (n + 1) set
    pass_skip e v h = before v h ∙ go (cases_order v n)
      where
        go : (v ≡ n) ⊎ ((v < n) ⊎ (n < v)) → (ltb v n && test v) ≡ (ltb v (n + 1) && test v)
        go (inl q) = ap₂ (λ a b. a && b) (le-ltb v n (omega arith)) (ap test q ∙ e) ∙ sym (ap₂ (λ a b. a && b) (lt-ltb v (n + 1) (omega arith)) (ap test q ∙ e))
        go (inr (inl q)) = ap (λ a. a && test v) (lt-ltb v n q ∙ sym (lt-ltb v (n + 1) (omega arith)))
        go (inr (inr q)) = ap (λ a. a && test v) (le-ltb v n (omega arith) ∙ sym (le-ltb v (n + 1) (omega arith)))

    pub pass_put : (set' : ℕ) → test n ≡ true → AlsoHas set set' n → PassBelow test (n + 1) set'
    pass_put set' e f v h = f v h ∙ ap (λ b. b || eqb v n) (before v h) ∙ go (cases_order v n)
      where
        or_no : (a : Bool) → (a || false) ≡ a
        or_no true = refl
        or_no false = refl

        go : (v ≡ n) ⊎ ((v < n) ⊎ (n < v)) → ((ltb v n && test v) || eqb v n) ≡ (ltb v (n + 1) && test v)
        go (inl q) =
            ap₂ (λ a b. (a && test v) || b) (le-ltb v n (omega arith)) (eq-eqb v n q) ∙ sym (ap₂ (λ a b. a && b) (lt-ltb v (n + 1) (omega arith)) (ap test q ∙ e))
        go (inr (inl q)) =
            ap₂ (λ a b. (a && test v) || b) (lt-ltb v n q) (ne_eqb v n (λ z. absurd (omega arith))) ∙ or_no (test v) ∙ ap (λ a. a && test v) (sym (lt-ltb v (n + 1) (omega arith)))
        go (inr (inr q)) =
            ap₂ (λ a b. (a && test v) || b) (le-ltb v n (omega arith)) (ne_eqb v n (λ z. absurd (omega arith))) ∙ ap (λ a. a && test v) (sym (le-ltb v (n + 1) (omega arith)))

  pub pass_all : (set n : ℕ) → 64 ≤ n → PassBelow test n set → (v : ℕ) → v < 64 → is_in set v ≡ test v
  pass_all set n l f v h = f v h ∙ ap (λ b. b && test v) (lt-ltb v n (omega arith))
