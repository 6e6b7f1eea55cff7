-- Distinct numbers below m are at most m.
use Rattle.std.proofs.Common.{◌≡◌, ℕ, suc, ◌<◌, ◌≤◌, true, ◌||◌, eqb, List, [], ◌∷◌, length, get_or, sym, ap, ◌∙◌, inl, inr, arith}
use Rattle.std.specs.List.{list_any}
use Rattle.std.proofs.lemmas.Bool.{cases_eq, ne_eqb, false≢true}
use Rattle.std.proofs.lemmas.List.{get_or_default}
use Rattle.std.proofs.lemmas.Map.Keys.{IsDistinct-from_apart}
use Rattle.std.proofs.lemmas.Map.Steps.{length-le_from_distinct_below}

each_below : (m : ℕ) (xs : List ℕ) → ((i : ℕ) → i < length xs → get_or xs i 0 < m) → (q : ℕ) → list_any (eqb q) xs ≡ true → q < m
each_below m [] below q h = absurd (false≢true h)
each_below m (x ∷ xs) below q h =
    elim (cases_eq q x) [
      | inl e ↦ omega (arith, below 0 (omega arith))
      | inr d ↦ each_below m xs (λ i l. below (suc i) (omega arith)) q (sym (ap (λ b. b || list_any (eqb q) xs) (ne_eqb q x d)) ∙ h)
    ]

pub distinct_few : (m : ℕ) (xs : List ℕ) → ((i : ℕ) → i < length xs → get_or xs i 0 < m)
    → ((i j : ℕ) → i < j → j < length xs → get_or xs j 0 ≡ get_or xs i 0 → ⊥) → length xs ≤ m
distinct_few m xs below apart =
    length-le_from_distinct_below xs m
    (IsDistinct-from_apart eqb xs (λ i j d l h. ne_eqb _ _ (λ e.
    apart i j l h (sym (get_or_default xs j d 0 h) ∙ sym e ∙ get_or_default xs i d 0 (omega arith)))))
    (each_below m xs below)
