-- An element of a list by its number, as a question answers it, and what was seen up to it.
use Rattle.std.proofs.Common.{◌≡◌, ℕ, ◌+◌, ◌≤◌, List, [], ◌∷◌, ◌++◌, length, take, Some, None, sym, ap, ◌∙◌, ⊎_elim}
use Rattle.std.specs.List.{slice_get}
use Rattle.std.proofs.lemmas.List.{take_more}
use Rattle.std.proofs.lemmas.Option.{slice_get_cases, slice_get_within, get_or_from_slice_get}

module _ {X : Type 0} (xs : List X) (i : ℕ) where
  pub nth_past : None ≡ slice_get xs i → length xs ≤ i
  nth_past e = ⊎_elim (λ a. absurd (let f = e ∙ a.2 in cc)) (λ b. b.0) (slice_get_cases xs i).1

  pub nth_next : (x : X) → Some x ≡ slice_get xs i → take (i + 1) xs ≡ take i xs ++ x ∷ []
  nth_next x e = take_more xs i x (slice_get_within xs i x (sym e)) ∙ ap (λ y. take i xs ++ y ∷ []) (get_or_from_slice_get xs i x x (sym e))
