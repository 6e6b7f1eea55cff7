-- What the element of a list at a place answers.
use Rattle.std.proofs.Common.{◌≡◌, ℕ, ◌<◌, ◌≤◌, List, length, get_or, Some, None, sym, ◌∙◌, subst, ⊎_elim}
use Rattle.std.specs.List.{AllByRecursion, slice_get}
use Rattle.std.proofs.ByRecursion.{All-get_or}
use Rattle.std.proofs.lemmas.Option.{none-some, slice_get_cases, slice_get_within, get_or_from_slice_get}

pub nth_all : {X : Type 0} (Q : X → Type 0) (xs : List X) (i : ℕ) (x : X) → AllByRecursion Q xs → Some x ≡ slice_get xs i → Q x
nth_all Q xs i x all e = subst Q (get_or_from_slice_get xs i x x (sym e)) (All-get_or Q xs i x (slice_get_within xs i x (sym e)) all)

-- what stands in a list where an answer is there, and where it is absent
pub nth_there : {X : Type 0} (xs : List X) (i : ℕ) (x d : X) → Some x ≡ slice_get xs i → (i < length xs) × (x ≡ get_or xs i d)
nth_there xs i x d e = (slice_get_within xs i x (sym e), sym (get_or_from_slice_get xs i x d (sym e)))

pub nth_absent : {X : Type 0} (xs : List X) (i : ℕ) → None ≡ slice_get xs i → length xs ≤ i
nth_absent xs i e = ⊎_elim (λ there. absurd (none-some there.0 (e ∙ there.2))) (λ past. past.0) (slice_get_cases xs i).1
