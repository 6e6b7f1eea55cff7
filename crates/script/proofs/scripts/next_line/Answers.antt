use Rattle.std.proofs.Common.{◌≡◌, ℕ, ◌<◌, false, eqb, List, [], ◌∷◌, length, sym, refl, inl, inr, arith, eqb-true}
use borrow.Author.Tests.{eqb-false}
use Rattle.script.proofs.scripts.next_line.Goals as goal

some_bytes : (xs : List ℕ) → false ≡ eqb (length xs) 0 → 0 < length xs
some_bytes xs e = let some : length xs ≡ 0 → ⊥ = eqb-false (length xs) 0 (sym e) in omega arith

no_bytes : (xs : List ℕ) → length xs ≡ 0 → xs ≡ []
no_bytes [] e = refl
no_bytes (x ∷ xs) e = absurd (omega arith)

pub returns-then-is_empty : goal.returns-then-is_empty
returns-then-is_empty c = no_bytes c.args.script.now (eqb-true (length c.args.script.now) 0 (sym c.if-is_empty.ensures))

pub returns-in-Some : goal.returns-in-Some
returns-in-Some c = record { some = some_bytes c.args.script.now c.if-is_empty.ensures; ended = inl c.in-Some.ensures }

pub returns-in-None : goal.returns-in-None
returns-in-None c = record { some = some_bytes c.args.script.now c.if-is_empty.ensures; ended = inr (refl, refl, c.in-None.ensures) }
