-- The lines of a script, one after another.
use Rattle.std.proofs.Common.{◌≡◌, ℕ, ◌+◌, ◌<◌, ◌≤◌, false, eqb, List, [], ◌∷◌, ◌++◌, length, sym, refl, ap, ◌∙◌, inl, inr, ⊎_elim, arith}
use Rattle.std.proofs.lemmas.Bool.{ne_eqb, cases_Bool}
use Rattle.script.specs.Pieces.{Without}
use Rattle.script.specs.Scripts.{onto_first, lines_of, FirstLine}

pub lines_parted : (line rest : List ℕ) → Without 10 line → lines_of (line ++ 10 ∷ rest) ≡ line ∷ lines_of rest
lines_parted [] rest w = refl
lines_parted (b ∷ line) rest w =
    let other : eqb b 10 ≡ false = ne_eqb b 10 w.0 in
    rw other (ap (onto_first b) (lines_parted line rest w.1))

pub lines_alone : (line : List ℕ) → 0 < length line → Without 10 line → lines_of line ≡ line ∷ []
lines_alone [] some w = absurd (omega arith)
lines_alone (b ∷ []) some w = let other : eqb b 10 ≡ false = ne_eqb b 10 w.0 in rw other refl
lines_alone (b ∷ c ∷ line) some w =
    let other : eqb b 10 ≡ false = ne_eqb b 10 w.0 in
    rw other (ap (onto_first b) (lines_alone (c ∷ line) (omega arith) w.1))

-- the first line of a script is the first of its lines
pub first_lines : {script line rest : List ℕ} → FirstLine script line rest → lines_of script ≡ line ∷ lines_of rest
first_lines {script} {line} {rest} f =
    elim f.ended [
      | inl p ↦ ap lines_of p.whole ∙ lines_parted line rest p.first
      | inr alone ↦ ap lines_of alone.0 ∙ lines_alone line (omega (arith, f.some, ap length alone.0)) alone.2 ∙ ap (λ xs. line ∷ lines_of xs) (sym alone.1)
    ]

few_more : (byte : ℕ) (lines : List (List ℕ)) (n : ℕ) → length lines ≤ n → length (onto_first byte lines) ≤ n + 1
few_more byte [] n few = omega arith
few_more byte (line ∷ lines) n few = omega arith

-- there are no more lines than bytes
pub few_lines : (bytes : List ℕ) → length (lines_of bytes) ≤ length bytes
few_lines [] = omega arith
few_lines (byte ∷ bytes) =
    ⊎_elim (λ e. rw e (omega (arith, few_lines bytes))) (λ e. rw e (omega (arith, few_more byte (lines_of bytes) (length bytes) (few_lines bytes)))) (cases_Bool (eqb byte 10))
