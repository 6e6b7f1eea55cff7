-- Bytes parted at a byte: there is one way.
use Rattle.std.proofs.Common.{◌≡◌, ℕ, zero, suc, ◌+◌, ◌^◌, ◌<◌, ◌≤◌, List, [], ◌∷◌, ◌++◌, length, get_or, take, drop, decimal, sym, refl, ap, ◌∙◌, arith}
use Rattle.std.proofs.lemmas.List.{take-append-drop, drop_more}
use Rattle.std.proofs.ByRecursion.{All-push}
use Rattle.std.proofs.lemmas.Fmt.{decimal_by_steps}
use Rattle.script.specs.Pieces.{Without, Parted}

pub record SameParts (before after before' after' : List ℕ) : Type 0 where
  pub front : before ≡ before'
  pub back : after ≡ after'

pub same_parts : (byte : ℕ) (before after before' after' : List ℕ) → Without byte before → Without byte before' → before ++ byte ∷ after ≡ before' ++ byte ∷ after' → SameParts before after before' after'
same_parts byte [] after [] after' h h' e = record { front = refl; back = cc }
same_parts byte [] after (b ∷ before') after' h h' e = let here : b ≡ byte = cc in absurd (h'.0 here)
same_parts byte (b ∷ before) after [] after' h h' e = let here : b ≡ byte = cc in absurd (h.0 here)
same_parts byte (b ∷ before) after (b' ∷ before') after' h h' e =
    let heads : b ≡ b' = cc in
    let tails : before ++ byte ∷ after ≡ before' ++ byte ∷ after' = cc in
    let rest = same_parts byte before after before' after' h.1 h'.1 tails in
    record { front = cc (heads, rest.front); back = rest.back }

-- a number in decimal has no space
pub spaceless : (n : ℕ) → n < 2 ^ 64 → Without 32 (decimal n)
spaceless =
    decimal_by_steps (λ n ds. Without 32 ds) (λ n small. (λ e. omega (arith, e), tt)) (λ n ds large h. All-push (λ b. b ≡ 32 → ⊥) ds _ h (λ e. omega (arith, e)))

without_before : (byte at : ℕ) (bytes : List ℕ) → ((k : ℕ) → k < at → get_or bytes k 0 ≡ byte → ⊥) → at ≤ length bytes → Without byte (take at bytes)
without_before byte zero bytes h inside = tt
without_before byte (suc at) [] h inside = absurd (omega arith)
without_before byte (suc at) (b ∷ bytes) h inside = (h 0 (omega arith), without_before byte at bytes (λ k below. h (suc k) (omega arith)) (omega arith))

-- the bytes parted at a place that has the byte first
pub parted_at : (byte at : ℕ) (bytes : List ℕ) → at < length bytes → get_or bytes at 0 ≡ byte → ((k : ℕ) → k < at → get_or bytes k 0 ≡ byte → ⊥)
    → Parted byte bytes (take at bytes) (drop (at + 1) bytes)
parted_at byte at bytes inside here before = record {
  whole = sym (take-append-drop at bytes) ∙ ap (λ xs. take at bytes ++ xs) (drop_more bytes at 0 inside ∙ ap (λ b. b ∷ drop (at + 1) bytes) here);
  first = without_before byte at bytes before (omega arith);
}
