-- Cells that are zeroed from the first on.
use Rattle.std.proofs.Common.{◌≡◌, ℕ, zero, suc, ◌+◌, ◌-◌, ◌<◌, ◌≤◌, List, [], ◌∷◌, length, drop, set, sym, refl, ap, ◌∙◌, subst, add-one, arith, drop-drop}
use Rattle.price.specs.Kind.{Kind}
use Rattle.partition.specs.Pulls.{cleared}

module _ {P : Type 0} (k : Kind P) where
  zeroed_next : (n : ℕ) (cells : List P) → n < length cells → set (cleared k n cells) n k.zero ≡ cleared k (suc n) cells
  zeroed_next n [] h = absurd (omega arith)
  zeroed_next zero (x ∷ cells) h = refl
  zeroed_next (suc n) (x ∷ cells) h = ap (λ ys. k.zero ∷ ys) (zeroed_next n cells (omega arith))

  pub cleared_more : (n : ℕ) (cells now : List P) → n < length cells → now ≡ cleared k n cells → set now n k.zero ≡ cleared k (n + 1) cells
  cleared_more n cells now h e = ap (λ xs. set xs n k.zero) e ∙ zeroed_next n cells h ∙ ap (λ (i : ℕ). cleared k i cells) (sym (add-one n))

  -- what lies past the zeroed cells
  pub cleared_later : (n m : ℕ) (cells now : List P) → n ≤ m → n ≤ length cells → now ≡ cleared k n cells → drop m now ≡ drop m cells
  cleared_later n m cells now h l e = ap (drop m) e ∙ later n m cells h l
    where
      later : (n m : ℕ) (xs : List P) → n ≤ m → n ≤ length xs → drop m (cleared k n xs) ≡ drop m xs
      later zero m xs h l = refl
      later (suc n) zero xs h l = absurd (omega arith)
      later (suc n) (suc m) [] h l = absurd (omega arith)
      later (suc n) (suc m) (x ∷ xs) h l = later n m xs (omega arith) (omega arith)

pub drop_further : {X : Type 0} (n m : ℕ) (xs ys : List X) → n ≤ m → drop n xs ≡ drop n ys → drop m xs ≡ drop m ys
drop_further n m xs ys h e =
    let s : n + (m - n) ≡ m = omega arith in
    subst (λ (i : ℕ). drop i xs ≡ drop i ys) s (sym (drop-drop (m - n) n xs) ∙ ap (drop (m - n)) e ∙ drop-drop (m - n) n ys)
