-- The bits of a sides word.
use Rattle.std.proofs.Common.{◌≡◌, ℕ, zero, suc, ◌+◌, ◌-◌, ◌*◌, ◌/◌, ◌%◌, ◌^◌, ◌<◌, ◌≤◌, Bool, true, false, cond, ◌&&◌, ltb, sym, ap, ◌∙◌, subst, ap₂, ⊎_elim, mul_assoc, mul_comm, add-mul, one-mul, pow-suc, zero-mul, div-one, arith, pow-add, shr-shr}
use lib.Pow.{shl-shr}
use Rattle.std.proofs.lemmas.Nat.{shl_below}
use Rattle.std.proofs.lemmas.Bool.{lt-ltb, le-ltb, cases_lt}
use Rattle.cut.specs.SidesWord.{sides_word, SidesWordHasEachSide}

abbrev one_if : Bool → ℕ
one_if b = cond b 1 0

-- the first n sides as a number of n digits, the first on top
abbrev digits : ℕ → (ℕ → Bool) → ℕ
digits zero side = 0
digits (suc n) side = digits n side * 2 + one_if (side n)

one_if_small : (b : Bool) → one_if b < 2
one_if_small true = omega arith
one_if_small false = omega arith

digits_below : (n : ℕ) (side : ℕ → Bool) → digits n side < 2 ^ n
digits_below zero side = omega arith
digits_below (suc n) side = omega (arith, digits_below n side, one_if_small (side n), pow-suc 2 n)

-- the word is these digits, moved to the top
word_digits : (n r : ℕ) (side : ℕ → Bool) → n + r ≡ 64 → sides_word n side ≡ digits n side * 2 ^ r
unfolding sides_word
word_digits zero r side e = sym (zero-mul (2 ^ r))
word_digits (suc n) r side e =
    let at : 63 - n ≡ r = omega arith in
    ap₂ (λ x y. x + cond (side n) (2 ^ y) 0) (word_digits n (suc r) side (omega arith)) at ∙ moved (side n) (digits n side)
  where
    one_more : (q : ℕ) → q * 2 ^ suc r ≡ q * 2 * 2 ^ r
    one_more q = ap (λ z. q * z) (pow-suc 2 r ∙ mul_comm (2 ^ r) 2) ∙ sym (mul_assoc q 2 (2 ^ r))

    moved : (b : Bool) (q : ℕ) → q * 2 ^ suc r + cond b (2 ^ r) 0 ≡ (q * 2 + one_if b) * 2 ^ r
    moved true q = ap₂ (λ x y. x + y) (one_more q) (sym (one-mul (2 ^ r))) ∙ sym (add-mul (q * 2) 1 (2 ^ r))
    moved false q = ap₂ (λ x y. x + y) (one_more q) (sym (zero-mul (2 ^ r))) ∙ sym (add-mul (q * 2) 0 (2 ^ r))

-- the digit of module i among n
digit_of : (n i r : ℕ) (side : ℕ → Bool) → i + suc r ≡ n → digits n side / 2 ^ r % 2 ≡ one_if (side i)
digit_of zero i r side e = absurd (omega arith)
digit_of (suc n) i zero side e =
    let same : n ≡ i = omega arith in
    ap (λ z. z % 2) (div-one (digits (suc n) side)) ∙ (lowest (digits n side) (side n) ∙ ap (λ z. one_if (side z)) same)
  where
    lowest : (q : ℕ) (b : Bool) → (q * 2 + one_if b) % 2 ≡ one_if b
    lowest q true = omega arith
    lowest q false = omega arith
digit_of (suc n) i (suc r) side e =
    ap (λ z. digits (suc n) side / 2 ^ z % 2) first_then
    ∙ (ap (λ z. z % 2) (sym (shr-shr (digits (suc n) side) 1 r))
    ∙ (ap (λ z. z / 2 ^ r % 2) (half (digits n side) (side n)) ∙ digit_of n i r side (omega arith)))
  where
    first_then : suc r ≡ 1 + r
    first_then = omega arith

    half : (q : ℕ) (b : Bool) → (q * 2 + one_if b) / 2 ^ 1 ≡ q
    half q true = omega arith
    half q false = omega arith

-- past the last module
even_above : (q r : ℕ) → q * 2 ^ suc r % 2 ≡ 0
even_above q r = ap (λ z. z % 2) (ap (λ z. q * z) (pow-suc 2 r) ∙ sym (mul_assoc q (2 ^ r) 2)) ∙ even (q * 2 ^ r)
  where
    even : (x : ℕ) → x * 2 % 2 ≡ 0
    even x = omega arith

moved_up : (q a b : ℕ) → q * 2 ^ (a + b) / 2 ^ b ≡ q * 2 ^ a
moved_up q a b = ap (λ z. z / 2 ^ b) (ap (λ z. q * z) (pow-add 2 a b) ∙ sym (mul_assoc q (2 ^ a) (2 ^ b))) ∙ shl-shr (q * 2 ^ a) b

moved_down : (q a b : ℕ) → q * 2 ^ a / 2 ^ (a + b) ≡ q / 2 ^ b
moved_down q a b = sym (shr-shr (q * 2 ^ a) a b) ∙ ap (λ z. z / 2 ^ b) (shl-shr q a)

module _ (homes : ℕ) (side : ℕ → Bool) (few : homes ≤ 64) where
  word_is : sides_word homes side ≡ digits homes side * 2 ^ (64 - homes)
  word_is = word_digits homes (64 - homes) side (omega arith)

  bit_there : (i : ℕ) → i < homes → sides_word homes side / 2 ^ (63 - i) % 2 ≡ one_if (side i)
  bit_there i h =
      let apart : 63 - i ≡ (64 - homes) + (homes - suc i) = omega arith in
      ap₂ (λ x y. x / 2 ^ y % 2) word_is apart
      ∙ (ap (λ z. z % 2) (moved_down (digits homes side) (64 - homes) (homes - suc i)) ∙ digit_of homes i (homes - suc i) side (omega arith))

  bit_past : (i : ℕ) → homes ≤ i → i < 64 → sides_word homes side / 2 ^ (63 - i) % 2 ≡ 0
  bit_past i h lt =
      let apart : 64 - homes ≡ suc (i - homes) + (63 - i) = omega arith in
      ap (λ z. z / 2 ^ (63 - i) % 2) (word_is ∙ ap (λ z. digits homes side * 2 ^ z) apart)
      ∙ (ap (λ z. z % 2) (moved_up (digits homes side) (suc (i - homes)) (63 - i)) ∙ even_above (digits homes side) (i - homes))

  bit_at : (i : ℕ) → i < 64 → sides_word homes side / 2 ^ (63 - i) % 2 ≡ one_if (ltb i homes && side i)
  bit_at i lt = ⊎_elim
      (λ h. bit_there i h ∙ ap (λ b. one_if (b && side i)) (sym (lt-ltb i homes h)))
      (λ h. bit_past i h lt ∙ ap (λ b. one_if (b && side i)) (sym (le-ltb i homes h)))
      (cases_lt i homes)

  word_fits : sides_word homes side < 2 ^ 64
  word_fits =
      let all : homes + (64 - homes) ≡ 64 = omega arith in
      subst (λ z. z < 2 ^ 64) (sym word_is) (subst (λ z. digits homes side * 2 ^ (64 - homes) < 2 ^ z) all (shl_below (digits homes side) homes (64 - homes) (digits_below homes side)))

pub sides_word_has_each_side_lem : SidesWordHasEachSide
sides_word_has_each_side_lem homes side few = record { fits = word_fits homes side few; bits = bit_at homes side few }
