-- Laws of binary digits.
use Rattle.std.proofs.Common.{◌≡◌, ℕ, zero, suc, ◌+◌, ◌-◌, ◌*◌, ◌/◌, ◌%◌, ◌^◌, ◌<◌, ◌≤◌, Bool, true, false, not, ◌&&◌, ◌||◌, eqb, sym, refl, ap, ◌∙◌, ⊎_elim, mod-lt, mod-eq_of_lt, pow-suc, one-add, arith, lit<, pow_pos, pow-add, shr-shr}
use native.Mathlib.Nat.{zero-div, div-eq_of_lt, mul-mod_left}
use lib.Bits.{bit_and, bit_or, bit_xor, and_shr, or_shr, xor_shr, and_mod, or_mod, xor_mod, and_mask, xor_add_and}
use lib.Pow.{ones_split, ones_lt}
use lib.Arith.{lt-one}
use Rattle.std.proofs.Math.Bool.{and-true}
use Rattle.std.proofs.lemmas.Bool.{cases_lt}
use Rattle.std.proofs.lemmas.Nat.{shr_high, mod_low, pow_below}
use Rattle.moduleset.specs.Words.{digit}

two_pos : zero < 2
two_pos = lit< tt

-- the two tests differ
abbrev pub differ : Bool → Bool → Bool
differ true b = not b
differ false b = b

-- an operation that does digit by digit what a test does, by the four pairs of digits
module _ (op : ℕ → ℕ → ℕ) (test : Bool → Bool → Bool)
    (none : eqb (op 0 0) 1 ≡ test false false) (second : eqb (op 0 1) 1 ≡ test false true)
    (first : eqb (op 1 0) 1 ≡ test true false) (both : eqb (op 1 1) 1 ≡ test true true) where
  by_pairs : (x y : ℕ) → x < 2 → y < 2 → eqb (op x y) 1 ≡ test (eqb x 1) (eqb y 1)
  by_pairs zero zero p q = none
  by_pairs zero (suc zero) p q = second
  by_pairs (suc zero) zero p q = first
  by_pairs (suc zero) (suc zero) p q = both
  by_pairs (suc (suc x)) y p q = absurd (omega arith)
  by_pairs zero (suc (suc y)) p q = absurd (omega arith)
  by_pairs (suc zero) (suc (suc y)) p q = absurd (omega arith)

  by_digit : ((a b j : ℕ) → op a b / 2 ^ j ≡ op (a / 2 ^ j) (b / 2 ^ j)) → ((a b j : ℕ) → op a b % 2 ^ j ≡ op (a % 2 ^ j) (b % 2 ^ j))
      → (a b j : ℕ) → digit (op a b) j ≡ test (digit a j) (digit b j)
  unfolding digit
  by_digit shifted cut a b j =
      ap (λ (x : ℕ). eqb (x % 2) 1) (shifted a b j) ∙ ap (λ (x : ℕ). eqb x 1) (cut (a / 2 ^ j) (b / 2 ^ j) 1)
      ∙ by_pairs (a / 2 ^ j % 2) (b / 2 ^ j % 2) (mod-lt _ two_pos) (mod-lt _ two_pos)

pub digit_or : (a b j : ℕ) → digit (bit_or a b) j ≡ (digit a j || digit b j)
digit_or = by_digit bit_or (λ a b. a || b) refl refl refl refl or_shr or_mod

pub digit_and : (a b j : ℕ) → digit (bit_and a b) j ≡ (digit a j && digit b j)
digit_and = by_digit bit_and (λ a b. a && b) refl refl refl refl and_shr and_mod

pub digit_xor : (a b j : ℕ) → digit (bit_xor a b) j ≡ differ (digit a j) (digit b j)
digit_xor = by_digit bit_xor differ refl refl refl refl xor_shr xor_mod

pub digit_zero : (j : ℕ) → digit 0 j ≡ false
unfolding digit
digit_zero j = ap (λ (x : ℕ). eqb (x % 2) 1) (zero-div (2 ^ j))

-- no digit above the number's length is 1
pub digit_above : (n j : ℕ) → n < 2 ^ j → digit n j ≡ false
unfolding digit
digit_above n j h = ap (λ (x : ℕ). eqb (x % 2) 1) (div-eq_of_lt h)

-- the highest digit is 1
pub digit_top : (n j : ℕ) → 2 ^ j ≤ n → n < 2 ^ suc j → digit n j ≡ true
unfolding digit
digit_top n j l h =
    let r : n - 2 ^ j < 2 ^ j = omega (arith, pow-suc 2 j) in
    let e : n ≡ 1 * 2 ^ j + (n - 2 ^ j) = omega arith in
    ap (λ (x : ℕ). eqb (x % 2) 1) (ap (λ (x : ℕ). x / 2 ^ j) e ∙ shr_high 1 j (n - 2 ^ j) r)

pub digit_power : (j : ℕ) → digit (2 ^ j) j ≡ true
digit_power j = digit_top (2 ^ j) j (omega arith) (omega (arith, pow-suc 2 j, pow_pos j))

-- a power of two has no other digit
pub digit_power_other : (i j : ℕ) → (i ≡ j → ⊥) → digit (2 ^ i) j ≡ false
unfolding digit
digit_power_other i j ne = ⊎_elim low (λ h. digit_above (2 ^ i) j (pow_below i j (omega arith))) (cases_lt j i)
  where
    low : j < i → digit (2 ^ i) j ≡ false
    low h =
        let d : ℕ = i - suc j in
        let e : i ≡ suc d + j = omega arith in
        let q : 2 ^ i ≡ 2 ^ suc d * 2 ^ j + 0 = ap (λ (x : ℕ). 2 ^ x) e ∙ pow-add 2 (suc d) j ∙ omega arith in
        ap (λ (x : ℕ). eqb (x % 2) 1) (ap (λ (x : ℕ). x / 2 ^ j) q ∙ shr_high (2 ^ suc d) j 0 (pow_pos j))
        ∙ ap (λ (x : ℕ). eqb x 1) (ap (λ (x : ℕ). x % 2) (pow-suc 2 d) ∙ mul-mod_left (2 ^ d) 2)

-- the digits of the half are the digits one up
pub digit_half : (n j : ℕ) → digit (n / 2) j ≡ digit n (suc j)
unfolding digit
digit_half n j = ap (λ (x : ℕ). eqb (x % 2) 1) (shr-shr n 1 j ∙ ap (λ (x : ℕ). n / 2 ^ x) (one-add j))

pub digit_shifted : (n i j : ℕ) → digit (n / 2 ^ i) j ≡ digit n (i + j)
unfolding digit
digit_shifted n i j = ap (λ (x : ℕ). eqb (x % 2) 1) (shr-shr n i j)

-- the digits of the double are the digits one down
pub digit_doubled : (n j : ℕ) → digit (n * 2 ^ 1) (suc j) ≡ digit n j
digit_doubled n j = sym (digit_half (n * 2) j) ∙ ap (λ (x : ℕ). digit x j) (omega arith)

pub digit_doubled_low : (n : ℕ) → digit (n * 2 ^ 1) 0 ≡ false
unfolding digit
digit_doubled_low n = let e : n * 2 ^ 1 / 2 ^ 0 % 2 ≡ 0 = omega arith in ap (λ (x : ℕ). eqb x 1) e

low_digit : (x y : ℕ) → x < 2 → y < 2 → eqb x 1 ≡ eqb y 1 → x ≡ y
low_digit zero zero p q e = refl
low_digit zero (suc zero) p q e = let z : ◌≡◌ {A = ℕ} 0 1 = cc in z
low_digit (suc zero) zero p q e = let z : ◌≡◌ {A = ℕ} 1 0 = cc in z
low_digit (suc zero) (suc zero) p q e = refl
low_digit (suc (suc x)) y p q e = absurd (omega arith)
low_digit zero (suc (suc y)) p q e = absurd (omega arith)
low_digit (suc zero) (suc (suc y)) p q e = absurd (omega arith)

-- numbers of n digits are equal where their digits are
pub same_digits : (n a b : ℕ) → a < 2 ^ n → b < 2 ^ n → ((j : ℕ) → j < n → digit a j ≡ digit b j) → a ≡ b
unfolding digit
same_digits zero a b p q e = lt-one p ∙ sym (lt-one q)
same_digits (suc n) a b p q e =
    let ha : a / 2 < 2 ^ n = omega (arith, pow-suc 2 n) in
    let hb : b / 2 < 2 ^ n = omega (arith, pow-suc 2 n) in
    let ih : a / 2 ≡ b / 2 = same_digits n (a / 2) (b / 2) ha hb (λ j h. digit_half a j ∙ e (suc j) (omega arith) ∙ sym (digit_half b j)) in
    let z : eqb (a / 1 % 2) 1 ≡ eqb (b / 1 % 2) 1 = e 0 (omega arith) in
    let l : a % 2 ≡ b % 2 =
    low_digit (a % 2) (b % 2) (mod-lt _ two_pos) (mod-lt _ two_pos)
    (ap (λ (x : ℕ). eqb (x % 2) 1) (omega arith) ∙ z ∙ ap (λ (x : ℕ). eqb (x % 2) 1) (omega arith)) in
    omega arith

-- all digits of 2 ^ n - 1 are 1
pub digit_all : (n j : ℕ) → j < n → digit (2 ^ n - 1) j ≡ true
unfolding digit
digit_all n j h =
    let d : ℕ = n - suc j in
    let e : n ≡ (d + 1) + j = omega arith in
    let s : (2 ^ n - 1) / 2 ^ j ≡ 2 ^ (d + 1) - 1 =
    ap (λ (x : ℕ). (2 ^ x - 1) / 2 ^ j) e ∙ ap (λ (x : ℕ). x / 2 ^ j) (ones_split (d + 1) j) ∙ shr_high (2 ^ (d + 1) - 1) j (2 ^ j - 1) (ones_lt j) in
    let t : (2 ^ (d + 1) - 1) % 2 ≡ 1 = ap (λ (x : ℕ). x % 2) (ones_split d 1) ∙ mod_low (2 ^ d - 1) 1 1 (lit< tt) in
    ap (λ (x : ℕ). eqb x 1) (ap (λ (x : ℕ). x % 2) s ∙ t)

-- the digits below n are kept by the remainder
pub digit_below : (n w j : ℕ) → j < n → digit (w % 2 ^ n) j ≡ digit w j
digit_below n w j h = ap (λ (x : ℕ). digit x j) (sym (and_mask w n)) ∙ digit_and w (2 ^ n - 1) j ∙ ap (λ b. digit w j && b) (digit_all n j h) ∙ and-true (digit w j)

-- what `!` does at n digits
pub complement_xor : (n w : ℕ) → w < 2 ^ n → (2 ^ n - 1) - w ≡ bit_xor w (2 ^ n - 1)
complement_xor n w h =
    let a : bit_and w (2 ^ n - 1) ≡ w = and_mask w n ∙ mod-eq_of_lt h in
    omega (arith, xor_add_and w (2 ^ n - 1), a, pow_pos n)

differ_true : (a b : Bool) → b ≡ true → differ a b ≡ not a
differ_true true b e = ap not e
differ_true false b e = e

pub digit_complement : (n w j : ℕ) → w < 2 ^ n → j < n → digit ((2 ^ n - 1) - w) j ≡ not (digit w j)
digit_complement n w j p h = ap (λ (x : ℕ). digit x j) (complement_xor n w p) ∙ digit_xor w (2 ^ n - 1) j ∙ differ_true (digit w j) _ (digit_all n j h)
