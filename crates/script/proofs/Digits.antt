-- Numbers of 1 to 4 decimal digits, read one digit after another.
use Rattle.std.proofs.Common.{◌≡◌, ℕ, ◌+◌, ◌*◌, ◌^◌, ◌<◌, ◌≤◌, List, [], ◌∷◌, length, get_or, drop, Some, None, Option, decimal, sym, refl, ap, ◌∙◌, subst, zero, suc, ◌⊎◌, inl, inr, ⊎_elim, arith}
use Rattle.std.proofs.Math.Nat.{pow-le-pow_right}
use Rattle.std.proofs.lemmas.Grind.{pow_more}
use Rattle.std.specs.Char.{digit_value}
use Rattle.std.specs.Option.{SomeIff}
use Rattle.std.specs.Str.Parse.{AllDigits, digits_value_after, digits_value}
use Rattle.std.proofs.lemmas.List.{drop_all, drop_more}
use Rattle.std.proofs.lemmas.Str.Parse.{IsNumeralModel, digits_value_short}
use Rattle.std.proofs.lemmas.Fmt.{decimal_is_IsNumeral, decimal-digits_value, decimal_injective, length-decimal-le, first_decimal, decimal_nonempty, decimal_digit}
use Rattle.script.specs.Numbers.{IsNumber, NumberRead}

-- what the first `at` bytes write, where the bytes that follow are still to be read
pub record ReadUpTo (at n : ℕ) (bytes : List ℕ) : Type 0 where
  pub value : digits_value_after 10 n (drop at bytes) ≡ digits_value 10 bytes
  pub left : AllDigits 10 bytes → AllDigits 10 (drop at bytes)
  pub whole : AllDigits 10 (drop at bytes) → AllDigits 10 bytes
  pub small : n < 10 ^ at

pub read_none : (bytes : List ℕ) → ReadUpTo 0 0 bytes
read_none bytes = record { value = refl; left = λ d. d; whole = λ d. d; small = omega arith }

module _ (at n : ℕ) (bytes : List ℕ) (inside : at < length bytes) (r : ReadUpTo at n bytes) where
  next : drop at bytes ≡ get_or bytes at 0 ∷ drop (at + 1) bytes
  next = drop_more bytes at 0 inside

  pub read_more : digit_value (get_or bytes at 0) < 10 → ReadUpTo (at + 1) (10 * n + digit_value (get_or bytes at 0)) bytes
  read_more digit = record {
    value = ap (λ m. digits_value_after 10 m (drop (at + 1) bytes)) (omega arith) ∙ ap (digits_value_after 10 n) (sym next) ∙ r.value;
    left = λ d. (subst (AllDigits 10) next (r.left d)).1;
    whole = λ d. r.whole (subst (AllDigits 10) (sym next) (digit, d));
    small = omega (arith, r.small, pow_more 10 at);
  }

  pub not_digits : (digit_value (get_or bytes at 0) < 10 → ⊥) → AllDigits 10 bytes → ⊥
  not_digits other d = other (subst (AllDigits 10) next (r.left d)).0

  -- no digit more makes the number too large
  pub read_fits : length bytes < 20 → (10 * n) + 9 < 2 ^ 64
  read_fits short =
      let far : at ≤ 18 = omega arith in
      let more : 10 ^ at ≤ 10 ^ 18 = pow-le-pow_right (omega arith) far in
      omega (arith, r.small)

pub read_all : (at n : ℕ) (bytes : List ℕ) → length bytes ≤ at → ReadUpTo at n bytes → AllDigits 10 bytes × (n ≡ digits_value 10 bytes)
read_all at n bytes past r =
    let none : drop at bytes ≡ [] = drop_all at bytes past in
    (r.whole (subst (AllDigits 10) (sym none) tt), ap (digits_value_after 10 n) (sym none) ∙ r.value)

-- no number is written by an empty text, nor by a zero before other digits, nor by more than 4 digits
pub not_read : (bytes : List ℕ) → ((n : ℕ) → IsNumber bytes n → ⊥) → NumberRead bytes None
not_read bytes never = record {
  read = λ n is. absurd (never n is);
  only = λ n e. let z : ◌≡◌ {A = ℕ} 0 1 = cc in absurd (omega arith);
}

pub too_long : (bytes : List ℕ) (n : ℕ) → 4 < length bytes → IsNumber bytes n → ⊥
too_long bytes n long is = omega (arith, ap length is.digits, length-decimal-le 4 n (omega arith) is.short (omega (arith, is.short)))

pub no_digits : (bytes : List ℕ) (n : ℕ) → length bytes ≡ 0 → IsNumber bytes n → ⊥
no_digits bytes n none is = omega (arith, ap length is.digits, decimal_nonempty n (omega (arith, is.short)))

cases_eq0 : (n : ℕ) → (n ≡ 0) ⊎ (0 < n)
cases_eq0 zero = inl refl
cases_eq0 (suc n) = inr (omega arith)

pub leading_zero : (bytes : List ℕ) (n : ℕ) → 1 < length bytes → get_or bytes 0 0 ≡ 48 → IsNumber bytes n → ⊥
leading_zero bytes n long led is =
    ⊎_elim (λ none. omega (arith, ap length (is.digits ∙ ap decimal none ∙ decimal_digit 0 (omega arith))))
    (λ some. omega (arith, first_decimal n some (omega (arith, is.short)), ap (λ ds. get_or ds 0 0) is.digits)) (cases_eq0 n)

own : IsNumeralModel (AllDigits 10) (digits_value 10)
own = record { to = λ ds d. d; from = λ ds d. d; same = λ ds d. refl }

pub number_read : (bytes : List ℕ) (r : Option ℕ) → length bytes ≤ 4 → 0 < length bytes → (get_or bytes 0 0 ≡ 48 → length bytes ≡ 1) → SomeIff r (AllDigits 10 bytes) (digits_value 10 bytes) → NumberRead bytes r
number_read bytes None few some lead s = not_read bytes (λ n is. s (subst (AllDigits 10) (sym is.digits) (decimal_is_IsNumeral n (omega (arith, is.short))).0.1))
number_read bytes (Some m) few some lead s =
    let short : m < 10000 = rw s.1 (omega (arith, digits_value_short own bytes 4 s.0 few)) in
    let is : IsNumber bytes m = record { short = short; digits = sym (ap decimal s.1 ∙ decimal-digits_value own bytes s.0 some lead (omega (arith, s.1))) } in
    record {
      read = λ n other. ap Some (decimal_injective m n (omega arith) (omega (arith, other.short)) (sym is.digits ∙ other.digits));
      only = λ n e. let same : m ≡ n = cc in subst (IsNumber bytes) same is;
    }
