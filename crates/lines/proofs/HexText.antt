-- The hexadecimal text of a word's bytes is its 16 digits.
use Rattle.std.proofs.Common.{◌≡◌, ℕ, zero, suc, ◌*◌, ◌/◌, ◌%◌, ◌^◌, ◌<◌, true, eqb, List, [], ◌∷◌, ◌++◌, slice_index, sym, refl, ap, ◌∙◌, append_assoc, pow-suc, eqb-true, arith}
use Rattle.std.proofs.Math.Nat.{div-div-eq-div-mul}
use Rattle.std.proofs.lemmas.Bool.{agree_below_at}
use Rattle.std.specs.Int.{w64, byte_at, bytes_high_first, to_be_bytes}
use Rattle.hex.specs.Hex.{lower_digits, encode_with, encode_lower}
use Rattle.lines.specs.Lines.{hex_digit, hex_digits}

digit_is : (d : ℕ) → d < 16 → slice_index lower_digits d ≡ hex_digit d
digit_is d small = eqb-true _ _ (agree_below_at (λ n. eqb (slice_index lower_digits n) (hex_digit n)) (λ _. true) 16 d refl small)

byte_above : (i n : ℕ) → byte_at (suc i) n ≡ byte_at i (n / 256)
byte_above zero n = refl
byte_above (suc i) n = ap (λ q. q % 256) (ap (λ d. n / d) (omega (arith, pow-suc 256 (suc i))) ∙ sym (div-div-eq-div-mul n 256 (256 ^ suc i)))

-- the bytes above the lowest, and the lowest
bytes_above : (k n : ℕ) → bytes_high_first (suc k) n ≡ bytes_high_first k (n / 256) ++ (n % 256 ∷ [])
bytes_above zero n = refl
bytes_above (suc k) n = rw (byte_above k n, bytes_above k n) refl

text_push : (bytes : List ℕ) (b : ℕ) → encode_lower (bytes ++ (b ∷ [])) ≡ encode_lower bytes ++ (slice_index lower_digits (b / 16) ∷ slice_index lower_digits (b % 16) ∷ [])
unfolding encode_with
text_push [] b = refl
text_push (c ∷ bytes) b = ap (λ xs. slice_index lower_digits (c / 16) ∷ slice_index lower_digits (c % 16) ∷ xs) (text_push bytes b)

-- two digits more
digits_push : (count n : ℕ) → hex_digits (suc (suc count)) n ≡ hex_digits count (n / 256) ++ (hex_digit (n % 256 / 16) ∷ hex_digit (n % 256 % 16) ∷ [])
unfolding hex_digits
digits_push count n =
    let above : n / 16 / 16 ≡ n / 256 = omega arith in
    let high : n / 16 % 16 ≡ n % 256 / 16 = omega arith in
    let low : n % 16 ≡ n % 256 % 16 = omega arith in
    append_assoc (hex_digits count (n / 16 / 16)) (hex_digit (n / 16 % 16) ∷ []) (hex_digit (n % 16) ∷ [])
    ∙ ap (λ q. hex_digits count q ++ (hex_digit (n / 16 % 16) ∷ hex_digit (n % 16) ∷ [])) above
    ∙ ap (λ d. hex_digits count (n / 256) ++ (hex_digit d ∷ hex_digit (n % 16) ∷ [])) high
    ∙ ap (λ d. hex_digits count (n / 256) ++ (hex_digit (n % 256 / 16) ∷ hex_digit d ∷ [])) low

text_of_bytes : (k n : ℕ) → encode_lower (bytes_high_first k n) ≡ hex_digits (2 * k) n
unfolding encode_with hex_digits
text_of_bytes zero n = refl
text_of_bytes (suc k) n =
    let two : 2 * suc k ≡ suc (suc (2 * k)) = omega arith in
    ap encode_lower (bytes_above k n) ∙ text_push (bytes_high_first k (n / 256)) (n % 256)
    ∙ ap (λ xs. xs ++ (slice_index lower_digits (n % 256 / 16) ∷ slice_index lower_digits (n % 256 % 16) ∷ [])) (text_of_bytes k (n / 256))
    ∙ ap (λ d. hex_digits (2 * k) (n / 256) ++ (d ∷ slice_index lower_digits (n % 256 % 16) ∷ [])) (digit_is (n % 256 / 16) (omega arith))
    ∙ ap (λ d. hex_digits (2 * k) (n / 256) ++ (hex_digit (n % 256 / 16) ∷ d ∷ [])) (digit_is (n % 256 % 16) (omega arith))
    ∙ sym (digits_push (2 * k) n) ∙ ap (λ count. hex_digits count n) (sym two)

pub hex_text : (word : ℕ) → encode_lower (to_be_bytes w64 word) ≡ hex_digits 16 word
hex_text word = text_of_bytes 8 word
