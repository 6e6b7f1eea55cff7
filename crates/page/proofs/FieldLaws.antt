-- Laws of bits and fields.
use Rattle.std.proofs.Common.{◌≡◌, ℕ, zero, suc, ◌+◌, ◌-◌, ◌*◌, ◌/◌, ◌%◌, ◌^◌, ◌<◌, ◌≤◌, List, [], ◌∷◌, length, get_or, None, ◌++◌, sym, ap, ◌∙◌, refl, add-one, arith, pow_mono, mul-le-mul_right, mul_assoc}
use Rattle.std.proofs.lemmas.List.{map-id}
use Rattle.std.proofs.lemmas.List.Sums.{fold-append}
use Rattle.std.proofs.lemmas.List.FromFn.{map-range_with_len_more}
use Rattle.std.specs.List.{fold, range_with_len}
use native.Mathlib.Nat.{pow-succ'}
use Rattle.std.proofs.lemmas.Nat.{mod_below}
use Rattle.std.proofs.lemmas.Bool.{le-ltb}
use Rattle.page.specs.Bits.{bit_at, field_at}
use Rattle.page.specs.Faults.{ends}

pub bit_below : (bytes : List ℕ) (at : ℕ) → bit_at bytes at < 2
bit_below bytes at = mod_below (get_or bytes (at / 8) 0 / 2 ^ (7 - at % 8)) 2 (omega arith)

-- the number so far, with one more bit
abbrev pub with_bit : List ℕ → ℕ → ℕ → ℕ
with_bit bytes value at = value * 2 + bit_at bytes at

-- a field's number, bit by bit
pub field_bits : (bytes : List ℕ) (at w : ℕ) → fold (with_bit bytes) 0 (range_with_len at w) ≡ field_at bytes at w
unfolding field_at
field_bits bytes at zero = refl
field_bits bytes at (suc w) =
    let last : range_with_len at (w + 1) ≡ range_with_len at w ++ (at + w) ∷ [] =
    sym (map-id _) ∙ map-range_with_len_more (λ i. i) at w (at + w) refl ∙ ap (λ is. is ++ (at + w) ∷ []) (map-id _) in
    ap (fold (with_bit bytes) 0) (rw add-one at last)
    ∙ fold-append (with_bit bytes) 0 (range_with_len at w) ((at + w) ∷ [])
    ∙ ap (λ (v : ℕ). with_bit bytes v (at + w)) (field_bits bytes at w)

pub field_below : (bytes : List ℕ) (at w : ℕ) → field_at bytes at w < 2 ^ w
unfolding field_at
field_below bytes at zero = omega arith
field_below bytes at (suc w) = rw pow-succ' (omega (arith, field_below bytes at w, bit_below bytes (at + w)))

-- so many bits make a number below that power of two
bits_below : (bytes bits : List ℕ) (value : ℕ) → fold (with_bit bytes) value bits < (value + 1) * 2 ^ length bits
bits_below bytes [] value = omega arith
bits_below bytes (at ∷ bits) value =
    let below = bits_below bytes bits (with_bit bytes value at) in
    let small = bit_below bytes at in
    let more : (with_bit bytes value at + 1) * 2 ^ length bits ≤ (value + 1) * 2 * 2 ^ length bits = mul-le-mul_right (2 ^ length bits) (omega arith) in
    let first : fold (with_bit bytes) value (at ∷ bits) ≡ fold (with_bit bytes) (with_bit bytes value at) bits = refl in
    rw (pow-succ', ← mul_assoc (value + 1) 2 (2 ^ length bits)) (omega arith)

-- one more bit fits in 32
pub bits_fit : (bytes bits : List ℕ) (at : ℕ) → length bits < 32 → with_bit bytes (fold (with_bit bytes) 0 bits) at < 2 ^ 32
bits_fit bytes bits at h =
    let p : 2 ^ length bits ≤ 2 ^ 31 = pow_mono (let l : length bits ≤ 31 = omega arith in l) in
    omega (arith, bits_below bytes bits 0, bit_below bytes at, p)

pub holds_whole : (bytes : List ℕ) (at w : ℕ) → at + w ≤ 8 * length bytes → ends bytes at w ≡ None
holds_whole bytes at w h = rw (le-ltb (8 * length bytes) (at + w) h)
