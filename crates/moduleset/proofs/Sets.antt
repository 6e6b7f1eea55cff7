-- Laws of the sets of modules, by what they have.
use Rattle.std.proofs.Common.{◌≡◌, ℕ, suc, ◌+◌, ◌-◌, ◌*◌, ◌/◌, ◌%◌, ◌^◌, ◌<◌, ◌≤◌, Bool, true, false, cond, not, ◌&&◌, ◌||◌, eqb, ltb, leb, Decides, sym, refl, ap, ◌∙◌, ap₂, ⊎_elim, arith, pow_mono}
use lib.Bits.{bit_and, bit_or, and_mask, and_le_l}
use lib.Count.{count_leading_zeros, leading_top}
use Rattle.std.proofs.lemmas.Bool.{eq-eqb, ne_eqb, eqb-true, eqb-false, cases_lt, cases_order, lt-ltb, le-ltb, le-leb, lt-leb, and_left, and_from, and_parts, both_ways, not-true, not_from_false}
use Rattle.std.proofs.lemmas.Bool.Decides.{nat_tests}
use Rattle.moduleset.specs.Words.{digit, has, opened_at}
use Rattle.moduleset.proofs.Digits.{digit_or, digit_and, digit_zero, digit_above, digit_top, digit_power, digit_power_other, digit_complement, digit_shifted, digit_all, digit_doubled, digit_doubled_low, digit_below, same_digits}

pub has_digit : (w k : ℕ) → k < 64 → has w k ≡ digit w (63 - k)
unfolding has
has_digit w k h = ap (λ b. b && digit w (63 - k)) (lt-ltb k 64 h)

pub has_past : (w k : ℕ) → 64 ≤ k → has w k ≡ false
unfolding has
has_past w k h = and_left (ltb k 64) _ (le-ltb k 64 h)

-- what the code reads
pub has_shifted : (w k : ℕ) → k < 64 → eqb (bit_and (w / 2 ^ (63 - k)) 1) 1 ≡ has w k
unfolding digit
has_shifted w k h = ap (λ (x : ℕ). eqb x 1) (and_mask (w / 2 ^ (63 - k)) 1) ∙ sym (has_digit w k h)

pub has_zero : (k : ℕ) → has 0 k ≡ false
has_zero k = ⊎_elim (λ h. has_digit 0 k h ∙ digit_zero (63 - k)) (has_past 0 k) (cases_lt k 64)

pub has_or : (a b k : ℕ) → has (bit_or a b) k ≡ (has a k || has b k)
has_or a b k =
    ⊎_elim
    (λ h. has_digit (bit_or a b) k h ∙ digit_or a b (63 - k) ∙ sym (ap₂ ◌||◌ (has_digit a k h) (has_digit b k h)))
    (λ h. has_past (bit_or a b) k h ∙ sym (ap₂ ◌||◌ (has_past a k h) (has_past b k h)))
    (cases_lt k 64)

pub has_and : (a b k : ℕ) → has (bit_and a b) k ≡ (has a k && has b k)
has_and a b k =
    ⊎_elim
    (λ h. has_digit (bit_and a b) k h ∙ digit_and a b (63 - k) ∙ sym (ap₂ ◌&&◌ (has_digit a k h) (has_digit b k h)))
    (λ h. has_past (bit_and a b) k h ∙ sym (ap₂ ◌&&◌ (has_past a k h) (has_past b k h)))
    (cases_lt k 64)

pub has_complement : (w k : ℕ) → w < 2 ^ 64 → k < 64 → has ((2 ^ 64 - 1) - w) k ≡ not (has w k)
has_complement w k p h = has_digit _ k h ∙ digit_complement 64 w (63 - k) p (omega arith) ∙ ap not (sym (has_digit w k h))

pub has_minus : (a b k : ℕ) → b < 2 ^ 64 → has (bit_and a ((2 ^ 64 - 1) - b)) k ≡ (has a k && not (has b k))
has_minus a b k p =
    has_and a ((2 ^ 64 - 1) - b) k
    ∙ ⊎_elim
    (λ h. ap (λ t. has a k && t) (has_complement b k p h))
    (λ h. and_left (has a k) _ (has_past a k h) ∙ sym (and_left (has a k) _ (has_past a k h)))
    (cases_lt k 64)

-- the modules at or past number f
pub has_at_or_past : (f k : ℕ) → f < 64 → k < 64 → has ((2 ^ 64 - 1) / 2 ^ f) k ≡ leb f k
has_at_or_past f k p h =
    has_digit _ k h ∙ digit_shifted (2 ^ 64 - 1) f (63 - k)
    ∙ ⊎_elim
    (λ l. digit_above (2 ^ 64 - 1) (f + (63 - k)) (omega (arith, pow_mono {i = 64} {j = f + (63 - k)} (omega arith))) ∙ sym (lt-leb f k l))
    (λ l. digit_all 64 (f + (63 - k)) (omega arith) ∙ sym (le-leb f k l))
    (cases_lt k f)

-- each module numbered one lower
pub has_one_lower : (w k : ℕ) → k < 64 → has (w * 2 ^ 1 % 2 ^ 64) k ≡ has w (suc k)
has_one_lower w k h = has_digit _ k h ∙ digit_below 64 (w * 2 ^ 1) (63 - k) (omega arith) ∙ ⊎_elim inner last (cases_lt (suc k) 64)
  where
    inner : suc k < 64 → digit (w * 2 ^ 1) (63 - k) ≡ has w (suc k)
    inner l = ap (digit (w * 2 ^ 1)) (let e : 63 - k ≡ suc (63 - suc k) = omega arith in e) ∙ digit_doubled w (63 - suc k) ∙ sym (has_digit w (suc k) l)

    last : 64 ≤ suc k → digit (w * 2 ^ 1) (63 - k) ≡ has w (suc k)
    last l = ap (digit (w * 2 ^ 1)) (let e : 63 - k ≡ 0 = omega arith in e) ∙ digit_doubled_low w ∙ sym (has_past w (suc k) l)

closed_tests : (p q : Bool) (v k : ℕ) → ((p && not (leb v k)) || ((q && not (q && not (leb v (suc k)))) && not (eqb (suc k) v))) ≡ cond (ltb k v) p q
closed_tests p q v k = grind (arith, nat_tests)

-- the modules before v, and those after it one lower
pub closed_has : (w v before left after lowered result : ℕ) → ((k : ℕ) → k < 64 → has before k ≡ (has w k && not (leb v k))) → ((k : ℕ) → has left k ≡ (has w k && not (has before k)))
    → ((k : ℕ) → k < 64 → has after k ≡ (has left k && not (eqb k v))) → ((k : ℕ) → k < 64 → has lowered k ≡ has after (suc k))
    → ((k : ℕ) → has result k ≡ (has before k || has lowered k)) → (k : ℕ) → k < 64 → has result k ≡ has w (opened_at v k)
closed_has w v before left after lowered result b l a o u k h =
    u k ∙ ap₂ ◌||◌ (b k h) (o k h ∙ ⊎_elim inner last (cases_lt (suc k) 64)) ∙ closed_tests (has w k) (has w (suc k)) v k ∙ picked (ltb k v)
  where
    inner : suc k < 64 → has after (suc k) ≡ ((has w (suc k) && not (has w (suc k) && not (leb v (suc k)))) && not (eqb (suc k) v))
    inner i = a (suc k) i ∙ ap (λ t. t && not (eqb (suc k) v)) (l (suc k) ∙ ap (λ t. has w (suc k) && not t) (b (suc k) i))

    last : 64 ≤ suc k → has after (suc k) ≡ ((has w (suc k) && not (has w (suc k) && not (leb v (suc k)))) && not (eqb (suc k) v))
    last i = has_past after (suc k) i ∙ sym (ap (λ t. (t && not (t && not (leb v (suc k)))) && not (eqb (suc k) v)) (has_past w (suc k) i))

    picked : (t : Bool) → cond t (has w k) (has w (suc k)) ≡ has w (cond t k (suc k))
    picked true = refl
    picked false = refl

-- the word with module v alone
pub has_one : (v k : ℕ) → v < 64 → k < 64 → has (2 ^ (63 - v)) k ≡ eqb k v
has_one v k p q =
    has_digit _ k q
    ∙ ⊎_elim
    (λ e. ap (λ (x : ℕ). digit (2 ^ (63 - x)) (63 - k)) (sym e) ∙ digit_power (63 - k) ∙ sym (eq-eqb k v e))
    (λ ne. digit_power_other (63 - v) (63 - k) (⊎_elim (λ l e. omega arith) (λ l e. omega arith) ne) ∙ sym (ne_eqb k v (⊎_elim (λ l e. omega arith) (λ l e. omega arith) ne)))
    (cases_order k v)

-- words that have the same modules are one word
pub same_sets : (a b : ℕ) → a < 2 ^ 64 → b < 2 ^ 64 → ((k : ℕ) → k < 64 → has a k ≡ has b k) → a ≡ b
same_sets a b p q e =
    same_digits 64 a b p q (λ j h.
    let s : 63 - (63 - j) ≡ j = omega arith in
    let l : 63 - j < 64 = omega arith in
    ap (digit a) (sym s) ∙ sym (has_digit a (63 - j) l) ∙ e (63 - j) l ∙ has_digit b (63 - j) l ∙ ap (digit b) s)

-- v is the lowest module of w
pub record Lowest (w v : ℕ) : Type 0 where
  pub small : v < 64
  pub is_there : has w v ≡ true
  pub before : (k : ℕ) → k < v → has w k ≡ false

pub leading_lowest : (w : ℕ) → w < 2 ^ 64 → 0 < w → Lowest w (count_leading_zeros 64 w)
leading_lowest w p h =
    let t = leading_top 64 w h p in
    let v : ℕ = count_leading_zeros 64 w in
    let e : 63 - v ≡ t.0 = omega (arith, t.1) in
    let s : v < 64 = omega (arith, t.1) in
    record {
      small = s;
      is_there = has_digit w v s ∙ ap (digit w) e ∙ digit_top w t.0 t.2 t.3;
      before = λ k l. has_digit w k (omega arith) ∙ digit_above w (63 - k) (omega (arith, t.3, pow_mono {i = suc t.0} {j = 63 - k} (omega (arith, t.1))));
    }

-- a word is 0 exactly when it has no module
pub zero_has : (w : ℕ) → eqb w 0 ≡ true → (k : ℕ) → has w k ≡ false
zero_has w e k = ap (λ (x : ℕ). has x k) (eqb-true w 0 e) ∙ has_zero k

-- whether some module is in both
pub meets_some : (a b : ℕ) → a < 2 ^ 64 → b < 2 ^ 64 → Decides (not (eqb (bit_and a b) 0)) ((k : ℕ) × (has a k ≡ true) × (has b k ≡ true))
meets_some a b p q = (some, (λ r. not_from_false _ (ne_eqb _ 0 (λ e. both_ways (has (bit_and a b) r.0) (zero_has _ (eq-eqb _ 0 e) r.0) (has_and a b r.0 ∙ and_from (has a r.0) (has b r.0) r.1 r.2)))))
  where
    some : not (eqb (bit_and a b) 0) ≡ true → (k : ℕ) × (has a k ≡ true) × (has b k ≡ true)
    some e =
        let w : ℕ = bit_and a b in
        let ne = eqb-false w 0 (not-true (eqb w 0) e) in
        let f = leading_lowest w (omega (arith, and_le_l a b)) (⊎_elim (λ h. h) (λ h. absurd (ne (omega arith))) (cases_lt 0 w)) in
        let v : ℕ = count_leading_zeros 64 w in
        let t = and_parts (has a v) (has b v) (sym (has_and a b v) ∙ f.is_there) in
        (v, t.0, t.1)
