-- Writes into a buffer, one after another.
use Rattle.std.proofs.Common.{◌≡◌, ℕ, zero, suc, ◌+◌, ◌*◌, ◌/◌, ◌%◌, ◌^◌, ◌<◌, ◌≤◌, List, ◌++◌, length, take, drop, Option, Some, None, decimal, refl, sym, ap, ◌∙◌, append_assoc, pow-suc, arith}
use Rattle.std.specs.Option.{IfNone, IfSome, MatchOption}
use borrow.Rule.Slice.PartMut.{put_mid}
use Rattle.std.proofs.Math.Nat.{one-le-pow}
use Rattle.std.proofs.lemmas.List.{drop-drop, drop_at, take_at, length-append, length_push, length-take-le}
use Rattle.std.proofs.lemmas.Fmt.{decimal_digit, decimal_step, length-decimal-le}
use Rattle.lines.specs.Lines.{Put, Unended, hex_digit, hex_digits, newline}

-- a part of the buffer overwritten
pub part_put : (at next : ℕ) (before bytes part : List ℕ) (k : ℕ) → part ≡ bytes → k ≡ length bytes → next ≡ at + length bytes
    → Put at bytes before (put_mid at k before part) next
part_put at next before bytes part k same long after =
    record { next_is = after; after_is = rw (same, long, after, drop-drop, append_assoc) }

-- one text straight after another
pub put_then : {at middle next : ℕ} {first second before between after : List ℕ} → middle ≤ length before
    → Put at first before between middle → Put middle second between after next → Put at (first ++ second) before after next
put_then {at} {middle} {next} {first} {second} {before} {between} {after} inside p q =
    let front = take at before ++ first in
    let long : length front ≡ middle =
    length-append (take at before) first ∙ ap (λ n. n + length first) (length-take-le at before (omega (arith, p.next_is))) ∙ sym p.next_is in
    let begins : take middle between ≡ front = ap (take middle) p.after_is ∙ take_at front (drop middle before) middle long in
    let ends : drop next between ≡ drop next before =
    ap (λ n. drop n between) q.next_is ∙ sym (drop-drop (length second) middle between)
    ∙ ap (drop (length second)) (ap (drop middle) p.after_is ∙ drop_at front (drop middle before) middle long)
    ∙ drop-drop (length second) middle before ∙ ap (λ n. drop n before) (sym q.next_is) in
    record {
      next_is = omega (arith, p.next_is, q.next_is, length-append first second);
      after_is = q.after_is ∙ rw (begins, ends, append_assoc (take at before) first second);
    }

-- a line whose byte 0x0A is still to be put
pub unended : {body before after : List ℕ} {end : ℕ} → Put 0 body before after end → end < 37 → Unended (body ++ newline) before after end
unended {body} p room = record { body = body; whole = refl; put = p; room = room }

pub three_digits : (n : ℕ) → n < 256 → length (decimal n) ≤ 3
three_digits n small = length-decimal-le 3 n (omega arith) (omega arith) (omega arith)

pub twenty_digits : (n : ℕ) → n < 2 ^ 64 → length (decimal n) ≤ 20
twenty_digits n fits = length-decimal-le 20 n (omega arith) (omega arith) fits

-- how many digits, by the power of ten just below the number
pub digits_above : (k n : ℕ) → 10 ^ k ≤ n → n < 10 * 10 ^ k → n < 2 ^ 64 → length (decimal n) ≡ k + 1
digits_above zero n low high fits = ap length (decimal_digit n (omega arith))
digits_above (suc k) n low high fits =
    let more : 10 ^ suc k ≡ 10 ^ k * 10 = pow-suc 10 k in
    let some : 1 ≤ 10 ^ k = one-le-pow k 10 (omega arith) in
    let front : length (decimal (n / 10)) ≡ k + 1 = digits_above k (n / 10) (omega arith) (omega arith) (omega arith) in
    ap length (decimal_step n (omega arith) fits) ∙ length_push (decimal (n / 10)) (48 + n % 10) ∙ omega arith

-- how many digits, by what the library says of the logarithm, which is absent for 0
pub digits_counted : (n : ℕ) (log : Option ℕ) (count : ℕ) → n < 2 ^ 64 → IfNone log (n ≡ 0) → IfSome log (λ k. 10 ^ k ≤ n) → IfSome log (λ k. n < 10 * 10 ^ k)
    → MatchOption log (count ≡ 1) (λ k. count ≡ k + 1) → count ≡ length (decimal n)
digits_counted n None count fits none low high is = is ∙ sym (ap length (decimal_digit n (omega (arith, none))))
digits_counted n (Some k) count fits none low high is = is ∙ sym (digits_above k n low high fits)

pub length_hex : (count n : ℕ) → length (hex_digits count n) ≡ count
unfolding hex_digits
length_hex zero n = refl
length_hex (suc count) n = length_push (hex_digits count (n / 16)) (hex_digit (n % 16)) ∙ rw (length_hex count (n / 16)) (omega arith)
