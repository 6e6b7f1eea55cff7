-- What a line's answer leaves in a part of a longer buffer.
use Rattle.std.proofs.Common.{◌≡◌, ℕ, ◌+◌, ◌≤◌, List, ◌++◌, length, take, drop, Ok, sym, refl, ap, ◌∙◌, subst, append_assoc, arith}
use borrow.Rule.Slice.PartMut.{put_mid}
use Rattle.std.proofs.lemmas.List.{length-append, length-take-le, length-drop, take-append-drop, drop-append-le, drop-drop, drop_at}
use Rattle.std.proofs.lemmas.Slice.{take-put_mid_below}
use Rattle.lines.specs.Lines.{Written}

-- what follows some bytes of a front follows them in the whole
drop_of_front : (n m : ℕ) (xs : List ℕ) → n ≤ m → m ≤ length xs → drop n (take m xs) ++ drop m xs ≡ drop n xs
drop_of_front n m xs less inside =
    sym (drop-append-le n (take m xs) (drop m xs) (omega (arith, length-take-le m xs inside))) ∙ ap (drop n) (take-append-drop m xs)

-- Bytes put at a position of a buffer: what stands before and after stays, and `next` is the position after them.
pub record PutAt (at : ℕ) (bytes out out' : List ℕ) (next : ℕ) : Type 0 where
  pub short : length bytes ≤ 37
  pub next_is : next ≡ at + length bytes
  pub before_stays : take at out' ≡ take at out
  pub after_is : drop at out' ≡ bytes ++ drop next out

put_part : {at count : ℕ} {out part part' line : List ℕ} → at + 37 ≤ length out → part ≡ take 37 (drop at out) → length part' ≡ 37
    → Written line part part' (Ok count) → PutAt at line out (put_mid at 37 out part') (at + count)
put_part {at} {count} {out} {part} {part'} {line} room part_is long w =
    let short : length line ≤ 37 = omega (arith, ap length w.2, length-append line (drop count part)) in
    let ahead : drop at (put_mid at 37 out part') ≡ part' ++ drop 37 (drop at out) = drop_at (take at out) (part' ++ drop 37 (drop at out)) at (length-take-le at out (omega arith)) in
    record {
      short = short;
      next_is = ap (λ n. at + n) w.1;
      before_stays = take-put_mid_below at 37 out part' at (omega arith) (omega arith);
      after_is = ahead ∙ ap (λ xs. xs ++ drop 37 (drop at out)) (w.2 ∙ ap (λ xs. line ++ drop count xs) part_is)
          ∙ append_assoc line (drop count (take 37 (drop at out))) (drop 37 (drop at out))
          ∙ ap (λ xs. line ++ xs) (drop_of_front count 37 (drop at out) (omega (arith, w.1)) (omega (arith, length-drop at out)) ∙ drop-drop count at out);
    }

-- the same of a part that is 37 bytes wide
pub put_in_part : {line : List ℕ} (at count width : ℕ) (out part' : List ℕ) → width ≡ 37 → at + 37 ≤ length out → length part' ≡ 37
    → Written line (take width (drop at out)) part' (Ok count) → PutAt at line out (put_mid at width out part') (at + count)
put_in_part {line} at count width out part' wide room long =
    subst (λ w. Written line (take w (drop at out)) part' (Ok count) → PutAt at line out (put_mid at w out part') (at + count)) (sym wide) (put_part room refl long)
