-- A row is filled in place: its first bytes are those read before and those read now.
use Rattle.std.proofs.Common.{◌≡◌, ℕ, ◌+◌, ◌≤◌, List, ◌++◌, length, take, Option, sym, ap, ◌∙◌, subst, arith}
use Rattle.std.proofs.lemmas.List.{length-append, length-take, length-take-le, take-append-le, take-take}
use Rattle.std.proofs.Math.Seq.{take-append-add}
use Rattle.std.specs.Io.KnownBytes.{Consumes}
use Rattle.std.proofs.KnownBytes.{Consumes-trans}
use Rattle.streams.specs.Streams.{TakesAtMost}
use borrow.Rule.Slice.PartMut.{put_mid, post_of}

-- a row whose bytes from count on are room for a part, of which so many more were read
module _ (count more room : ℕ) (row part : List ℕ) (within : count ≤ length row) (fits : more ≤ length part) where
  taken_more : take (count + more) (put_mid count room row part) ≡ take count row ++ take more part
  taken_more =
      let after = post_of count room row in
      ap (λ (n : ℕ). take (n + more) (take count row ++ (part ++ after))) (sym (length-take-le count row within))
      ∙ take-append-add (take count row) (part ++ after) more
      ∙ ap (λ xs. take count row ++ xs) (take-append-le more part after fits)

  long : count + more ≤ length (put_mid count room row part)
  long =
      let after = post_of count room row in
      omega (arith, length-append (take count row) (part ++ after), length-append part after, length-take-le count row within)

  module _ (a b c : Option (List ℕ)) (before : Consumes a b (take count row)) (now : Consumes b c (take more part)) where
    pub filled_more : Consumes a c (take (count + more) (put_mid count room row part))
    filled_more = subst (Consumes a c) (sym taken_more) (Consumes-trans a b c _ _ before now)

    -- the same where the row is the first so many of others
    pub filled_within : (most : ℕ) (rest : List ℕ) → count + more ≤ most → Consumes a c (take (count + more) (take most (put_mid count room row part ++ rest)))
    filled_within most rest h =
        let row_now = put_mid count room row part in
        subst (Consumes a c) (sym (take-take (count + more) most (row_now ++ rest) h ∙ take-append-le (count + more) row_now rest long)) filled_more

-- A row that is made longer begins as it was.
pub kept_first : (count room : ℕ) (row more : List ℕ) → count ≤ length row → count ≤ room → take count (take room row ++ more) ≡ take count row
kept_first count room row more within h = take-append-le count (take room row) more (omega (arith, length-take room row)) ∙ take-take count room row h

-- So many more bytes at most were taken after some.
pub few_more : (most part : ℕ) (a b c : Option (List ℕ)) (read : List ℕ) → length read + part ≤ most → Consumes a b read → TakesAtMost part b c → TakesAtMost most a c
few_more most part a b c read fits before now =
    record { bytes = read ++ now.bytes; taken = Consumes-trans a b c read now.bytes before now.taken; few = omega (arith, length-append read now.bytes, now.few) }
