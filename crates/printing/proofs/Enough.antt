-- The first 54,148 bytes of a page and 65,537 of a script decide what is printed.
use Rattle.std.proofs.Common.{◌≡◌, ℕ, ◌*◌, ◌/◌, ◌<◌, ◌≤◌, List, length, take, None, sym, ap, ◌∙◌, subst, inl, inr, arith}
use Rattle.std.proofs.lemmas.Bool.{cases_lt}
use Rattle.std.proofs.lemmas.List.{take_all, length-take-le, get_or-take}
use Rattle.price.specs.Kind.{Kind}
use Rattle.price.specs.Wires.{wires}
use Rattle.price.specs.TimersFirst.{timers_first}
use Rattle.price.specs.Widest.{widest}
use Rattle.page.specs.Bits.{bit_at}
use Rattle.page.specs.Layout.{kind_field}
use Rattle.page.specs.Faults.{page_fault}
use Rattle.page.specs.Known.{own_fault}
use Rattle.printing.specs.Printed.{PrintedIn, Printed}
use Rattle.printing.specs.FirstBytes.{FirstBytesDecide}
use Rattle.printing.proofs.Longest.{at_most}
use Rattle.printing.proofs.AgreeWhole.{kind_same, known_same, page_same}

-- the bits of the first n bytes
bits_taken : (page : List ℕ) (n at : ℕ) → at < 8 * n → bit_at page at ≡ bit_at (take n page) at
bits_taken page n at h = rw (get_or-take n page (at / 8) 0 (omega arith))

-- a page of more than the first n bytes
module _ (page : List ℕ) (n : ℕ) (enough : 54148 ≤ n) (longer : n < length page) where
  taken : length (take n page) ≡ n
  taken = length-take-le n page (omega arith)

  taken_fault : (kind : ℕ) → page_fault page kind ≡ page_fault (take n page) kind
  taken_fault = page_same page (take n page) n (bits_taken page n) (omega arith) (omega (arith, taken)) enough

  -- It is refused, as its first bytes are.
  long_in : {P : Type 0} (k : Kind P) (script script' bytes : List ℕ) → PrintedIn k (take n page) script' bytes → PrintedIn k page script bytes
  long_in k script script' bytes given =
      let refused : page_fault page k.number ≡ None → ⊥ = λ none. (let most = at_most page k.number none in omega arith) in
      record {
        refused = λ fault told. given.refused fault (sym (taken_fault k.number) ∙ told);
        too_long = λ none long. absurd (refused none);
        run = λ none short. absurd (refused none);
      }

  long_own : own_fault page ≡ own_fault (take n page)
  long_own =
      let known = known_same page (take n page) n (bits_taken page n) (omega arith) (omega (arith, taken)) enough in
      let kind = kind_same page (take n page) n (bits_taken page n) (omega arith) (omega (arith, taken)) enough in
      rw (known, taken_fault (kind_field page), kind)

  long_page : (script script' bytes : List ℕ) → Printed (take n page) script' bytes → Printed page script bytes
  long_page script script' bytes given =
      let kind = kind_same page (take n page) n (bits_taken page n) (omega arith) (omega (arith, taken)) enough in
      record {
        refused = λ fault told. given.refused fault (sym long_own ∙ told);
        in_wires = λ none named. long_in wires script script' bytes (given.in_wires (sym long_own ∙ none) (sym kind ∙ named));
        in_timers_first = λ none named. long_in timers_first script script' bytes (given.in_timers_first (sym long_own ∙ none) (sym kind ∙ named));
        in_widest = λ none named. long_in widest script script' bytes (given.in_widest (sym long_own ∙ none) (sym kind ∙ named));
      }

-- a script of more than the first n bytes
module _ (page script : List ℕ) (n : ℕ) (enough : 65537 ≤ n) (longer : n < length script) where
  long_script_in : {P : Type 0} (k : Kind P) (bytes : List ℕ) → PrintedIn k page (take n script) bytes → PrintedIn k page script bytes
  long_script_in k bytes given =
      let taken = length-take-le n script (omega arith) in
      record {
        refused = given.refused;
        too_long = λ none long. given.too_long none (omega arith);
        run = λ none short. absurd (omega arith);
      }

  long_script : (bytes : List ℕ) → Printed page (take n script) bytes → Printed page script bytes
  long_script bytes given =
      record {
        refused = given.refused;
        in_wires = λ none named. long_script_in wires bytes (given.in_wires none named);
        in_timers_first = λ none named. long_script_in timers_first bytes (given.in_timers_first none named);
        in_widest = λ none named. long_script_in widest bytes (given.in_widest none named);
      }

-- The first fault of a page's first bytes is the whole page's.
pub own_same : (page : List ℕ) (n : ℕ) → 54148 ≤ n → own_fault (take n page) ≡ own_fault page
own_same page n enough =
    elim (cases_lt n (length page)) [
      | inl longer ↦ sym (long_own page n enough longer)
      | inr short ↦ ap own_fault (take_all n page (omega arith))
    ]

-- What is printed of a page's first bytes is what is printed of the whole page.
pub page_decides : (page script bytes : List ℕ) (n : ℕ) → 54148 ≤ n → Printed (take n page) script bytes → Printed page script bytes
page_decides page script bytes n enough given =
    elim (cases_lt n (length page)) [
      | inl longer ↦ long_page page n enough longer script script bytes given
      | inr whole ↦ subst (λ (xs : List ℕ). Printed xs script bytes) (take_all n page (omega arith)) given
    ]

-- the same of a script's
pub script_decides : (page script bytes : List ℕ) (n : ℕ) → 65537 ≤ n → Printed page (take n script) bytes → Printed page script bytes
script_decides page script bytes n enough given =
    elim (cases_lt n (length script)) [
      | inl longer ↦ long_script page script n enough longer bytes given
      | inr whole ↦ subst (λ (xs : List ℕ). Printed page xs bytes) (take_all n script (omega arith)) given
    ]

pub first_bytes_decide : (of_page of_script : ℕ) → 54148 ≤ of_page → 65537 ≤ of_script → FirstBytesDecide of_page of_script
unfolding FirstBytesDecide
first_bytes_decide of_page of_script enough_page enough_script page script bytes given =
    script_decides page script bytes of_script enough_script (page_decides page (take of_script script) bytes of_page enough_page given)
