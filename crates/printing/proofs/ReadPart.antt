-- What is printed of the first bytes that two readers gave is printed of all that they had, and what is known of an error.
use Rattle.std.proofs.Common.{◌≡◌, ◌≢◌, ℕ, List, ◌++◌, length, take, Option, Some, None, refl, sym, ap, ◌∙◌, subst, inl, inr, arith}
use Rattle.std.proofs.lemmas.Bool.{cases_lt}
use Rattle.std.proofs.lemmas.List.{append-nil, take_all, take_at}
use Rattle.std.proofs.lemmas.Result.{on_ok_weaker, IfErr-weaker}
use Rattle.std.specs.Prelude.{IfSome, IfErr, OnOk, Result}
use Rattle.std_io.specs.declared.io.error.Error.{Error}
use Rattle.refusal.specs.declared.Fault.{Fault}
use Rattle.page.specs.Known.{own_fault}
use Rattle.lines.specs.Lines.{page_line}
use Rattle.streams.specs.Streams.{TakesFirst}
use Rattle.printing.specs.declared.readers.PrintError.{PrintError}
use Rattle.printing.specs.declared.readers.PrintError.TheVariants.{Page, Script, Memory, Output}
use Rattle.printing.specs.Printed.{Printed}
use Rattle.printing.specs.Readers.{PrintedWith, PrintedOf, Wrote, WrotePart, WrittenOf, PartWrittenOf, Accepted, RefusedAlone, PageErrorOf, ReaderErrorOf, ReadersErrorOf, StaysUnlessOutput, OnOutput}
use Rattle.printing.proofs.Enough.{own_same, page_decides, script_decides}

-- The bytes that were taken are the first of those that were left.
first_taken : (most : ℕ) (left : List ℕ) (left' : Option (List ℕ)) (bytes : List ℕ) → TakesFirst most (Some left) left' bytes → bytes ≡ take most left
first_taken most left None bytes takes = absurd takes.taken
first_taken most left (Some rest) bytes takes =
    elim (cases_lt (length bytes) most) [
      | inl fewer ↦
          let whole : left ≡ bytes = takes.taken ∙ ap (λ xs. bytes ++ xs) (takes.whole fewer) ∙ append-nil bytes in
          sym whole ∙ sym (take_all most left (omega (arith, ap length whole)))
      | inr as_many ↦ let few = takes.few in sym (ap (take most) takes.taken ∙ take_at bytes rest most (omega arith))
    ]

module _ (page : List ℕ) where
  -- A page has one first fault.
  same_fault : (fault other : Fault) (bytes : List ℕ) → own_fault page ≡ Some fault → bytes ≡ page_line fault → own_fault page ≡ Some other → bytes ≡ page_line other
  same_fault fault other bytes own told is = let e : Some other ≡ Some fault = sym is ∙ own in cc

  accepted_not_refused : (fault : Fault) → own_fault page ≡ None → own_fault page ≡ Some fault → ⊥
  accepted_not_refused fault own is = let e : None ≡ Some fault = sym own ∙ is in cc

  -- Of a page that is refused its line is printed, whatever the script is.
  refused_printed : (script bytes : List ℕ) (fault : Fault) → own_fault page ≡ Some fault → bytes ≡ page_line fault → Printed page script bytes
  refused_printed script bytes fault own told =
      record {
        refused = λ other is. same_fault fault other bytes own told is;
        in_wires = λ none named. absurd (accepted_not_refused fault none own);
        in_timers_first = λ none named. absurd (accepted_not_refused fault none own);
        in_widest = λ none named. absurd (accepted_not_refused fault none own);
      }

  pub refused_with : (script script' : Option (List ℕ)) (bytes : List ℕ) (fault : Fault) → own_fault page ≡ Some fault → bytes ≡ page_line fault → PrintedWith page script script' bytes
  refused_with script script' bytes fault own told =
      record {
        alone = λ other is. same_fault fault other bytes own told is;
        with_script = λ none. absurd (accepted_not_refused fault none own);
        whole = with_any script;
      }
    where
      with_any : (left : Option (List ℕ)) → IfSome left (λ all. Printed page all bytes)
      with_any None = tt
      with_any (Some all) = refused_printed all bytes fault own told

  -- the first bytes of a script were taken
  pub accepted_with : (left left' : Option (List ℕ)) (script bytes : List ℕ) → own_fault page ≡ None → TakesFirst 65537 left left' script → Printed page script bytes → PrintedWith page left left' bytes
  accepted_with left left' script bytes own takes printed =
      record {
        alone = λ fault is. absurd (accepted_not_refused fault own is);
        with_script = λ none. (script, takes, printed);
        whole = with_all left takes;
      }
    where
      with_all : (left : Option (List ℕ)) → TakesFirst 65537 left left' script → IfSome left (λ all. Printed page all bytes)
      with_all None takes = tt
      with_all (Some all) takes =
          script_decides page all bytes 65537 (omega arith) (subst (λ (xs : List ℕ). Printed page xs bytes) (first_taken 65537 all left' script takes) printed)

  -- the first bytes of a page were taken
  own_taken : (left : List ℕ) (left' : Option (List ℕ)) → TakesFirst 54148 (Some left) left' page → own_fault page ≡ own_fault left
  own_taken left left' takes = ap own_fault (first_taken 54148 left left' page takes) ∙ own_same left 54148 (omega arith)

  accepted_whole : (left left' : Option (List ℕ)) → TakesFirst 54148 left left' page → own_fault page ≡ None → Accepted left
  accepted_whole None left' takes own = tt
  accepted_whole (Some left) left' takes own = sym (own_taken left left' takes) ∙ own

  pub printed_of : (left left' script script' : Option (List ℕ)) (bytes : List ℕ) → TakesFirst 54148 left left' page → PrintedWith page script script' bytes → PrintedOf left left' script script' bytes
  printed_of left left' script script' bytes takes printed =
      record { read = page; page_read = takes; of_read = printed; whole_alone = alone left takes; whole = whole left takes script printed.whole }
    where
      alone : (left : Option (List ℕ)) → TakesFirst 54148 left left' page → IfSome left (λ all. (fault : Fault) → own_fault all ≡ Some fault → bytes ≡ page_line fault)
      alone None takes = tt
      alone (Some all) takes = λ fault is. printed.alone fault (own_taken all left' takes ∙ is)

      of_all : (left : List ℕ) → TakesFirst 54148 (Some left) left' page → (script : List ℕ) → Printed page script bytes → Printed left script bytes
      of_all left takes script of_page =
          page_decides left script bytes 54148 (omega arith) (subst (λ (xs : List ℕ). Printed xs script bytes) (first_taken 54148 left left' page takes) of_page)

      whole : (left : Option (List ℕ)) → TakesFirst 54148 left left' page → (script : Option (List ℕ)) → IfSome script (λ all. Printed page all bytes)
          → IfSome left (λ of_page. IfSome script (λ of_script. Printed of_page of_script bytes))
      whole None takes script is = tt
      whole (Some of_page) takes None is = tt
      whole (Some of_page) takes (Some of_script) is = of_all of_page takes of_script is

  module _ (left left' script script' had has : Option (List ℕ)) (takes : TakesFirst 54148 left left' page) where
    pub written_of : {T E : Type 0} (r : Result T E) → OnOk r (Wrote (PrintedWith page script script') had has) → OnOk r (WrittenOf left left' script script' had has)
    written_of r written = on_ok_weaker r whole written
      where
        whole : Wrote (PrintedWith page script script') had has → WrittenOf left left' script script' had has
        whole (bytes, printed, appended) = (bytes, printed_of left left' script script' bytes takes printed, appended)

    pub part_of : {T : Type 0} (r : Result T PrintError) → IfErr r (OnOutput (λ _. WrotePart (PrintedWith page script script') had has))
        → IfErr r (OnOutput (λ _. PartWrittenOf left left' script script' had has))
    part_of r part = IfErr-weaker r (OnOutput (λ _. WrotePart (PrintedWith page script script') had has)) (OnOutput (λ _. PartWrittenOf left left' script script' had has)) on_output part
      where
        on_output : (error : PrintError) → OnOutput (λ _. WrotePart (PrintedWith page script script') had has) error → OnOutput (λ _. PartWrittenOf left left' script script' had has) error
        on_output (Page _) part = tt
        on_output (Script _) part = tt
        on_output (Memory _) part = tt
        on_output (Output _) (bytes, printed, put) = (bytes, printed_of left left' script script' bytes takes printed, put)

  pub refused_alone_of : {S : Type 0} (left left' : Option (List ℕ)) (script script' : S) → TakesFirst 54148 left left' page → (own_fault page ≢ None → script' ≡ script) → RefusedAlone left script script'
  refused_alone_of None left' script script' takes stays = tt
  refused_alone_of (Some left) left' script script' takes stays = λ refused. stays (λ own. refused (sym (own_taken left left' takes) ∙ own))

-- what is known of an error, by the readers of a page and of a script as they were and as they are
module _ {R S : Type 0} (page_fails : R → R → Error → Type 0) (script_fails : S → S → Error → Type 0) (page_left : R → Option (List ℕ)) (script_left : S → Option (List ℕ)) (r r' : R) where
  -- where the page could not be read
  pub page_error_of : (s : S) (error : PrintError) → PageErrorOf page_fails r r' error → ReadersErrorOf page_fails script_fails page_left script_left r r' s s error
  page_error_of s (Page _) is = (is, refl)
  page_error_of s (Script _) is = absurd is
  page_error_of s (Memory _) is = inl (is, refl)
  page_error_of s (Output _) is = absurd is

  -- where it was read
  pub reader_error_of : (s s' : S) (page : List ℕ) → TakesFirst 54148 (page_left r) (page_left r') page → (error : PrintError)
      → ReaderErrorOf script_fails script_left page s s' error → ReadersErrorOf page_fails script_fails page_left script_left r r' s s' error
  reader_error_of s s' page takes (Page _) is = absurd is
  reader_error_of s s' page takes (Script _) is = (is.0, accepted_whole page (page_left r) (page_left r') takes is.1)
  reader_error_of s s' page takes (Memory _) (inl same) = inr ((page, takes), inl same)
  reader_error_of s s' page takes (Memory _) (inr (own, gave)) = inr ((page, takes), inr (accepted_whole page (page_left r) (page_left r') takes own, gave))
  reader_error_of s s' page takes (Output _) is = tt

-- The page's reader has no error of the writer.
pub page_no_output : {R : Type 0} (fails : R → R → Error → Type 0) (r r' : R) (P : Error → Type 0) (error : PrintError) → PageErrorOf fails r r' error → OnOutput P error
page_no_output fails r r' P (Page _) is = tt
page_no_output fails r r' P (Script _) is = tt
page_no_output fails r r' P (Memory _) is = tt
page_no_output fails r r' P (Output _) is = absurd is

pub untouched : {W : Type 0} (out : W) (error : PrintError) → StaysUnlessOutput out out error
untouched out (Page _) = refl
untouched out (Script _) = refl
untouched out (Memory _) = refl
untouched out (Output _) = tt
