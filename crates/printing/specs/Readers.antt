-- What is printed of a page and a script that come from readers, and what is known where that fails.
use Rattle.std.specs.Prelude.{◌≡◌, ◌≢◌, ◌⊎◌, ℕ, List, None, Some, Option, IfSome}
use Rattle.std.specs.Io.KnownBytes.{Appends}
use Rattle.std_io.specs.declared.io.error.Error.{Error}
use Rattle.refusal.specs.declared.Fault.{Fault}
use Rattle.page.specs.Known.{own_fault}
use Rattle.lines.specs.Lines.{page_line}
use Rattle.streams.specs.Streams.{TakesFirst, PutsFirst}
use Rattle.streams.specs.Errors.{Answered}
use Rattle.printing.specs.declared.readers.PrintError.{PrintError}
use Rattle.printing.specs.declared.readers.PrintError.TheVariants.{Page, Script, Memory, Output}
use Rattle.printing.specs.Printed.{Printed}

-- Of a page's bytes: where they are refused, of these alone; where they are accepted, with the first 65,537 that the script's reader gives.
-- So with all bytes that this had left, where they are known; of a refused page whatever it has.
pub record PrintedWith (page : List ℕ) (script script' : Option (List ℕ)) (bytes : List ℕ) : Type 0 where
  pub alone : (fault : Fault) → own_fault page ≡ Some fault → bytes ≡ page_line fault
  pub with_script : own_fault page ≡ None → (of_script : List ℕ) × TakesFirst 65537 script script' of_script × Printed page of_script bytes
  pub whole : IfSome script (λ of_script. Printed page of_script bytes)

-- The same of the first 54,148 bytes that the page's reader gives. So of all bytes that it had left, where these are known.
pub record PrintedOf (page page' script script' : Option (List ℕ)) (bytes : List ℕ) : Type 0 where
  pub read : List ℕ
  pub page_read : TakesFirst 54148 page page' read
  pub of_read : PrintedWith read script script' bytes
  pub whole_alone : IfSome page (λ of_page. (fault : Fault) → own_fault of_page ≡ Some fault → bytes ≡ page_line fault)
  pub whole : IfSome page (λ of_page. IfSome script (λ of_script. Printed of_page of_script bytes))

-- After what the writer had it has such bytes.
abbrev pub Wrote : (List ℕ → Type 0) → Option (List ℕ) → Option (List ℕ) → Type 0
Wrote Such had has = (bytes : List ℕ) × Such bytes × Appends had has bytes

-- After what the writer had it has a first part of such bytes, and not all of them.
abbrev pub WrotePart : (List ℕ → Type 0) → Option (List ℕ) → Option (List ℕ) → Type 0
WrotePart Such had has = (bytes : List ℕ) × Such bytes × PutsFirst had has bytes

-- the same of what is printed
abbrev pub WrittenOf : Option (List ℕ) → Option (List ℕ) → Option (List ℕ) → Option (List ℕ) → Option (List ℕ) → Option (List ℕ) → Type 0
WrittenOf page page' script script' = Wrote (PrintedOf page page' script script')

abbrev pub PartWrittenOf : Option (List ℕ) → Option (List ℕ) → Option (List ℕ) → Option (List ℕ) → Option (List ℕ) → Option (List ℕ) → Type 0
PartWrittenOf page page' script script' = WrotePart (PrintedOf page page' script script')

-- The page that a reader had left is accepted.
abbrev pub Accepted : Option (List ℕ) → Type 0
Accepted left = IfSome left (λ page. own_fault page ≡ None)

-- Where it is refused, the script's reader is as it was.
abbrev pub RefusedAlone : {S : Type 0} → Option (List ℕ) → S → S → Type 0
RefusedAlone left script script' = IfSome left (λ page. own_fault page ≢ None → script' ≡ script)

-- A reader gave its first bytes, so many or all.
abbrev pub Gave : {R : Type 0} → ℕ → (R → Option (List ℕ)) → R → R → Type 0
Gave most left reader reader' = (bytes : List ℕ) × TakesFirst most (left reader) (left reader') bytes

-- The page's error is told, which its reader answered, or want of memory, and then nothing was read.
abbrev pub PageErrorOf : {R : Type 0} → (R → R → Error → Type 0) → R → R → PrintError → Type 0
PageErrorOf fails page page' (Page error) = Answered fails page' error
PageErrorOf fails page page' (Script _) = ⊥
PageErrorOf fails page page' (Memory _) = page' ≡ page
PageErrorOf fails page page' (Output _) = ⊥

-- Whose error is told where the page's bytes are there: the script's, which its reader answered, and the page is accepted;
-- or memory ran out: before anything of the script was read, or once an accepted page's script was.
abbrev pub ReaderErrorOf : {S : Type 0} → (S → S → Error → Type 0) → (S → Option (List ℕ)) → List ℕ → S → S → PrintError → Type 0
ReaderErrorOf fails left page script script' (Page _) = ⊥
ReaderErrorOf fails left page script script' (Script error) = Answered fails script' error × (own_fault page ≡ None)
ReaderErrorOf fails left page script script' (Memory _) = (script' ≡ script) ⊎ ((own_fault page ≡ None) × Gave 65537 left script script')
ReaderErrorOf fails left page script script' (Output _) = Unit {0}

-- Whose error is told: the page's, which its reader answered, and the script is not touched; the script's, which its reader answered, and the page is accepted;
-- or memory ran out: before anything was read, or once the page was, or once an accepted page and the script were.
abbrev pub ReadersErrorOf : {R S : Type 0} → (R → R → Error → Type 0) → (S → S → Error → Type 0) → (R → Option (List ℕ)) → (S → Option (List ℕ)) → R → R → S → S → PrintError → Type 0
ReadersErrorOf page_fails script_fails page_left script_left page page' script script' (Page error) = Answered page_fails page' error × (script' ≡ script)
ReadersErrorOf page_fails script_fails page_left script_left page page' script script' (Script error) = Answered script_fails script' error × Accepted (page_left page)
ReadersErrorOf page_fails script_fails page_left script_left page page' script script' (Memory _) =
    ((page' ≡ page) × (script' ≡ script))
    ⊎ (Gave 54148 page_left page page' × ((script' ≡ script) ⊎ (Accepted (page_left page) × Gave 65537 script_left script script')))
ReadersErrorOf page_fails script_fails page_left script_left page page' script script' (Output _) = Unit {0}

-- The writer is as it was, unless the error is its own.
abbrev pub StaysUnlessOutput : {W : Type 0} → W → W → PrintError → Type 0
StaysUnlessOutput out out' (Page _) = out' ≡ out
StaysUnlessOutput out out' (Script _) = out' ≡ out
StaysUnlessOutput out out' (Memory _) = out' ≡ out
StaysUnlessOutput out out' (Output _) = Unit {0}

-- what is known of the error where it is the writer's
abbrev pub OnOutput : (Error → Type 0) → PrintError → Type 0
OnOutput P (Page _) = Unit {0}
OnOutput P (Script _) = Unit {0}
OnOutput P (Memory _) = Unit {0}
OnOutput P (Output error) = P error
