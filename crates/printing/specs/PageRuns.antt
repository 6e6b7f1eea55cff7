-- What a page and a script are answered in tables, cells and a buffer that are handed in.
use Rattle.std.specs.Prelude.{◌≡◌, ℕ, ◌*◌, ◌<◌, ◌≤◌, cond, List, length, Some, None, Ok, Option, Result, MatchResult, nat_lt}
use Rattle.refusal.specs.declared.Fault.{Fault}
use Rattle.refusal.specs.declared.Fault.TheVariants.{TooShort}
use Rattle.price.specs.Kind.{Kind}
use Rattle.page.specs.declared.counts.Counts.{Counts}
use Rattle.page.specs.Faults.{unpack_fault}
use Rattle.page.specs.Unpacking.{TablesStay, Filled}
use Rattle.loading.specs.Loading.{page_meaning}
use Rattle.lines.specs.Lines.{page_line, script_line, Written}
use Rattle.script.specs.Scripts.{lines_of}
use Rattle.session.specs.ScriptRuns.{RunScript}

-- How many bytes the answers to a script take at most: a line each, or one where the script is too long.
abbrev pub script_room : List ℕ → ℕ
script_room script = cond (nat_lt 65536 (length script)) 37 (37 * length (lines_of script))

-- How many bytes a buffer has at least: a line where the page or the tables are refused, else what the script takes.
abbrev pub answer_room : Option Fault → List ℕ → ℕ
answer_room (Some fault) script = 37
answer_room None script = script_room script

-- A script of more than 65,536 bytes is told so alone; any other is run on a new plan over the page's netlist.
pub record ScriptAnswered {P : Type 0} (k : Kind P) (page script : List ℕ) (cells cells' : List P) (out out' : List ℕ) (r : Result ℕ Fault) : Type 0 where
  pub too_long : 65536 < length script → Written script_line out out' r × (cells' ≡ cells)
  pub run : length script ≤ 65536 → RunScript k (page_meaning k page) script out out' cells cells' r

-- the same, where some page was unpacked into the tables
abbrev pub ScriptOn : {P : Type 0} → Kind P → Counts → List ℕ → List ℕ → List P → List ℕ → List P → List P → List ℕ → List ℕ → Result ℕ Fault → Type 0
ScriptOn {P} k counts starts pins prices script cells cells' out out' r =
    (page s p : List ℕ) (c : List P) → Filled k page s starts p pins c prices counts → ScriptAnswered k page script cells cells' out out' r

-- the page into tables of starts s, pins p and prices c, which are then s', p' and c'
module _ {P : Type 0} (k : Kind P) (page script s s' p p' : List ℕ) (c c' cells cells' : List P) (out out' : List ℕ) where
  -- A refused page is told alone, and the tables and cells stay.
  pub record PageRefused (count : ℕ) (fault : Fault) : Type 0 where
    pub told : Written (page_line fault) out out' (Ok count)
    pub tables_stay : TablesStay s s' p p' c c'
    pub cells_stay : cells' ≡ cells

  -- An accepted page fills the tables, and the script is answered.
  pub record PageRun (count : ℕ) : Type 0 where
    pub counts : Counts
    pub filled : Filled k page s s' p p' c c' counts
    pub answered : ScriptAnswered k page script cells cells' out out' (Ok count)

  abbrev pub AnsweredBy : ℕ → Option Fault → Type 0
  AnsweredBy count (Some fault) = PageRefused count fault
  AnsweredBy count None = PageRun count

  -- A buffer that is too short is refused, and all that was handed in stays.
  pub record BufferRefused (found : Option Fault) (fault : Fault) : Type 0 where
    pub short : length out < answer_room found script
    pub told : fault ≡ TooShort 1
    pub tables_stay : TablesStay s s' p p' c c'
    pub cells_stay : cells' ≡ cells
    pub buffer_stays : out' ≡ out

abbrev pub AnswerPage : {P : Type 0} → Kind P → List ℕ → List ℕ → List ℕ → List ℕ → List ℕ → List ℕ → List P → List P → List P → List P → List ℕ → List ℕ → Result ℕ Fault → Type 0
AnswerPage k page script s s' p p' c c' cells cells' out out' r =
    let found = unpack_fault page k.number (length s) (length p) (length c) in
    MatchResult r (λ count. AnsweredBy k page script s s' p p' c c' cells cells' out out' count found)
    (λ fault. BufferRefused k page script s s' p p' c c' cells cells' out out' found fault)
