-- What a page and a script are answered, by what the page's checks and the buffer's length say.
use Rattle.std.proofs.Common.{◌≡◌, ℕ, ◌*◌, ◌<◌, ◌≤◌, List, length, Some, None, Ok, Err, Result, sym, refl, ◌∙◌, inl, inr, arith}
use Rattle.std.proofs.lemmas.Bool.{cases_lt, lt-ltb, le-ltb}
use Rattle.refusal.specs.declared.Fault.{Fault}
use Rattle.refusal.specs.declared.Fault.TheVariants.{TooShort}
use Rattle.refusal.specs.Checks.{checked}
use Rattle.refusal.proofs.CheckLaws.{accepted, refused}
use Rattle.price.specs.Kind.{Kind}
use Rattle.page.specs.declared.counts.Counts.{Counts}
use Rattle.page.specs.Faults.{page_fault, room_fault, unpack_fault}
use Rattle.page.specs.Unpacking.{Counted, Filled}
use Rattle.page.proofs.TableLaws.{unwritten}
use Rattle.page.proofs.PageLaws.{room_told}
use Rattle.lines.specs.Lines.{page_line, Written}
use Rattle.script.specs.Scripts.{lines_of}
use Rattle.printing.specs.PageRuns.{AnswerPage, ScriptAnswered, script_room}

pub room_long : (script : List ℕ) → 65536 < length script → script_room script ≡ 37
room_long script long = rw (lt-ltb 65536 (length script) long)

pub room_short : (script : List ℕ) → length script ≤ 65536 → script_room script ≡ 37 * length (lines_of script)
room_short script short = rw (le-ltb 65536 (length script) short)

-- What the room in the tables says of a page that has passed its checks.
module _ (page : List ℕ) (kind : ℕ) (counts : Counts) (fine : page_fault page kind ≡ None) (counted : Counted page counts) (starts pins prices : ℕ)
    (answered : Result (Unit {0}) Fault) (is : answered ≡ checked (room_fault counts.nets counts.pins starts pins prices)) where
  pub there_is_room : (x : Unit {0}) → answered ≡ Ok x → unpack_fault page kind starts pins prices ≡ None
  there_is_room x ok = room_told page kind starts pins prices counts fine counted None (accepted x _ (sym ok ∙ is))

  pub no_room : (fault : Fault) → answered ≡ Err fault → unpack_fault page kind starts pins prices ≡ Some fault
  no_room fault err = room_told page kind starts pins prices counts fine counted (Some fault) (refused fault _ (sym err ∙ is))

module _ {P : Type 0} (k : Kind P) (page script s p : List ℕ) (c cells : List P) (out : List ℕ) where
  -- A fault of the page or the tables is told alone, where the buffer takes a line.
  pub fault_answered : (fault : Fault) (out' : List ℕ) (r : Result ℕ Fault) → unpack_fault page k.number (length s) (length p) (length c) ≡ Some fault
      → Written (page_line fault) out out' r → AnswerPage k page script s s p p c c cells cells out out' r
  fault_answered fault out' (Ok count) told written =
      rw told (record { told = written; tables_stay = unwritten s p c; cells_stay = refl })
  fault_answered fault out' (Err e) told written =
      rw told (record {
        short = written.0;
        told = written.1;
        tables_stay = unwritten s p c;
        cells_stay = refl;
        buffer_stays = written.2;
      })

  module _ (fine : unpack_fault page k.number (length s) (length p) (length c) ≡ None) where
    -- A buffer that is too short for the script is told.
    pub short_answered : length out < script_room script → AnswerPage k page script s s p p c c cells cells out out (Err (TooShort 1))
    short_answered short =
        rw fine (record {
          short = short;
          told = refl;
          tables_stay = unwritten s p c;
          cells_stay = refl;
          buffer_stays = refl;
        })

    -- A script that is answered into a buffer that suffices is not refused.
    no_refusal : (cells' : List P) (out' : List ℕ) (e : Fault) → script_room script ≤ length out → ScriptAnswered k page script cells cells' out out' (Err e) → ⊥
    no_refusal cells' out' e room answered =
        elim (cases_lt 65536 (length script)) [
          | inl long ↦ let told = answered.too_long long in let is = room_long script long in let short = told.0.0 in omega arith
          | inr few ↦ let told = answered.run few in let is = room_short script few in let short = told.short in omega arith
        ]

    pub script_answered : (s' p' : List ℕ) (c' cells' : List P) (out' : List ℕ) (r : Result ℕ Fault) (counts : Counts) → script_room script ≤ length out
        → Filled k page s s' p p' c c' counts → ScriptAnswered k page script cells cells' out out' r → AnswerPage k page script s s' p p' c c' cells cells' out out' r
    script_answered s' p' c' cells' out' (Ok count) counts room filled answered = rw fine (record { counts = counts; filled = filled; answered = answered })
    script_answered s' p' c' cells' out' (Err e) counts room filled answered = absurd (no_refusal cells' out' e room answered)
