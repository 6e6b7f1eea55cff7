-- What running a whole script on a new plan writes.
use Rattle.std.specs.Prelude.{◌≡◌, ℕ, ◌*◌, ◌<◌, ◌≤◌, List, [], ◌∷◌, ◌++◌, length, drop, Some, None, Ok, Err, Result}
use Rattle.refusal.specs.declared.Fault.{Fault}
use Rattle.refusal.specs.declared.Fault.TheVariants.{TooShort, LineNotUnderstood}
use Rattle.price.specs.Kind.{Kind}
use Rattle.netlist.specs.Meaning.{Meaning, homes}
use Rattle.plan.specs.declared.calls.Answer.{Answer}
use Rattle.plan.specs.Reckoning.{Call, refusal, stand}
use Rattle.plan.specs.Promise.{Promise}
use Rattle.plan.specs.Runs.{answers_of}
use Rattle.plan.specs.PlanCalls.{row_left}
use Rattle.lines.specs.declared.writing.Line.{Line}
use Rattle.lines.specs.Lines.{line_bytes, refused_line}
use Rattle.script.specs.declared.commands.Command.{Command}
use Rattle.script.specs.Commands.{Says}
use Rattle.script.specs.Scripts.{lines_of}
use Rattle.session.specs.LineRuns.{call_of, line_of}

-- Script lines on a new plan over m, the calls that they say, the answers to these, the bytes that tell them, and the cells that are left, line by line.
pub data Told {P : Type 0} (k : Kind P) (m : Meaning P) (cells : List P) : List (List ℕ) → List Call → List (Answer P) → List ℕ → List P → Type 0 where
  nothing : Told k m cells [] [] [] [] cells
  said : {lines : List (List ℕ)} {calls : List Call} {answers : List (Answer P)} {bytes : List ℕ} {row : List P} → Told k m cells lines calls answers bytes row
      → (line : List ℕ) (command : Command) → Says line command → (answer : Answer P) (told : Line) → line_of k answer ≡ Some told
      → Told k m cells (lines ++ line ∷ []) (calls ++ call_of command (length row) ∷ []) (answers ++ answer ∷ []) (bytes ++ line_bytes told)
      (row_left k (refusal m (stand m calls) (call_of command (length row))) (homes m) (call_of command (length row)) row)
  unsaid : {lines : List (List ℕ)} {calls : List Call} {answers : List (Answer P)} {bytes : List ℕ} {row : List P} → Told k m cells lines calls answers bytes row
      → (line : List ℕ) → ((command : Command) → Says line command → ⊥)
      → Told k m cells (lines ++ line ∷ []) calls answers (bytes ++ refused_line LineNotUnderstood) row

-- The bytes that a script's lines are told on a new plan over m, and the promise over all the calls that the lines say.
pub record Session {P : Type 0} (k : Kind P) (m : Meaning P) (script bytes : List ℕ) (cells cells' : List P) : Type 0 where
  pub calls : List Call
  pub answers : List (Answer P)
  pub told : Told k m cells (lines_of script) calls answers bytes cells'
  pub exact : answers ≡ answers_of k m [] None calls
  pub promise : Promise k m calls answers

pub record ScriptWritten {P : Type 0} (k : Kind P) (m : Meaning P) (script out out' : List ℕ) (cells cells' : List P) (count : ℕ) : Type 0 where
  pub room : 37 * length (lines_of script) ≤ length out
  pub bytes : List ℕ
  pub session : Session k m script bytes cells cells'
  pub long : count ≡ length bytes
  pub written : out' ≡ bytes ++ drop count out

pub record ScriptRefused {P : Type 0} (script out out' : List ℕ) (cells cells' : List P) (fault : Fault) : Type 0 where
  pub short : length out < 37 * length (lines_of script)
  pub told : fault ≡ TooShort 1
  pub buffer_stays : out' ≡ out
  pub cells_stay : cells' ≡ cells

-- Written into a buffer of at least 37 bytes a line; a shorter one is refused, and everything stays.
abbrev pub RunScript : {P : Type 0} → Kind P → Meaning P → List ℕ → List ℕ → List ℕ → List P → List P → Result ℕ Fault → Type 0
RunScript k m script out out' cells cells' (Ok count) = ScriptWritten k m script out out' cells cells' count
RunScript k m script out out' cells cells' (Err fault) = ScriptRefused script out out' cells cells' fault
