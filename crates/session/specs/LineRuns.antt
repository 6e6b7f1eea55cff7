-- What running a script line on a plan writes and leaves.
use Rattle.std.specs.Prelude.{◌≡◌, ℕ, ◌<◌, ◌≤◌, List, length, Some, None, Ok, Err, Option, Result}
use Rattle.refusal.specs.declared.Fault.{Fault}
use Rattle.refusal.specs.declared.Fault.TheVariants.{TooShort, LineNotUnderstood}
use Rattle.price.specs.Kind.{Kind}
use Rattle.netlist.specs.Meaning.{Meaning, homes}
use Rattle.plan.specs.declared.plans.Plan.{Plan}
use Rattle.plan.specs.declared.calls.Answer.{Answer}
use Rattle.plan.specs.declared.calls.Answer.TheVariants.{Done, Refused, Found, Absent}
use Rattle.plan.specs.Reckoning.{Call, strap, mute, take_back, split}
use Rattle.plan.specs.PlanCalls.{refusal_on, CallOn, row_left}
use Rattle.lines.specs.declared.writing.Line.{Line}
use Rattle.lines.specs.declared.writing.Line.TheVariants as lines
use Rattle.lines.specs.Lines.{line_bytes, refused_line, Written}
use Rattle.script.specs.declared.commands.Command.{Command}
use Rattle.script.specs.declared.commands.Command.TheVariants.{Strap, Mute, TakeBack, Split}
use Rattle.script.specs.Commands.{Understood}

-- the call that a command makes; a split is handed so many cells
abbrev pub call_of : Command → ℕ → Call
call_of (Strap a b) cells = strap a b
call_of (Mute n) cells = mute n
call_of TakeBack cells = take_back
call_of Split cells = split cells

-- the line that tells an answer; no command looks, so that nothing is shown is never told
abbrev pub line_of : {P : Type 0} → Kind P → Answer P → Option Line
line_of k Done = Some lines.Accepted
line_of k (Refused fault) = Some (lines.Refused fault)
line_of k (Found s) = Some (lines.Found s.sides (k.word s.price))
line_of k Absent = None

-- the line that tells what a call answered: its own, or its refusal
abbrev pub line_told : Result Line Fault → Line
line_told (Ok line) = line
line_told (Err fault) = lines.Refused fault

-- A command run on a plan: its call is answered and leaves the plan as reckoned, and this line tells the answer.
pub record CommandRun {N P : Type 0} (k : Kind P) (means : N → Meaning P) (command : Command) (before after : Plan N P) (cells cells' : List P) (told : Line) : Type 0 where
  pub answer : Answer P
  pub call : CallOn k means (call_of command (length cells)) before after answer
  pub tells : line_of k answer ≡ Some told
  pub cells_are : cells' ≡ row_left k (refusal_on means before (call_of command (length cells))) (homes (means before.below)) (call_of command (length cells)) cells

-- A command that the line says is run and its answer written.
pub record CommandWritten {N P : Type 0} (k : Kind P) (means : N → Meaning P) (command : Command) (before after : Plan N P) (cells cells' : List P)
    (out out' : List ℕ) (r : Result ℕ Fault) : Type 0 where
  pub told : Line
  pub run : CommandRun k means command before after cells cells' told
  pub written : Written (line_bytes told) out out' r

-- Where the line says no command, that is written, and the plan and the cells stay.
pub record NotUnderstood {N P : Type 0} (before after : Plan N P) (cells cells' : List P) (out out' : List ℕ) (r : Result ℕ Fault) : Type 0 where
  pub plan_stays : after ≡ before
  pub cells_stay : cells' ≡ cells
  pub written : Written (refused_line LineNotUnderstood) out out' r

-- A buffer of fewer than 37 bytes is refused, and everything stays.
pub record BufferRefused {N P : Type 0} (before after : Plan N P) (cells cells' : List P) (out out' : List ℕ) (r : Result ℕ Fault) : Type 0 where
  pub refused : r ≡ Err (TooShort 1)
  pub plan_stays : after ≡ before
  pub cells_stay : cells' ≡ cells
  pub buffer_stays : out' ≡ out

-- the command that a line says is run, or it is told that there is none
abbrev pub Outcome : {N P : Type 0} → Option Command → Kind P → (N → Meaning P) → Plan N P → Plan N P → List P → List P → List ℕ → List ℕ → Result ℕ Fault → Type 0
Outcome (Some command) k means before after cells cells' out out' r = CommandWritten k means command before after cells cells' out out' r
Outcome None k means before after cells cells' out out' r = NotUnderstood before after cells cells' out out' r

pub record LineRun {N P : Type 0} (k : Kind P) (means : N → Meaning P) (line : List ℕ) (before after : Plan N P) (cells cells' : List P)
    (out out' : List ℕ) (r : Result ℕ Fault) : Type 0 where
  pub found : Option Command
  pub understood : Understood line found
  pub outcome : Outcome found k means before after cells cells' out out' r

-- A line run into a buffer.
pub record RunLine {N P : Type 0} (k : Kind P) (means : N → Meaning P) (line : List ℕ) (before after : Plan N P) (cells cells' : List P)
    (out out' : List ℕ) (r : Result ℕ Fault) : Type 0 where
  pub short : length out < 37 → BufferRefused before after cells cells' out out' r
  pub long : 37 ≤ length out → LineRun k means line before after cells cells' out out' r
