-- The turns of a script: what holds so far, of one line more, and at the end.
use Rattle.std.proofs.Common.{◌≡◌, ℕ, ◌+◌, ◌*◌, ◌≤◌, List, [], ◌∷◌, ◌++◌, length, take, drop, Some, None, Ok, Option, sym, refl, ap, ◌∙◌, subst, append_assoc, arith}
use borrow.Rule.Slice.PartMut.{put_mid}
use Rattle.std.proofs.lemmas.List.{length-append, length-take-le, length-drop, take_at, drop_at, drop-drop, take-append-drop, append-nil}
use Rattle.price.specs.Kind.{Kind, Laws}
use Rattle.netlist.specs.Meaning.{Meaning, Sound, homes}
use Rattle.plan.specs.declared.plans.Plan.{Plan}
use Rattle.plan.specs.declared.calls.Answer.{Answer}
use Rattle.plan.specs.Reckoning.{Call, refusal, stand}
use Rattle.plan.specs.Promise.{Promise}
use Rattle.plan.specs.Runs.{Ran}
use Rattle.plan.specs.Plans.{standing_changes}
use Rattle.plan.specs.PlanCalls.{LedTo, refusal_on, row_left}
use Rattle.plan.proofs.Promised.{promised}
use Rattle.lines.specs.Lines.{line_bytes, refused_line, Written}
use Rattle.refusal.specs.declared.Fault.TheVariants.{LineNotUnderstood}
use Rattle.script.specs.declared.commands.Command.{Command}
use Rattle.script.specs.Commands.{Understood}
use Rattle.script.specs.Scripts.{lines_of}
use Rattle.session.specs.LineRuns.{Outcome, LineRun, RunLine, call_of}
use Rattle.session.specs.ScriptRuns.{Told, nothing, said, unsaid, ScriptWritten}
use Rattle.session.proofs.LinesRun.{PutAt, put_in_part}

-- After some lines: the calls that they say led to the plan, and their answers are written.
pub record SoFar {N P : Type 0} (k : Kind P) (means : N → Meaning P) (netlist : N) (script : List ℕ) (left : List (List ℕ)) (plan : Plan N P) (cells row : List P) (at : ℕ) (out out_now : List ℕ) : Type 0 where
  pub lines : List (List ℕ)
  pub calls : List Call
  pub answers : List (Answer P)
  pub bytes : List ℕ
  pub below : plan.below ≡ netlist
  pub parted : lines_of script ≡ lines ++ left
  pub told : Told k (means netlist) cells lines calls answers bytes row
  pub ran : Ran k (means netlist) calls (standing_changes plan) plan.shown answers
  pub long : at ≡ length bytes
  pub written : out_now ≡ bytes ++ drop at out
  pub room : at + 37 * length left ≤ length out

-- bytes put after those that are written
pub put_more : {at next : ℕ} {now next_out line : List ℕ} (out bytes : List ℕ) → at ≡ length bytes → now ≡ bytes ++ drop at out → PutAt at line now next_out next → next_out ≡ (bytes ++ line) ++ drop next out
put_more {at} {next} {now} {next_out} {line} out bytes long written put =
    let front : take at next_out ≡ bytes = put.before_stays ∙ ap (take at) written ∙ take_at bytes (drop at out) at (sym long) in
    let back : drop at now ≡ drop at out = ap (drop at) written ∙ drop_at bytes (drop at out) at (sym long) in
    let later : drop next now ≡ drop next out =
    ap (λ n. drop n now) put.next_is ∙ sym (drop-drop (length line) at now) ∙ ap (drop (length line)) back ∙ drop-drop (length line) at out ∙ ap (λ n. drop n out) (sym put.next_is) in
    sym (take-append-drop at next_out) ∙ ap (λ xs. xs ++ drop at next_out) front ∙ ap (λ xs. bytes ++ xs) (put.after_is ∙ ap (λ xs. line ++ xs) later) ∙ sym (append_assoc bytes line (drop next out))

module _ {N P : Type 0} (k : Kind P) (means : N → Meaning P) (netlist : N) (script : List ℕ) (cells : List P) (out : List ℕ) where
  pub starts : (plan : Plan N P) → plan.below ≡ netlist → LedTo k means [] [] plan → 37 * length (lines_of script) ≤ length out → SoFar k means netlist script (lines_of script) plan cells cells 0 out out
  starts plan below led room = record {
    lines = [];
    calls = [];
    answers = [];
    bytes = [];
    below = below;
    parted = refl;
    told = nothing;
    ran = subst (λ m. Ran k m [] (standing_changes plan) plan.shown []) (ap means below) led;
    long = refl;
    written = refl;
    room = omega arith;
  }

  -- a line more, its answer written into 37 bytes from the position on
  module _ (line : List ℕ) (left left' : List (List ℕ)) (before after : Plan N P) (row row' : List P) (at count width : ℕ) (now part' : List ℕ) (wide : width ≡ 37) (same_long : length part' ≡ length (take width (drop at now)))
      (so_far : SoFar k means netlist script left before cells row at out now) (first : left ≡ line ∷ left')
      (runs : RunLine k means line before after row row' (take width (drop at now)) part' (Ok count)) where
    room_now : at + 37 ≤ length now
    room_now = omega (arith, so_far.room, ap length first, so_far.long, ap length so_far.written, length-append so_far.bytes (drop at out), length-drop at out)

    part_is : length (take width (drop at now)) ≡ 37
    part_is = length-take-le width (drop at now) (omega (arith, wide, room_now, length-drop at now)) ∙ wide

    run : LineRun k means line before after row row' (take width (drop at now)) part' (Ok count)
    run = runs.long (omega (arith, part_is))

    put : {told : List ℕ} → Written told (take width (drop at now)) part' (Ok count) → PutAt at told now (put_mid at width now part') (at + count)
    put = put_in_part at count width now part' wide room_now (same_long ∙ part_is)

    lines_parted : lines_of script ≡ (so_far.lines ++ line ∷ []) ++ left'
    lines_parted = so_far.parted ∙ ap (λ xs. so_far.lines ++ xs) first ∙ sym (append_assoc so_far.lines (line ∷ []) left')

    room_left : {told : List ℕ} → PutAt at told now (put_mid at width now part') (at + count) → at + count + 37 * length left' ≤ length out
    room_left p = omega (arith, so_far.room, ap length first, p.short, p.next_is)

    pub goes_on : SoFar k means netlist script left' after cells row' (at + count) out (put_mid at width now part')
    goes_on = by run.found run.understood run.outcome
      where
        by : (found : Option Command) → Understood line found → Outcome found k means before after row row' (take width (drop at now)) part' (Ok count) → SoFar k means netlist script left' after cells row' (at + count) out (put_mid at width now part')
        by (Some command) u o =
            let call = call_of command (length row) in
            let same : refusal_on means before call ≡ refusal (means netlist) (stand (means netlist) so_far.calls) call =
            ap (λ n. refusal (means n) (standing_changes before) call) so_far.below ∙ ap (λ cs. refusal (means netlist) cs call) so_far.ran.stands in
            let row_is : row' ≡ row_left k (refusal (means netlist) (stand (means netlist) so_far.calls) call) (homes (means netlist)) call row =
            o.run.cells_are ∙ ap (λ f. row_left k f (homes (means before.below)) call row) same ∙ ap (λ n. row_left k (refusal (means netlist) (stand (means netlist) so_far.calls) call) (homes (means n)) call row) so_far.below in
            record {
              lines = so_far.lines ++ line ∷ [];
              calls = so_far.calls ++ call ∷ [];
              answers = so_far.answers ++ o.run.answer ∷ [];
              bytes = so_far.bytes ++ line_bytes o.told;
              below = o.run.call.below_stays ∙ so_far.below;
              parted = lines_parted;
              told = subst (λ cs. Told k (means netlist) cells (so_far.lines ++ line ∷ []) (so_far.calls ++ call ∷ []) (so_far.answers ++ o.run.answer ∷ []) (so_far.bytes ++ line_bytes o.told) cs) (sym row_is)
                  (said so_far.told line command (u.only command refl) o.run.answer o.told o.run.tells);
              ran = subst (λ m. Ran k m (so_far.calls ++ call ∷ []) (standing_changes after) after.shown (so_far.answers ++ o.run.answer ∷ [])) (ap means so_far.below)
                  (o.run.call.promise.goes_on so_far.calls so_far.answers
                  (subst (λ m. Ran k m so_far.calls (standing_changes before) before.shown so_far.answers) (sym (ap means so_far.below)) so_far.ran));
              long = omega (arith, so_far.long, (put {told = line_bytes o.told} o.written).next_is, length-append so_far.bytes (line_bytes o.told));
              written = put_more out so_far.bytes so_far.long so_far.written (put {told = line_bytes o.told} o.written);
              room = room_left (put {told = line_bytes o.told} o.written);
            }
        by None u o = record {
          lines = so_far.lines ++ line ∷ [];
          calls = so_far.calls;
          answers = so_far.answers;
          bytes = so_far.bytes ++ refused_line LineNotUnderstood;
          below = ap (λ p. p.below) o.plan_stays ∙ so_far.below;
          parted = lines_parted;
          told = subst (λ cs. Told k (means netlist) cells (so_far.lines ++ line ∷ []) so_far.calls so_far.answers (so_far.bytes ++ refused_line LineNotUnderstood) cs) (sym o.cells_stay)
              (unsaid so_far.told line (λ command s. let e = u.said command s in let z : ◌≡◌ {A = ℕ} 0 1 = cc in omega arith));
          ran = subst (λ p. Ran k (means netlist) so_far.calls (standing_changes p) p.shown so_far.answers) (sym o.plan_stays) so_far.ran;
          long = omega (arith, so_far.long, (put {told = refused_line LineNotUnderstood} o.written).next_is, length-append so_far.bytes (refused_line LineNotUnderstood));
          written = put_more out so_far.bytes so_far.long so_far.written (put {told = refused_line LineNotUnderstood} o.written);
          room = room_left (put {told = refused_line LineNotUnderstood} o.written);
        }

  pub ends : Laws k → Sound (means netlist) → (left : List (List ℕ)) (plan : Plan N P) (row : List P) (at : ℕ) (now : List ℕ) → left ≡ [] → 37 * length (lines_of script) ≤ length out
      → SoFar k means netlist script left plan cells row at out now → ScriptWritten k (means netlist) script out now cells row at
  ends laws sound left plan row at now none room so_far =
      let all : so_far.lines ≡ lines_of script = sym (so_far.parted ∙ ap (λ r. so_far.lines ++ r) none ∙ append-nil so_far.lines) in
      record {
        room = room;
        bytes = so_far.bytes;
        session = record {
          calls = so_far.calls;
          answers = so_far.answers;
          told = subst (λ lines. Told k (means netlist) cells lines so_far.calls so_far.answers so_far.bytes row) all so_far.told;
          exact = so_far.ran.answered;
          promise = subst (λ answers. Promise k (means netlist) so_far.calls answers) (sym so_far.ran.answered) (promised k laws (means netlist) sound so_far.calls);
        };
        long = so_far.long;
        written = so_far.written;
      }
