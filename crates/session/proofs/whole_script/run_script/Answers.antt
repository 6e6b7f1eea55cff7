use Rattle.std.proofs.Common.{◌≡◌, ◌+◌, ◌-◌, refl, ap, subst, rules, arith}
use Rattle.script.specs.Scripts.{lines_of}
use Rattle.script.specs.LinesLeft.{lines_left}
use Rattle.session.specs.ScriptRuns.{ScriptWritten}
use Rattle.session.proofs.ScriptTurns.{starts, goes_on, ends}
use Rattle.session.proofs.whole_script.run_script.Goals as goal

pub loop-line-init : goal.loop-line-init
loop-line-init g c =
    let all : lines_left c.into_iter-line-iterator.result ≡ lines_of c.args.script.now = search rules in
    rw all (starts g.N.Price.Price.kind g.N.Netlist.meaning c.over-plan.result.below c.args.script.now c.args.cells.now c.args.out.now c.over-plan.result refl c.over-plan.ensures.new
    (omega (arith, c.line_count.ensures)))

pub loop-line-preserved : goal.loop-line-preserved
loop-line-preserved g c =
    goes_on g.N.Price.Price.kind g.N.Netlist.meaning c.over-plan.result.below c.args.script.now c.args.cells.now c.args.out.now
    c.in-Some.line.now (lines_left c.loop-line.line-iterator) (lines_left c.next.new.self) c.loop-line.plan c.run_line.new.plan c.loop-line.cells c.run_line.new.cells
    c.loop-line.at c.unwrap-count.result (c.loop-line.at + 37 - c.loop-line.at) c.loop-line.out c.run_line.new.out (omega arith) c.run_line.auto.out
    c.loop-line.invariant c.in-Some.ensures.steps (rw c.unwrap-count.ensures at c.run_line.ensures)

pub returns : goal.returns
returns g c =
    let k = g.N.Price.Price.kind in
    let netlist = c.over-plan.result.below in
    subst (λ m. ScriptWritten k m c.args.script.now c.args.out.now c.loop-line.out c.args.cells.now c.loop-line.cells c.loop-line.at) (ap g.N.Netlist.meaning c.over-plan.ensures.below)
    (ends k g.N.Netlist.meaning netlist c.args.script.now c.args.cells.now c.args.out.now g.met.N.Price.Price.lawful (g.N.Netlist.sound netlist)
    (lines_left c.loop-line.line-iterator) c.loop-line.plan c.loop-line.cells c.loop-line.at c.loop-line.out (search rules) (omega (arith, c.line_count.ensures)) c.loop-line.invariant)
