use Rattle.script.specs.LinesLeft.{lines_left}
use Rattle.session.proofs.ScriptTurns.{SoFar}
use Rattle.session.proofs.whole_script.run_script.Given as goal

abbrev pub invariant-loop-line : goal.invariant-loop-line
invariant-loop-line g l =
    SoFar g.N.Price.Price.kind g.N.Netlist.meaning l.initial.plan.below l.script (lines_left l.line-iterator) l.plan l.initial.cells l.cells l.at l.initial.out l.out
