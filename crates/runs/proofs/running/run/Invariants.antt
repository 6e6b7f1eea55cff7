use Rattle.runs.proofs.Turns.{SoFar}
use Rattle.runs.proofs.running.run.Given as goal

abbrev pub invariant-loop-i : goal.invariant-loop-i
invariant-loop-i g l =
    SoFar g.N.Price.Price.kind g.N.Netlist.meaning l.initial.plan.below l.initial.calls l.calls l.initial.answers l.answers l.plan l.i
