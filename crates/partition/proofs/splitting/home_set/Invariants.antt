use Rattle.moduleset.specs.Words.{has as is_in}
use Rattle.netlist.specs.Places.{place}
use Rattle.grouping.proofs.SetLoops.{PassBelow}
use Rattle.partition.proofs.splitting.home_set.Given as goal

abbrev pub invariant-loop-i : goal.invariant-loop-i
invariant-loop-i g l = PassBelow (λ i. is_in l.sides.word (place (g.N.Netlist.meaning l.netlist).places i)) l.i l.set.word
