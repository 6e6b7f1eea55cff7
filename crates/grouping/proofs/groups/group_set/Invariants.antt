use Rattle.cut.specs.Cuts.{alone}
use Rattle.netlist.specs.Places.{place}
use Rattle.grouping.proofs.SetLoops.{PassBelow}
use Rattle.grouping.proofs.groups.group_set.Given as goal

abbrev pub invariant-loop-v : goal.invariant-loop-v
invariant-loop-v l = PassBelow (λ v. alone l.group (place l.fn.row v)) l.v l.set.word
