use Rattle.netlist.specs.Meaning.{own_nets}
use Rattle.grouping.proofs.PinSets.{FirstPins}
use Rattle.grouping.proofs.masks.net_mask.Given as goal

abbrev pub invariant-loop-k : goal.invariant-loop-k
invariant-loop-k g l = FirstPins (own_nets g.N.Price.Price.kind (g.N.Netlist.meaning l.netlist)) l.net l.k l.mask.word
