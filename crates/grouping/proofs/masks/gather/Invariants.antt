use Rattle.std.proofs.Common.{map}
use Rattle.netlist.specs.Meaning.{own_nets}
use Rattle.grouping.proofs.PinSets.{FirstMasks}
use Rattle.grouping.proofs.masks.gather.Given as goal

abbrev pub invariant-loop-i : goal.invariant-loop-i
invariant-loop-i g l = FirstMasks (own_nets g.N.Price.Price.kind (g.N.Netlist.meaning l.netlist)) l.i (map (λ mask. mask.word) l.mask-items)
