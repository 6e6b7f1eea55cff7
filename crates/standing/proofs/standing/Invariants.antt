use Rattle.std.proofs.Common.{◌≡◌, reverse, take}
use Rattle.standing.specs.Standing.{applied}
use Rattle.standing.specs.LentMeaning.{standing_meaning}
use Rattle.standing.proofs.standing.Given as goal

abbrev pub invariant-loop-change : goal.invariant-loop-change
invariant-loop-change g l = standing_meaning g.N.Netlist.meaning l.layers ≡ applied (g.N.Netlist.meaning l.netlist) (reverse (take l.change-index l.changes))
