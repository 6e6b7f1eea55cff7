use Rattle.std.proofs.Common.{◌≡◌, ◌-◌, drop}
use Rattle.netlist.specs.Changes.{united}
use Rattle.netlist.specs.Meaning.{own_nets, modules}
use Rattle.partition.specs.Rounds.{by_noted, GroupRow, NetGroups}
use Rattle.partition.proofs.RoundSteps.{Kept}
use Rattle.partition.proofs.rounds.split_modules.Given as goal

abbrev pub invariant-loop-left : goal.invariant-loop-left
invariant-loop-left g l =
    let k = g.N.Price.Price.kind in
    let m = g.N.Netlist.meaning l.netlist in
    let next = united l.end.next_to_last l.end.last l.groups.row in
    Kept k (own_nets k m) l.count l.left (by_noted l.best) next
    × GroupRow (modules m) (l.left - 1) next
    × NetGroups k m l.groups
    × (drop l.count l.cells ≡ drop l.count l.fn.cells)
