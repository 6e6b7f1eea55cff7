use Rattle.std.proofs.Common.{map, sym, subst}
use Rattle.grouping.specs.Masks.{MasksOf}
use Rattle.grouping.proofs.OwnNets.{grouped_own}
use Rattle.partition.proofs.groups.Groups.singles.Goals as goal

pub returns-clause-nets : goal.returns-clause-nets
returns-clause-nets g c =
    let k = g.N.Price.Price.kind in
    let m = g.N.Netlist.meaning c.args.netlist.now in
    subst (MasksOf (map (λ mask. mask.word) c.gather.result)) (sym (grouped_own k m c.singles.result (g.N.Netlist.sound c.args.netlist.now) c.singles.ensures.own))
    c.gather.ensures.nets
