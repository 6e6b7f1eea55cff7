use Rattle.std.proofs.Common.{◌++◌, drop, refl, ap}
use Rattle.partition.proofs.RoundSteps.{noted_is, next_is}
use Rattle.partition.proofs.round.Round.part_last.Goals as goal

pub returns : goal.returns
returns g c =
    let k = g.N.Price.Price.kind in
    let l = g.met.N.Price.Price.lawful in
    let round = c.args.self.now in
    let m = g.N.Netlist.meaning round.netlist.now in
    let ordered = c.order-price.ensures in
    record {
      noted = noted_is k l m round.groups.now.row c.order-price.new.bytes round.count round.several ordered.order c.group_set.result.word c.order-price.result ordered.price c.group_set.ensures;
      united = next_is k l m round.groups.now.row c.order-price.new.bytes round.count round.several ordered.order _ refl;
      zeroed = ap (λ xs. xs ++ drop round.count c.args.cells.now) ordered.cells;
    }
