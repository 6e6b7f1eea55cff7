use Rattle.std.proofs.Common.{ap, ap₂, ◌∙◌, arith}
use Rattle.grouping.specs.Masks.{grouped}
use Rattle.grouping.proofs.OwnNets.{modules_few, grouped_own}
use Rattle.partition.proofs.OrderAnswers.{last_two_parted, ordered}
use Rattle.partition.proofs.ordering.order.Goals as goal

pub returns-then-cells-count-clause-last : goal.returns-then-cells-count-clause-last
returns-then-cells-count-clause-last g c =
    last_two_parted g.N.Price.Price.kind g.met.N.Price.Price.lawful (g.N.Netlist.meaning c.args.netlist.now) (g.N.Netlist.sound c.args.netlist.now)

pub returns-then-bytes-count-clause-last : goal.returns-then-bytes-count-clause-last
returns-then-bytes-count-clause-last g c =
    last_two_parted g.N.Price.Price.kind g.met.N.Price.Price.lawful (g.N.Netlist.meaning c.args.netlist.now) (g.N.Netlist.sound c.args.netlist.now)

pub overflow_cast-count : goal.overflow_cast-count
overflow_cast-count g c = omega (arith, modules_few (g.N.Netlist.meaning c.args.netlist.now) (g.N.Netlist.sound c.args.netlist.now))

pub new-round-requires-clause-few : goal.new-round-requires-clause-few
new-round-requires-clause-few g c = omega (arith, modules_few (g.N.Netlist.meaning c.args.netlist.now) (g.N.Netlist.sound c.args.netlist.now))

pub returns-clause-call : goal.returns-clause-call
returns-clause-call g c =
    let k = g.N.Price.Price.kind in
    let m = g.N.Netlist.meaning c.args.netlist.now in
    let round = c.new-round.ensures in
    ordered k g.met.N.Price.Price.lawful m c.args.cells.now c.order.new.cells c.args.bytes.now c.order.new.bytes _ c.module_count-count.result c.new-round.result.count c.order.result
    (ap₂ (λ n row. grouped k (g.N.Netlist.meaning n) row) round.netlist (ap (λ x. x.row) round.groups) ∙ grouped_own k m c.singles-groups.result.row (g.N.Netlist.sound c.args.netlist.now) c.singles-groups.ensures.own)
    c.module_count-count.ensures round.count (omega arith) (omega arith) (omega arith) c.order.ensures.order c.order.ensures.cells c.order.ensures.price

pub returns-clause-last : goal.returns-clause-last
returns-clause-last g c =
    last_two_parted g.N.Price.Price.kind g.met.N.Price.Price.lawful (g.N.Netlist.meaning c.args.netlist.now) (g.N.Netlist.sound c.args.netlist.now)
