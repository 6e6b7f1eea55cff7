use Rattle.std.proofs.Common.{ℕ, ◌-◌, refl, sym, subst, arith}
use Rattle.netlist.specs.Changes.{united}
use Rattle.netlist.specs.Meaning.{own_nets, modules}
use Rattle.partition.specs.Rounds.{by_noted, GroupRow}
use Rattle.grouping.proofs.OwnNets.{modules_few}
use Rattle.partition.proofs.RoundSteps.{as_asked, alone_row, round_leaves, kept_start, Kept, kept_more, kept_end}
use Rattle.partition.proofs.rounds.split_modules.Goals as goal

pub new-requires-clause-few : goal.new-requires-clause-few
new-requires-clause-few g c = omega (arith, c.requires.all, modules_few (g.N.Netlist.meaning c.args.netlist.now) (g.N.Netlist.sound c.args.netlist.now))

pub loop-left-init : goal.loop-left-init
loop-left-init g c =
    let k = g.N.Price.Price.kind in
    let m = g.N.Netlist.meaning c.args.netlist.now in
    let s = g.N.Netlist.sound c.args.netlist.now in
    let count : ℕ = c.args.count in
    let groups = c.singles-groups in
    let row = groups.result.row in
    let first = c.part_last-end in
    let made = as_asked g.N.Netlist.meaning c.new.ensures.netlist c.new.ensures.count c.new.ensures.groups first.ensures in
    let alone_in : GroupRow (modules m) count row = alone_row (modules m) count row (modules_few m s) c.requires.all groups.ensures.long groups.ensures.own in
    let left = round_leaves k g.met.N.Price.Price.lawful m s count count row c.args.cells.now first.new.cells c.args.cells.now first.result
    c.requires.all c.requires.two (omega arith) c.requires.room alone_in refl made in (
      kept_start k (own_nets k m) count row (united first.result.next_to_last first.result.last row) (by_noted first.result.noted) c.requires.two
          (record { long = groups.ensures.long; own = groups.ensures.own }) made.noted made.united,
      left.0,
      groups.ensures.nets,
      left.1,
    )

pub new-requires-in-loop-left-clause-row : goal.new-requires-in-loop-left-clause-row
new-requires-in-loop-left-clause-row g c =
    subst (GroupRow (modules (g.N.Netlist.meaning c.args.netlist.now)) (c.loop-left.left - 1)) (sym c.unite.ensures.row) c.loop-left.invariant.1

pub loop-left-preserved : goal.loop-left-preserved
loop-left-preserved g c =
    let k = g.N.Price.Price.kind in
    let m = g.N.Netlist.meaning c.args.netlist.now in
    let count : ℕ = c.args.count in
    let groups : ℕ = c.loop-left.left - 1 in
    let row = c.unite.new.self.row in
    let inv = c.loop-left.invariant in
    let next = c.part_last-end-in-loop-left in
    let asked = c.new-in-loop-left.ensures in
    let made = as_asked g.N.Netlist.meaning asked.netlist asked.count asked.groups next.ensures in
    let left = round_leaves k g.met.N.Price.Price.lawful m (g.N.Netlist.sound c.args.netlist.now) count groups row c.loop-left.cells next.new.cells c.args.cells.now next.result
    c.requires.all (omega arith) (omega (arith, c.loop-left.auto.left)) (omega (arith, c.requires.room, c.loop-left.auto.cells, c.part_last-end.auto.cells))
    (subst (GroupRow (modules m) groups) (sym c.unite.ensures.row) inv.1) inv.3 made in (
      kept_more k (own_nets k m) count c.loop-left.left groups (by_noted c.loop-left.best) (by_noted next.result.noted) (by_noted c.or_cheaper-best.result) row
          (united next.result.next_to_last next.result.last row) (omega (arith, inv.0.several)) (omega arith)
          (subst (Kept k (own_nets k m) count c.loop-left.left (by_noted c.loop-left.best)) (sym c.unite.ensures.row) inv.0) made.noted made.united c.or_cheaper-best.ensures,
      left.0,
      c.unite.ensures.nets inv.2,
      left.1,
    )

pub returns-clause-found : goal.returns-clause-found
returns-clause-found g c =
    let k = g.N.Price.Price.kind in
    let end = c.loop-left.end in
    kept_end k (own_nets k (g.N.Netlist.meaning c.args.netlist.now)) c.args.count c.loop-left.left (by_noted c.loop-left.best)
    (united end.next_to_last end.last c.loop-left.groups.row) (omega arith) c.loop-left.invariant.0
