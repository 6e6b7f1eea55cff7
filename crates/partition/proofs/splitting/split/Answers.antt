use Rattle.std.proofs.Common.{ℕ, replicate, ap, ◌∙◌, arith}
use Rattle.std.proofs.lemmas.List.{length-take-le}
use Rattle.grouping.proofs.OwnNets.{modules_few, modules_homes}
use Rattle.partition.proofs.HomeSides.{few_groups, splitted}
use Rattle.partition.proofs.splitting.split.Goals as goal

pub returns-then-count-lt2 : goal.returns-then-count-lt2
returns-then-count-lt2 g c =
    few_groups g.N.Price.Price.kind g.met.N.Price.Price.lawful (g.N.Netlist.meaning c.args.netlist.now) (g.N.Netlist.sound c.args.netlist.now) c.args.cells.now
    (omega (arith, c.home_count-homes.ensures)) (omega (arith, c.module_count-count.ensures))

pub overflow_cast-count : goal.overflow_cast-count
overflow_cast-count g c = omega (arith, modules_few (g.N.Netlist.meaning c.args.netlist.now) (g.N.Netlist.sound c.args.netlist.now))

pub split_modules-found-requires-clause-room : goal.split_modules-found-requires-clause-room
split_modules-found-requires-clause-room g c = omega (arith, modules_homes (g.N.Netlist.meaning c.args.netlist.now) (g.N.Netlist.sound c.args.netlist.now))

pub returns : goal.returns
returns g c =
    let k = g.N.Price.Price.kind in
    let found = c.split_modules-found in
    splitted k g.met.N.Price.Price.lawful (g.N.Netlist.meaning c.args.netlist.now) (g.N.Netlist.sound c.args.netlist.now) c.args.cells.now c.module_count-count.result
    c.home_count-homes.result found.result.sides.word c.home_set.result.word found.result.price c.clear.new.cells found.new.cells c.module_count-count.ensures
    c.home_count-homes.ensures (omega arith) (omega arith) found.ensures.found (omega arith) c.home_set.ensures
    (c.clear.ensures ∙ ap (λ (n : ℕ). replicate n k.zero) (length-take-le c.home_count-homes.result found.new.cells (omega (arith, found.auto.cells)))) found.ensures.later
