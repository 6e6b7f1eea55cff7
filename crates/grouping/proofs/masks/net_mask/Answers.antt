use Rattle.std.proofs.Common.{arith}
use Rattle.netlist.specs.Meaning.{own_nets, modules}
use Rattle.grouping.proofs.OwnNets.{own_there, own_few_pins, modules_few}
use Rattle.grouping.proofs.PinSets.{pins_more, pins_ended, pins_full}
use Rattle.grouping.proofs.masks.net_mask.Goals as goal

pub loop-k-preserved : goal.loop-k-preserved
loop-k-preserved g c =
    pins_more (own_nets g.N.Price.Price.kind (g.N.Netlist.meaning c.args.netlist.now)) c.args.net c.loop-k.k c.in-Some.pin
    c.loop-k.mask.word c.with-mask.result.word c.in-Some.ensures c.with-mask.ensures c.loop-k.invariant

pub returns-after-loop-k : goal.returns-after-loop-k
returns-after-loop-k g c =
    let k = g.N.Price.Price.kind in
    let m = g.N.Netlist.meaning c.args.netlist.now in
    let s = g.N.Netlist.sound c.args.netlist.now in
    pins_full (own_nets k m) (modules m) c.args.net c.loop-k.k c.loop-k.mask.word (modules_few m s) (own_there k m s) (own_few_pins k m s) (omega arith) c.loop-k.invariant

pub returns-in_default : goal.returns-in_default
returns-in_default g c =
    let k = g.N.Price.Price.kind in
    let m = g.N.Netlist.meaning c.args.netlist.now in
    let s = g.N.Netlist.sound c.args.netlist.now in
    pins_ended (own_nets k m) (modules m) c.args.net c.loop-k.k c.loop-k.mask.word (modules_few m s) (own_there k m s) c.in_default.ensures c.loop-k.invariant
