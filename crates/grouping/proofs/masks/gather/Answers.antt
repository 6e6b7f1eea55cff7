use Rattle.std.proofs.Common.{◌≡◌, ◌≤◌, length, ◌∙◌, arith, rules}
use Rattle.std.proofs.lemmas.List.{length-take-le}
use Rattle.netlist.specs.Meaning.{own_nets}
use Rattle.grouping.proofs.OwnNets.{own_length}
use Rattle.grouping.proofs.PinSets.{masks_set, masks_all, rest_empty}
use Rattle.grouping.proofs.masks.gather.Goals as goal

pub loop-i-preserved : goal.loop-i-preserved
loop-i-preserved g c =
    masks_set (λ mask. mask.word) (own_nets g.N.Price.Price.kind (g.N.Netlist.meaning c.args.netlist.now)) c.loop-i.mask-items c.loop-i.i c.net_mask.result
    (omega arith) c.net_mask.ensures c.loop-i.invariant

pub returns : goal.returns
returns g c =
    let k = g.N.Price.Price.kind in
    let m = g.N.Netlist.meaning c.args.netlist.now in
    let items = length c.loop-i.mask-items in
    let ended : items ≤ c.loop-i.i = search rules in
    let few : length m.nets ≤ 1024 = (g.N.Netlist.sound c.args.netlist.now).few_nets in
    let all : items ≡ c.net_count.result = c.loop-i.auto.mask-items ∙ length-take-le c.net_count.result _ (omega (arith, few, c.net_count.ensures)) in
    record {
      nets = masks_all (λ mask. mask.word) (own_nets k m) c.loop-i.mask-items _ items (omega (arith, own_length k m, all)) (omega arith) (λ i h. c.loop-i.invariant i (omega (arith, h, ended)));
      rest = λ i v past. rest_empty (λ mask. mask.word) c.loop-i.mask-items _ c.net_count.result 1024 (search rules) all i v (omega (arith, past, c.net_count.ensures));
    }
