use Rattle.std.proofs.Common.{◌≡◌, length, arith, rules}
use Rattle.partition.proofs.NextGroups.{groups_united}
use Rattle.partition.proofs.groups.Groups.unite.Goals as goal

pub returns-clause-nets : goal.returns-clause-nets
returns-clause-nets g c nets =
    let m = g.N.Netlist.meaning c.args.netlist.now in
    let groups = c.args.self.now in
    let n = c.net_count.result in
    let long : length groups.masks ≡ 1024 = search rules in
    groups_united (λ mask. mask.word) g.N.Price.Price.kind m c.args.a c.args.b n groups.row c.united_row-self.result groups.masks c.unite_masks.new.masks c.united_row-self.ensures
    (omega (arith, c.net_count.ensures)) (omega (arith, (g.N.Netlist.sound c.args.netlist.now).few_nets, long, c.net_count.ensures)) c.unite_masks.auto.masks c.unite_masks.ensures nets
