use Rattle.std.proofs.Common.{◌≡◌, length, arith, rules}
use Rattle.partition.proofs.round.Round.new.Goals as goal

pub invariant_of-result : goal.invariant_of-result
invariant_of-result g c =
    let long : length c.args.groups.now.masks ≡ 1024 = search rules in
    record {
      several = c.requires.several;
      few = c.requires.few;
      within = c.requires.row.below;
      sets = omega (arith, long, (g.N.Netlist.sound c.args.netlist.now).few_nets);
      nets = c.requires.nets;
    }
