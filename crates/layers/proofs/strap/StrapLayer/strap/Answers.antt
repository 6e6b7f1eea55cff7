use Rattle.std.proofs.Common.{refl}
use Rattle.layers.proofs.Uniting.{united_row_in_turn, strap_done}
use Rattle.layers.proofs.strap.StrapLayer.strap.Goals as goal

pub invariant_of-self : goal.invariant_of-self
invariant_of-self g c =
    let kept = united_row_in_turn g.N.Netlist.meaning g.N.Netlist.sound c.args.self.now c.args.a c.args.b
    c.in_ok-v.v c.in_ok-v.w c.in_ok-v.ensures c.united_row-self.result c.united_row-self.ensures in
    record { long = kept.0; numbered = kept.1 }

pub returns : goal.returns
returns g c = record {
  straps = strap_done g.N.Netlist.meaning g.N.Netlist.sound c.args.self.now c.args.a c.args.b
      c.in_ok-v.v c.in_ok-v.w c.in_ok-v.ensures c.united_row-self.result c.united_row-self.ensures;
  below = refl;
}
