use Rattle.std.proofs.Common.{refl, ap, arith}
use Rattle.layers.specs.Rows.{places_few}
use Rattle.layers.proofs.Uniting.{alone_in_turn, alone_regrouped}
use Rattle.layers.proofs.strap.StrapLayer.over.Goals as goal

pub invariant_of-result : goal.invariant_of-result
invariant_of-result g c = record {
  long = c.singles.ensures.long;
  numbered = alone_in_turn c.singles.result 64 c.singles.ensures.long c.singles.ensures.own;
}

pub returns : goal.returns
returns g c =
    let m = g.N.Netlist.meaning c.args.below in
    let s = g.N.Netlist.sound c.args.below in
    let same = alone_regrouped c.singles.result 64 c.singles.ensures.long c.singles.ensures.own m.places
    (places_few m.places 0 64 (omega (arith, s.few_homes)) s.numbered) in
    (ap (λ places. record { places = places; nets = m.nets; muted = m.muted }) same, refl)
