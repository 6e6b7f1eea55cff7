use Rattle.std.proofs.Common.{ltb, sym, refl, ap, ◌∙◌, ◌-◌}
use Rattle.std.specs.Bool.{then_some}
use Rattle.price.specs.Wires.{wires, wires_of}
use Rattle.price.specs.KindLaws.{same_wires}
use Rattle.bottom.proofs.Asked.{price_asked}
use Rattle.chain.specs.Chains.{chain_pins, chain_prices, pins_there}
use Rattle.chain.proofs.ChainAsked.{net_count, same_for_each}
use Rattle.chain.proofs.questions.ChainNetlist.price.Goals as goal

pub returns : goal.returns
returns c =
    let n = c.args.self.now.modules in
    c.then_some.ensures
    ∙ ap (λ w. then_some (ltb c.args.net c.net_count.result) w) (same_wires _ (wires_of 1) refl)
    ∙ same_for_each (n - 1) (wires_of 1) c.args.net c.net_count.result (c.net_count.ensures ∙ net_count n)
    ∙ sym (price_asked wires n chain_pins (chain_prices n) (pins_there n) c.args.net)
