use Rattle.std.proofs.Common.{sym, ap, ◌∙◌, arith}
use Rattle.std.specs.List.{slice_get}
use Rattle.price.specs.Wires.{wires}
use Rattle.bottom.proofs.Asked.{read, pin_asked, pin_absent}
use Rattle.chain.specs.Chains.{chain_pins, chain_prices, pins_there}
use Rattle.chain.proofs.ChainAsked.{nets_are}
use Rattle.chain.proofs.questions.ChainNetlist.pin.Goals as goal

pub returns-in_err-pins_of : goal.returns-in_err-pins_of
returns-in_err-pins_of c =
    let n = c.args.self.now.modules in
    c.from_residual.ensures ∙ sym (pin_absent wires n chain_pins (chain_prices n) (pins_there n) c.args.net c.args.k (omega (arith, nets_are n, c.in_err-pins_of.ensures)))

pub returns : goal.returns
returns c =
    let n = c.args.self.now.modules in
    let f = c.in_ok-pins_of.ensures in
    c.copied.ensures
    ∙ read c.in_ok-pins_of.field-0 c.args.k c.get.result c.get.ensures.lookup.3
    ∙ ap (λ xs. slice_get xs c.args.k) f.1
    ∙ sym (pin_asked wires n chain_pins (chain_prices n) (pins_there n) c.args.net c.args.k (omega (arith, nets_are n, f.0)))
