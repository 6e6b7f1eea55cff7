use Rattle.std.proofs.Common.{sym, ◌∙◌, arith}
use Rattle.price.specs.Wires.{wires}
use Rattle.bottom.proofs.Asked.{count_asked, count_absent}
use Rattle.chain.specs.Chains.{chain_pins, chain_prices, pins_there}
use Rattle.chain.proofs.ChainAsked.{nets_are}
use Rattle.chain.proofs.questions.ChainNetlist.pin_count.Goals as goal

pub returns-in_err-pins_of : goal.returns-in_err-pins_of
returns-in_err-pins_of c =
    let n = c.args.self.now.modules in
    c.from_residual.ensures ∙ sym (count_absent wires n chain_pins (chain_prices n) (pins_there n) c.args.net (omega (arith, nets_are n, c.in_err-pins_of.ensures)))

pub returns : goal.returns
returns c =
    let n = c.args.self.now.modules in
    let f = c.in_ok-pins_of.ensures in
    sym (count_asked wires n chain_pins (chain_prices n) (pins_there n) c.args.net (omega (arith, nets_are n, f.0)))
