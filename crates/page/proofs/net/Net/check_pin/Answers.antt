use Rattle.std.proofs.Common.{sym, ◌∙◌, arith}
use Rattle.std.proofs.lemmas.Result.{err_from_is_err_and}
use Rattle.page.proofs.PinLaws.{pin_passes, pin_ends, pin_unknown, pin_repeats}
use Rattle.page.proofs.net.Net.check_pin.Goals as goal

pub returns-in_err-pin : goal.returns-in_err-pin
returns-in_err-pin c =
    let net = c.args.self.now in
    let p = err_from_is_err_and c.from_residual.result c.from_residual.ensures.1 in
    rw (p.1, p.2) (pin_ends net.bytes.now net.at c.args.modules c.args.k _ (rw c.pin_bit-bit.ensures at c.in_err-pin.ensures.cases))

pub returns-then-pin-modules : goal.returns-then-pin-modules
returns-then-pin-modules c =
    let net = c.args.self.now in
    let f = rw c.pin_bit-bit.ensures at c.in_ok-pin.ensures.cases in
    rw c.pin_bit-bit.ensures (pin_unknown net.bytes.now net.at c.args.modules c.args.k f.0 (omega (arith, f.1)))

pub returns-then-repeats : goal.returns-then-repeats
returns-then-repeats c =
    let net = c.args.self.now in
    let f = rw c.pin_bit-bit.ensures at c.in_ok-pin.ensures.cases in
    rw c.pin_bit-bit.ensures (pin_repeats net.bytes.now net.at c.args.modules c.args.k f.0 (omega (arith, f.1)) (rw f.1 at (sym c.repeats.ensures ∙ c.if-repeats.true)))

pub returns : goal.returns
returns c =
    let net = c.args.self.now in
    let f = rw c.pin_bit-bit.ensures at c.in_ok-pin.ensures.cases in
    pin_passes net.bytes.now net.at c.args.modules c.args.k f.0 (omega (arith, f.1)) (rw f.1 at (sym c.repeats.ensures ∙ c.if-repeats.false))
