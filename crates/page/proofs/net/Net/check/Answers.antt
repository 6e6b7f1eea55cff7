use Rattle.std.proofs.Common.{◌≡◌, ◌∙◌, arith}
use Rattle.std.proofs.lemmas.Result.{err_from_is_err_and}
use Rattle.page.specs.Layout.{pin_count, price_bit}
use Rattle.page.proofs.PinLaws.{net_ends, net_few, net_pin, net_price}
use Rattle.page.proofs.net.Net.check.Goals as goal

pub returns-in_err-net : goal.returns-in_err-net
returns-in_err-net c =
    let p = err_from_is_err_and c.from_residual.result c.from_residual.ensures.1 in
    rw (p.1, p.2) (net_ends c.args.bytes.now c.args.at c.args.modules _ c.in_err-net.ensures)

pub returns-then-net-lt2 : goal.returns-then-net-lt2
returns-then-net-lt2 c =
    let f = c.in_ok-net.ensures in
    let counted : c.in_ok-net.net.pins ≡ pin_count c.args.bytes.now c.args.at = cc in
    net_few c.args.bytes.now c.args.at c.args.modules f.0 (omega arith)

pub returns-in_err-check_pins : goal.returns-in_err-check_pins
returns-in_err-check_pins c =
    let f = c.in_ok-net.ensures in
    let counted : c.in_ok-net.net.pins ≡ pin_count c.args.bytes.now c.args.at = cc in
    let p = err_from_is_err_and c.from_residual-in_err-check_pins.result c.from_residual-in_err-check_pins.ensures.1 in
    rw (p.1, p.2) (net_pin c.args.bytes.now c.args.at c.args.modules _ f.0 (omega arith) (rw (f.1, f.2, counted) at c.in_err-check_pins.ensures))

pub returns-in_err-field : goal.returns-in_err-field
returns-in_err-field c =
    let f = c.in_ok-net.ensures in
    let counted : c.in_ok-net.net.pins ≡ pin_count c.args.bytes.now c.args.at = cc in
    let price : c.pin_bit.result ≡ price_bit c.args.bytes.now c.args.at = cc in
    let p = err_from_is_err_and c.from_residual-in_err-field.result c.from_residual-in_err-field.ensures.1 in
    rw (p.1, p.2)
    (net_price c.args.bytes.now c.args.at c.args.modules f.0 (omega arith) (rw (f.1, f.2, counted) at c.in_ok-check_pins.ensures)
    ∙ rw price at c.in_err-field.ensures.cases)

pub returns : goal.returns
returns c =
    let f = c.in_ok-net.ensures in
    let counted : c.in_ok-net.net.pins ≡ pin_count c.args.bytes.now c.args.at = cc in
    let price : c.pin_bit.result ≡ price_bit c.args.bytes.now c.args.at = cc in
    let g = rw price at c.in_ok-field.ensures.cases in (
      net_price c.args.bytes.now c.args.at c.args.modules f.0 (omega arith) (rw (f.1, f.2, counted) at c.in_ok-check_pins.ensures) ∙ g.0,
      f.1,
      f.2,
    )
