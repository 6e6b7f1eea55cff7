use Rattle.std.proofs.Common.{arith}
use Rattle.std.proofs.lemmas.Result.{err_from_is_err_and}
use Rattle.page.specs.Faults.{pin_fault}
use Rattle.refusal.proofs.CheckLaws.{first_at}
use Rattle.page.proofs.net.Net.check_pins.Goals as goal

pub returns-in_err-check_pin : goal.returns-in_err-check_pin
returns-in_err-check_pin c =
    let net = c.args.self.now in
    let p = err_from_is_err_and c.from_residual.result c.from_residual.ensures.1 in
    rw (p.1, p.2)
    (first_at (pin_fault net.bytes.now c.args.modules net.at) _ c.loop-k.k net.pins c.loop-k.invariant c.in_err-check_pin.ensures (omega arith))
