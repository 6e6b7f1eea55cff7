use Rattle.std.proofs.Common.{ℕ, length, sym, ap, arith}
use Rattle.std.proofs.lemmas.Result.{err_from_is_err_and}
use Rattle.refusal.specs.Checks.{checked}
use Rattle.bottom.specs.LoadFaults.{net_fault}
use Rattle.refusal.proofs.CheckLaws.{accepted, refused, first_more, first_at}
use Rattle.bit_rows.specs.Rows.{row_pins}
use Rattle.bit_rows.proofs.pins.check_pins.Goals as goal

pub returns-in_err-check_net : goal.returns-in_err-check_net
returns-in_err-check_net c =
    let rows = c.args.rows.now in
    let p = err_from_is_err_and c.from_residual.result c.from_residual.ensures.1 in
    rw (p.1, p.2) (sym (ap checked (first_at (λ (n : ℕ). net_fault c.args.modules n (row_pins rows n)) _ c.loop-net.net (length rows) c.loop-net.invariant
    (refused _ _ (rw c.from.ensures at c.in_err-check_net.ensures)) (omega arith))))

pub loop-net-preserved : goal.loop-net-preserved
loop-net-preserved c =
    first_more (λ (n : ℕ). net_fault c.args.modules n (row_pins c.args.rows.now n)) c.loop-net.net c.loop-net.invariant
    (accepted tt _ (rw c.from.ensures at c.in_ok-check_net.ensures))
