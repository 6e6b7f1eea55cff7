use Rattle.std.proofs.Common.{ℕ, length, subst}
use Rattle.bottom.specs.LoadFaults.{pins_fault}
use Rattle.bottom.specs.Fitting.{PinsThere}
use Rattle.refusal.proofs.CheckLaws.{accepted}
use Rattle.bottom.proofs.FirstFaults.{counts_accepted, pins_there}
use Rattle.bit_rows.specs.Rows.{row_pins}
use Rattle.bit_rows.proofs.BitRows.load.Goals as goal

pub invariant_of-self : goal.invariant_of-self
invariant_of-self g c =
    let rows = c.args.rows.now in
    let modules = c.args.modules in
    let counts = counts_accepted tt modules (length c.args.prices.now) c.in_ok-check_counts.ensures in
    let passed = accepted tt (pins_fault modules (row_pins rows) (length rows)) c.in_ok-check_pins.ensures in
    record {
      counted = (counts.0, counts.1, c.if-rows-prices.false);
      there = subst (λ (n : ℕ). PinsThere modules (row_pins rows) n) c.if-rows-prices.false (pins_there modules (row_pins rows) (length rows) passed);
    }
