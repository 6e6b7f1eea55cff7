use Rattle.std.proofs.Common.{◌≡◌, ◌-◌, length, arith}
use Rattle.bottom.specs.LoadFaults.{pins_fault}
use Rattle.refusal.proofs.CheckLaws.{accepted}
use Rattle.bottom.proofs.FirstFaults.{counts_accepted, pins_there, few_pins}
use Rattle.pin_tables.specs.Tables.{net_pins}
use Rattle.pin_tables.proofs.TablesAccepted.{tables_agree, tables_rise}
use Rattle.pin_tables.proofs.PinTables.load.Goals as goal

pub check_pins-requires : goal.check_pins-requires
check_pins-requires g c =
    let starts = c.args.starts.now in
    let pins = c.args.pins.now in
    let nets = length c.args.prices.now in
    let agree = tables_agree tt starts (length pins) nets c.in_ok-check_tables.ensures in
    let level : length starts - 1 ≡ nets = omega (arith, agree.0) in
    record { some = omega (arith, agree.0); rising = rw level (tables_rise tt starts pins nets (rw level at c.in_ok-check_pin_counts.ensures) agree.1) }

pub invariant_of-self : goal.invariant_of-self
invariant_of-self g c =
    let starts = c.args.starts.now in
    let pins = c.args.pins.now in
    let nets = length c.args.prices.now in
    let modules = c.args.modules in
    let counts = counts_accepted tt modules nets c.in_ok-check_counts.ensures in
    let agree = tables_agree tt starts (length pins) nets c.in_ok-check_tables.ensures in
    let level : length starts - 1 ≡ nets = omega (arith, agree.0) in
    let passed = accepted tt (pins_fault modules (net_pins starts pins) nets) (rw level at c.in_ok-check_pins.ensures) in
    record {
      counted = (counts.0, counts.1, agree.0);
      rising = tables_rise tt starts pins nets (rw level at c.in_ok-check_pin_counts.ensures) agree.1;
      short = few_pins modules (net_pins starts pins) nets passed counts.0;
      there = pins_there modules (net_pins starts pins) nets passed;
    }
