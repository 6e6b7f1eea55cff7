use Rattle.std.proofs.Common.{◌≡◌, None}
use Rattle.bottom.specs.LoadFaults.{pins_fault}
use Rattle.bit_rows.specs.Rows.{row_pins}
use Rattle.bit_rows.proofs.pins.check_pins.Given as goal

-- no fault among the pins of the nets so far
abbrev pub invariant-loop-net : goal.invariant-loop-net
invariant-loop-net l = pins_fault l.modules (row_pins l.rows) l.net ≡ None
