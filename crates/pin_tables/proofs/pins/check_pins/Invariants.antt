use Rattle.std.proofs.Common.{◌≡◌, length, None}
use Rattle.bottom.specs.LoadFaults.{pins_fault}
use Rattle.pin_tables.specs.Tables.{net_pins}
use Rattle.pin_tables.proofs.pins.check_pins.Given as goal

-- no fault among the pins of the nets so far
abbrev pub invariant-loop-net : goal.invariant-loop-net
invariant-loop-net l = pins_fault l.modules (net_pins l.starts l.pins) (length l.yielded) ≡ None
