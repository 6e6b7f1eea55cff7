use Rattle.std.proofs.Common.{◌≡◌, false, eqb, get_or, None, Ok}
use Rattle.refusal.specs.Checks.{some_below, first_fault}
use Rattle.bottom.specs.LoadFaults.{pin_fault}
use Rattle.pin_tables.proofs.pins.check_net.Given as goal

abbrev pub invariant-positions : goal.invariant-positions
invariant-positions l = (l.found ≡ Ok tt) × (first_fault (pin_fault l.modules l.net l.pins) l.position ≡ None)

abbrev pub invariant-loop-earlier : goal.invariant-loop-earlier
invariant-loop-earlier l = (l.found ≡ Ok tt) × (some_below (λ earlier. eqb (get_or l.pins l.position 0) (get_or l.pins earlier 0)) l.earlier-index ≡ false)
