use Rattle.std.proofs.Common.{◌≡◌, ◌+◌, ◌*◌, ◌≤◌, length, None}
use Rattle.page.specs.Layout.{net_bit, pins_table}
use Rattle.page.specs.Faults.{nets_fault}
use Rattle.page.proofs.check.check_nets.Given as goal

-- no fault among the nets so far
abbrev pub invariant-loop : goal.invariant-loop
invariant-loop l =
    (nets_fault l.bytes l.modules l.counter ≡ None)
    × (l.end ≡ net_bit l.bytes l.counter)
    × (l.end ≤ 22 + 801 * l.counter)
    × (l.end ≤ 8 * length l.bytes)
    × (l.pins ≡ length (pins_table l.bytes l.counter))
