use Rattle.std.proofs.Common.{◌≡◌, ◌+◌, ◌++◌, length, drop}
use Rattle.page.specs.Layout.{net_bit, pins_table, starts_table, prices_table}
use Rattle.page.proofs.fill.fill_nets.Given as goal

-- the tables hold the nets so far, and later entries are as they were
abbrev pub invariant-loop-i : goal.invariant-loop-i
invariant-loop-i g l =
    (l.at ≡ net_bit l.bytes l.i)
    × (l.total ≡ length (pins_table l.bytes l.i))
    × (l.starts ≡ starts_table l.bytes l.i ++ drop (l.i + 1) l.initial.starts)
    × (l.pins ≡ pins_table l.bytes l.i ++ drop l.total l.initial.pins)
    × (l.prices ≡ prices_table l.bytes g.P.Price.kind l.i ++ drop l.i l.initial.prices)
