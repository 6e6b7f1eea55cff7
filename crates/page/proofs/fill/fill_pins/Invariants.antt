use Rattle.std.proofs.Common.{◌≡◌, ◌++◌, drop}
use Rattle.page.specs.Layout.{net_pins}
use Rattle.page.proofs.fill.fill_pins.Given as goal

-- the pins so far stand in the table
abbrev pub invariant-loop-k : goal.invariant-loop-k
invariant-loop-k l = l.pins ≡ net_pins l.whole.net.bytes.now l.whole.net.at l.k ++ drop l.k l.initial.pins
