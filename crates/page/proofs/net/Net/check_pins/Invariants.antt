use Rattle.std.proofs.Common.{◌≡◌, None}
use Rattle.refusal.specs.Checks.{first_fault}
use Rattle.page.specs.Faults.{pin_fault}
use Rattle.page.proofs.net.Net.check_pins.Given as goal

-- no fault among the pins so far
abbrev pub invariant-loop-k : goal.invariant-loop-k
invariant-loop-k l = first_fault (pin_fault l.self.bytes.now l.modules l.self.at) l.k ≡ None
