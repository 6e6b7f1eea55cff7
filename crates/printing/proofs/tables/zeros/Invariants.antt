use Rattle.std.proofs.Common.{◌≡◌, replicate}
use Rattle.printing.proofs.tables.zeros.Given as goal

abbrev pub invariant-loop : goal.invariant-loop
invariant-loop g l = l.prices.items ≡ replicate l.counter g.P.Price.kind.zero
