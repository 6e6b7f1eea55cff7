use Rattle.std.proofs.Common.{rules}
use Rattle.rows.proofs.singles.Goals as goal

pub returns-clause-own : goal.returns-clause-own
returns-clause-own c v h = let t = c.from_fn.ensures.items.at v 0 h in search (rules, t.2)
