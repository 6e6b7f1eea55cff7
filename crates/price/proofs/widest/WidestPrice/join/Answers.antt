use Rattle.std.proofs.Common.{rules}
use Rattle.price.specs.KindLaws.{same_widest}
use Rattle.price.proofs.widest.WidestPrice.join.Goals as goal

pub returns : goal.returns
returns c = same_widest _ _ (search rules)
