use Rattle.std.proofs.Common.{refl}
use Rattle.price.specs.KindLaws.{same_widest}
use Rattle.price.proofs.widest.WidestPrice.zero.Goals as goal

pub returns : goal.returns
returns c = same_widest _ _ refl
