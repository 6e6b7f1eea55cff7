use Rattle.std.proofs.Common.{refl}
use Rattle.price.specs.KindLaws.{same_wires}
use Rattle.price.proofs.wires.WiresPrice.zero.Goals as goal

pub returns : goal.returns
returns c = same_wires _ _ refl
