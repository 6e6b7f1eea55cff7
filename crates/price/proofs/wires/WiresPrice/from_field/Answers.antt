use Rattle.std.proofs.Common.{rules}
use Rattle.price.specs.KindLaws.{same_wires}
use Rattle.price.proofs.wires.WiresPrice.from_field.Goals as goal

pub returns : goal.returns
returns c = same_wires _ _ (search rules)
