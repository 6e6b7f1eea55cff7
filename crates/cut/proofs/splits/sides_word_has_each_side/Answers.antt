use Rattle.cut.proofs.SideBits.{sides_word_has_each_side_lem}
use Rattle.cut.proofs.splits.sides_word_has_each_side.Goals as goal

pub returns : goal.returns
returns c = sides_word_has_each_side_lem
