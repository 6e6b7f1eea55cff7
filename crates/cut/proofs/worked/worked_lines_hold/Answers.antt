use Rattle.std.proofs.Common.{refl}
use Rattle.netlist.specs.Meaning.{own_nets}
use Rattle.cut.specs.Orders.{order}
use Rattle.cut.specs.Rounds.{noted, split_of}
use Rattle.cut.specs.SidesWord.{sides_word}
use Rattle.cut.proofs.worked.worked_lines_hold.Goals as goal

pub returns : goal.returns
unfolding own_nets order noted split_of sides_word
returns c = (refl, (refl, (refl, (refl, (refl, (refl, (refl, (refl, tt))))))))
