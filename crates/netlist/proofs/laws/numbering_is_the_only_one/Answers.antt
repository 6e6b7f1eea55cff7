use Rattle.netlist.proofs.Numbering.{only_numbering}
use Rattle.netlist.proofs.laws.numbering_is_the_only_one.Goals as goal

pub returns : goal.returns
returns c = only_numbering
