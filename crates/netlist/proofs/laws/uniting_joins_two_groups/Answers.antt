use Rattle.netlist.proofs.Numbering.{uniting}
use Rattle.netlist.proofs.laws.uniting_joins_two_groups.Goals as goal

pub returns : goal.returns
returns c = uniting
