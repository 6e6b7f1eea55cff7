use Rattle.netlist.proofs.Straps.{strapping}
use Rattle.netlist.proofs.laws.strapping_puts_both_on_one_side.Goals as goal

pub returns : goal.returns
returns c = strapping
