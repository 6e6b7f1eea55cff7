use Rattle.moduleset.proofs.Sets.{has_zero}
use Rattle.moduleset.proofs.ModuleSet.empty.Goals as goal

pub returns : goal.returns
returns c k = has_zero k
