use Rattle.std.proofs.Common.{rules}
use Rattle.printing.proofs.ReadPart.{part_of}
use Rattle.printing.proofs.readers.print_to.Goals as goal

pub returns-clause-part : goal.returns-clause-part
returns-clause-part g c = part_of _ _ _ _ _ _ _ (search rules) c.print_read_to.result c.print_read_to.ensures.part
