use Rattle.cut.proofs.PinTests.{crosses_tells}
use Rattle.cut.proofs.cuts.crossing_nets_have_both_sides.Goals as goal

pub returns : goal.returns
returns c = crosses_tells
