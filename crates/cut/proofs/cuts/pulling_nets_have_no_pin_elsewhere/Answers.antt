use Rattle.cut.proofs.PinTests.{pulls_tells}
use Rattle.cut.proofs.cuts.pulling_nets_have_no_pin_elsewhere.Goals as goal

pub returns : goal.returns
returns c = pulls_tells
