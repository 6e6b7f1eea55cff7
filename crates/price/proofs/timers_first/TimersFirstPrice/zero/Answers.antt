use Rattle.std.proofs.Common.{refl}
use Rattle.price.specs.KindLaws.{same_timers_first}
use Rattle.price.proofs.timers_first.TimersFirstPrice.zero.Goals as goal

pub returns : goal.returns
returns c = same_timers_first _ _ refl refl
