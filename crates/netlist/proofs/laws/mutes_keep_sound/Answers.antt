use Rattle.netlist.proofs.Straps.{mutes_keep_sound_lem}
use Rattle.netlist.proofs.laws.mutes_keep_sound.Goals as goal

pub returns : goal.returns
returns g c = mutes_keep_sound_lem _
