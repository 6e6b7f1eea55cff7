use Rattle.netlist.proofs.Straps.{straps_keep_sound_lem}
use Rattle.netlist.proofs.laws.straps_keep_sound.Goals as goal

pub returns : goal.returns
returns g c = straps_keep_sound_lem _
