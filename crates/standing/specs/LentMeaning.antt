-- What a lent netlist means, and layers over it.
use Rattle.netlist.specs.Meaning.{Meaning, Sound}
use Rattle.layers.specs.declared.strap.StrapLayer.{StrapLayer}
use Rattle.layers.specs.declared.mute.MuteLayer.{MuteLayer}
use Rattle.layers.specs.Layered.{strap_meaning, mute_meaning}
use Rattle.standing.specs.declared.lent.Lent.{Lent}

abbrev pub lent_meaning : {P N : Type 0} → (N → Meaning P) → Lent N → Meaning P
lent_meaning means lent = means lent.netlist.now

pub lent_sound : {P N : Type 0} (means : N → Meaning P) → ((n : N) → Sound (means n)) → (lent : Lent N) → Sound (lent_meaning means lent)
lent_sound means sound lent = sound lent.netlist.now

-- straps below mutes
abbrev pub layers_meaning : {P N : Type 0} → (N → Meaning P) → MuteLayer (StrapLayer N) → Meaning P
layers_meaning means layers = mute_meaning (strap_meaning means) layers

abbrev pub standing_meaning : {P N : Type 0} → (N → Meaning P) → MuteLayer (StrapLayer (Lent N)) → Meaning P
standing_meaning means layers = layers_meaning (lent_meaning means) layers
