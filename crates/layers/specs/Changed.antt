-- What strapping and muting a layer answer, and what they leave.
use Rattle.std.specs.Prelude.{◌≡◌, ℕ, Some, None, Ok, Err, Result}
use Rattle.refusal.specs.declared.Fault.{Fault}
use Rattle.netlist.specs.Places.{place}
use Rattle.netlist.specs.Meaning.{Meaning}
use Rattle.netlist.specs.Changes.{strapped, muted_also}
use Rattle.netlist.specs.Uniting.{United}
use Rattle.layers.specs.Refusals.{strap_fault, mute_fault}

-- Home modules a and b strapped: the meaning is the strapped one, in which the groups of a and b are one. Refused, the layer is what it was.
abbrev pub Straps : {P L : Type 0} → (L → Meaning P) → ℕ → ℕ → L → L → Result (Unit {0}) Fault → Type 0
Straps means a b old new (Ok _) =
    (strap_fault a b (means old) ≡ None) × (means new ≡ strapped a b (means old))
    × United (place (means old).places a) (place (means old).places b) (means old).places (means new).places
Straps means a b old new (Err fault) = (strap_fault a b (means old) ≡ Some fault) × (new ≡ old)

-- Net n muted too. Refused, the layer is what it was.
abbrev pub Mutes : {P L : Type 0} → (L → Meaning P) → ℕ → L → L → Result (Unit {0}) Fault → Type 0
Mutes means n old new (Ok _) = (mute_fault n (means old) ≡ None) × (means new ≡ muted_also n (means old))
Mutes means n old new (Err fault) = (mute_fault n (means old) ≡ Some fault) × (new ≡ old)
