-- What a bottom means: place k for module k, a net for each price, and no mutes.
use Rattle.std.specs.Prelude.{ℕ, ◌+◌, false, List, [], ◌∷◌, length, replicate}
use Rattle.std.specs.List.{range_with_len}
use Rattle.netlist.specs.Nets.{Net}
use Rattle.netlist.specs.Meaning.{Meaning}

-- the nets from net i on, one for each price, where net n has the pins `pins n`
abbrev pub nets_from : {P : Type 0} → (ℕ → List ℕ) → ℕ → List P → List (Net P)
nets_from pins i [] = []
nets_from pins i (x ∷ xs) = record { price = x; pins = pins i } ∷ nets_from pins (i + 1) xs

abbrev pub bottom_meaning : {P : Type 0} → ℕ → (ℕ → List ℕ) → List P → Meaning P
bottom_meaning modules pins prices = record { places = range_with_len 0 modules; nets = nets_from pins 0 prices; muted = replicate (length prices) false }

-- no modules and no nets
abbrev pub empty_meaning : {P : Type 0} → Meaning P
empty_meaning = record { places = []; nets = []; muted = [] }
