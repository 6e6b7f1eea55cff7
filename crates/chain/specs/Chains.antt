-- What a chain means: net i has the pins i and i + 1, at one wire.
use Rattle.std.specs.Prelude.{ℕ, zero, suc, ◌+◌, ◌-◌, List, [], ◌∷◌, length, replicate}
use Rattle.std.proofs.Common.{arith}
use Rattle.std.proofs.lemmas.List.{length-replicate}
use Rattle.netlist.specs.Meaning.{Meaning, Sound}
use Rattle.price.specs.Wires.{wires_of}
use Rattle.price.specs.declared.values.Wires.{Wires}
use Rattle.bottom.specs.BottomMeaning.{bottom_meaning}
use Rattle.bottom.specs.Fitting.{PinsThere, bottom_sound}
use Rattle.chain.specs.declared.Chain.{Chain}

abbrev pub chain_pins : ℕ → List ℕ
chain_pins i = i ∷ (i + 1) ∷ []

abbrev pub chain_prices : ℕ → List Wires
chain_prices n = replicate (n - 1) (wires_of 1)

abbrev pub chain_meaning : ℕ → Meaning Wires
chain_meaning n = bottom_meaning n chain_pins (chain_prices n)

abbrev pub means : Chain → Meaning Wires
means c = chain_meaning c.modules

pub pins_there : (n : ℕ) → PinsThere n chain_pins (length (chain_prices n))
pins_there n net zero h l = let e = length-replicate (n - 1) (wires_of 1) in omega arith
pins_there n net (suc zero) h l = let e = length-replicate (n - 1) (wires_of 1) in omega arith
pins_there n net (suc (suc k)) h l = absurd (omega arith)

pub means_sound : (c : Chain) → Sound (means c)
means_sound c =
    let e = length-replicate (c.modules - 1) (wires_of 1) in
    let f = c.few in
    bottom_sound c.modules chain_pins (chain_prices c.modules) f (omega arith) (λ net h. omega arith) (pins_there c.modules)
