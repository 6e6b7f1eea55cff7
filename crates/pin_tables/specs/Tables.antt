-- Pin tables: what they mean, and which fault load finds in them.
use Rattle.std.specs.Prelude.{ℕ, ◌+◌, ◌<◌, ◌≤◌, Bool, not, ◌||◌, List, length, Option, ◌==◌, nat_lt, slice_index, slice_range}
use Rattle.refusal.specs.declared.Fault.{Fault}
use Rattle.netlist.specs.Meaning.{Meaning}
use Rattle.bottom.specs.BottomMeaning.{bottom_meaning}
use Rattle.bottom.specs.LoadFaults.{load_fault}

-- net i owns the pins from starts[i] up to, not including, starts[i + 1]
abbrev pub net_pins : List ℕ → List ℕ → ℕ → List ℕ
net_pins starts pins net = slice_range pins (slice_index starts net) (slice_index starts (net + 1))

abbrev pub tables_meaning : {P : Type 0} → ℕ → List ℕ → List ℕ → List P → Meaning P
tables_meaning modules starts pins prices = bottom_meaning modules (net_pins starts pins) prices

-- starts is not one longer than the prices, does not begin with 0, or does not end with the number of pins
abbrev pub disagree : List ℕ → ℕ → ℕ → Bool
disagree starts pins nets = not (length starts == nets + 1) || (not (slice_index starts 0 == 0) || not (slice_index starts nets == pins))

-- the net has fewer than two pins, or its starts fall
abbrev pub few : List ℕ → ℕ → Bool
few starts net = nat_lt (slice_index starts (net + 1)) (slice_index starts net + 2)

-- the first fault that load finds in the tables of so many nets
abbrev pub tables_fault : ℕ → List ℕ → List ℕ → ℕ → Option Fault
tables_fault modules starts pins nets = load_fault modules nets (disagree starts (length pins) nets) (few starts) (net_pins starts pins)

-- the starts of the nets do not fall, and stay within the pins
abbrev pub Rising : List ℕ → List ℕ → ℕ → Type 0
Rising starts pins nets = (net : ℕ) → net < nets → (slice_index starts net ≤ slice_index starts (net + 1)) × (slice_index starts (net + 1) ≤ length pins)
