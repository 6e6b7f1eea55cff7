-- Bit rows: what they mean, and which fault load finds in them.
use Rattle.std.specs.Prelude.{ℕ, Bool, not, List, length, Option, ◌==◌, nat_lt, slice_index}
use Rattle.refusal.specs.declared.Fault.{Fault}
use Rattle.moduleset.specs.Words.{members}
use Rattle.netlist.specs.Meaning.{Meaning}
use Rattle.bottom.specs.BottomMeaning.{bottom_meaning}
use Rattle.bottom.specs.LoadFaults.{load_fault}

-- a net's pins are the modules whose bits are 1 in its row, rising
abbrev pub row_pins : List ℕ → ℕ → List ℕ
row_pins rows net = members (slice_index rows net)

abbrev pub rows_meaning : {P : Type 0} → ℕ → List ℕ → List P → Meaning P
rows_meaning modules rows prices = bottom_meaning modules (row_pins rows) prices

-- rows and prices differ in number
abbrev pub disagree : List ℕ → ℕ → Bool
disagree rows nets = not (length rows == nets)

-- the net has fewer than two pins
abbrev pub few : List ℕ → ℕ → Bool
few rows net = nat_lt (length (row_pins rows net)) 2

-- the first fault that load finds in the rows of so many nets
abbrev pub rows_fault : ℕ → List ℕ → ℕ → Option Fault
rows_fault modules rows nets = load_fault modules nets (disagree rows nets) (few rows) (row_pins rows)
