-- Worked pages: what the definitions say of a page of 3 modules and 2 nets, and of two that are spoiled.
use Rattle.std.specs.Prelude.{◌≡◌, ℕ, List, [], ◌∷◌, ◌++◌, map, length, Some, None}
use Rattle.refusal.specs.declared.Place.TheVariants.{Bit}
use Rattle.refusal.specs.declared.Fault.{Fault}
use Rattle.refusal.specs.Faults.{number, place}
use Rattle.price.specs.Wires.{wires, wires_of}
use Rattle.page.specs.Layout.{modules_field, nets_field, starts_table, pins_table, prices_table}
use Rattle.page.specs.Faults.{unpack_fault}

-- A worked line: a page in wires, and what comes of it.
pub data Line : Type 0 where
  -- its modules, starts, pins and prices
  unpacked : List ℕ → ℕ → List ℕ → List ℕ → List ℕ → Line
  -- the refusal's number and bit
  refused : List ℕ → ℕ → ℕ → Line

-- the tables have just the room that the line's own entries need
pub record Unpacked (bytes : List ℕ) (modules : ℕ) (starts pins prices : List ℕ) : Type 0 where
  pub no_fault : unpack_fault bytes wires.number (length starts) (length pins) (length prices) ≡ None
  pub modules_are : modules_field bytes ≡ modules
  pub starts_are : starts_table bytes (nets_field bytes) ≡ starts
  pub pins_are : pins_table bytes (nets_field bytes) ≡ pins
  pub prices_are : prices_table bytes wires (nets_field bytes) ≡ map wires_of prices

-- refused whatever room the tables have
pub record Refused (bytes : List ℕ) (n bit : ℕ) : Type 0 where
  pub fault : Fault
  pub told : (starts pins prices : ℕ) → unpack_fault bytes wires.number starts pins prices ≡ Some fault
  pub number_is : number fault ≡ n
  pub place_is : place fault ≡ Bit bit

abbrev pub Stands : Line → Type 0
Stands (unpacked bytes modules starts pins prices) = Unpacked bytes modules starts pins prices
Stands (refused bytes n bit) = Refused bytes n bit

abbrev pub fifteen_bytes : List ℕ
fifteen_bytes = 0x10 ∷ 0x60 ∷ 0x08 ∷ 0x10 ∷ 0x00 ∷ 0x80 ∷ 0x00 ∷ 0x00 ∷ 0x02 ∷ 0x82 ∷ 0x04 ∷ 0x20 ∷ 0x00 ∷ 0x00 ∷ 0x00 ∷ []

abbrev pub worked_pages : List Line
worked_pages =
    unpacked (fifteen_bytes ++ 0x30 ∷ []) 3 (0 ∷ 2 ∷ 4 ∷ []) (0 ∷ 1 ∷ 1 ∷ 2 ∷ []) (5 ∷ 3 ∷ [])
    ∷ refused (fifteen_bytes ++ 0x31 ∷ []) 9 127
    ∷ refused fifteen_bytes 1 92
    ∷ []
