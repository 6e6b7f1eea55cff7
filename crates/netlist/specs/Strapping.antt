-- What a strap does to the sides that a split may give the home modules, and that straps and mutes keep a meaning sound.
use Rattle.std.specs.Prelude.{◌≡◌, ℕ, ◌<◌, Bool, List, length}
use Rattle.netlist.specs.Places.{place, Numbered}
use Rattle.netlist.specs.Meaning.{Meaning, Sound, homes}
use Rattle.netlist.specs.Changes.{strapped_row, strapped, muted_also}

-- home modules of one group are on one side
abbrev pub KeepsGroups : List ℕ → (ℕ → Bool) → Type 0
KeepsGroups row side = (i j : ℕ) → i < length row → j < length row → place row i ≡ place row j → side i ≡ side j

-- The new row is as long and numbered by lowest home module, and a side function keeps its groups
-- exactly when it keeps those of the old row and has i and j on one side.
pub record Strapped (i j : ℕ) (row new : List ℕ) : Type 0 where
  pub as_long : length new ≡ length row
  pub numbered : Numbered 0 new
  pub kept_before : (side : ℕ → Bool) → KeepsGroups new side → KeepsGroups row side
  pub on_one_side : (side : ℕ → Bool) → KeepsGroups new side → side i ≡ side j
  pub kept_after : (side : ℕ → Bool) → KeepsGroups row side → side i ≡ side j → KeepsGroups new side

abbrev pub Strapping : Type 0
Strapping = (i j : ℕ) (row : List ℕ) → Numbered 0 row → i < length row → j < length row → Strapped i j row (strapped_row i j row)

abbrev pub StrapsKeepSound : Type 0 → Type 0
StrapsKeepSound P = (m : Meaning P) (i j : ℕ) → Sound m → i < homes m → j < homes m → Sound (strapped i j m)

abbrev pub MutesKeepSound : Type 0 → Type 0
MutesKeepSound P = (m : Meaning P) (n : ℕ) → Sound m → n < length m.nets → Sound (muted_also n m)
