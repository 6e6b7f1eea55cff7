-- What unpacking a page answers and leaves.
use Rattle.std.specs.Prelude.{◌≡◌, ℕ, ◌*◌, ◌^◌, ◌<◌, ◌≤◌, List, ◌++◌, length, drop, Some, None, Result, MatchResult}
use Rattle.refusal.specs.declared.Fault.{Fault}
use Rattle.price.specs.Kind.{Kind}
use Rattle.page.specs.declared.counts.Counts.{Counts}
use Rattle.page.specs.Layout.{modules_field, nets_field, net_bit, pins_table, starts_table, prices_table}
use Rattle.page.specs.Faults.{unpack_fault}

-- the counts of a page
pub record Counted (bytes : List ℕ) (n : Counts) : Type 0 where
  pub modules_are : n.modules ≡ modules_field bytes
  pub nets_are : n.nets ≡ nets_field bytes
  pub pins_are : n.pins ≡ length (pins_table bytes (nets_field bytes))

-- a table after its first entries are written: later entries are as they were
abbrev pub Extends : {X : Type 0} → List X → List X → List X → Type 0
Extends written before after = after ≡ written ++ drop (length written) before

-- the page holds its first nets whole
pub record Holds (bytes : List ℕ) (nets : ℕ) : Type 0 where
  pub early : net_bit bytes nets < 2 ^ 30
  pub whole : net_bit bytes nets ≤ 8 * length bytes

-- tables of starts s, pins p and prices c, which are then s', p' and c': all as they were
pub record TablesStay {P : Type 0} (s s' p p' : List ℕ) (c c' : List P) : Type 0 where
  pub starts_stay : s' ≡ s
  pub pins_stay : p' ≡ p
  pub prices_stay : c' ≡ c

-- the page, and the same tables
module _ {P : Type 0} (k : Kind P) (bytes : List ℕ) (s s' p p' : List ℕ) (c c' : List P) where
  -- its entries first, and later entries as they were
  pub record TablesWritten : Type 0 where
    pub starts_are : Extends (starts_table bytes (nets_field bytes)) s s'
    pub pins_are : Extends (pins_table bytes (nets_field bytes)) p p'
    pub prices_are : Extends (prices_table bytes k (nets_field bytes)) c c'

  pub record Filled (n : Counts) : Type 0 where
    pub no_fault : unpack_fault bytes k.number (length s) (length p) (length c) ≡ None
    pub counted : Counted bytes n
    pub written : TablesWritten

  pub record Refused (e : Fault) : Type 0 where
    pub told : unpack_fault bytes k.number (length s) (length p) (length c) ≡ Some e
    pub tables_stay : TablesStay s s' p p' c c'

-- Unpack answers the counts and fills the tables where the page has no fault, and otherwise tells its first fault and leaves the tables.
abbrev pub Unpacks : {P : Type 0} → Kind P → List ℕ → Result Counts Fault → List ℕ → List ℕ → List ℕ → List ℕ → List P → List P → Type 0
Unpacks k bytes r s s' p p' c c' = MatchResult r (Filled k bytes s s' p p' c c') (Refused k bytes s s' p p' c c')

-- Fill writes a checked page where it is of the kind and each table has room, and otherwise tells the first fault and leaves the tables.
abbrev pub Fills : {P : Type 0} → Kind P → List ℕ → Result (Unit {0}) Fault → List ℕ → List ℕ → List ℕ → List ℕ → List P → List P → Type 0
Fills k bytes r s s' p p' c c' =
    MatchResult r (λ _. (unpack_fault bytes k.number (length s) (length p) (length c) ≡ None) × TablesWritten k bytes s s' p p' c c') (Refused k bytes s s' p p' c c')
