-- Loading the tables that a page was unpacked into.
use Rattle.std.specs.Prelude.{◌≡◌, ℕ, ◌+◌, List, length, take, Ok, Option, Result}
use Rattle.std.specs.Option.{option_or}
use Rattle.refusal.specs.declared.Fault.{Fault}
use Rattle.price.specs.Kind.{Kind}
use Rattle.netlist.specs.Meaning.{Meaning}
use Rattle.bottom.specs.BottomMeaning.{bottom_meaning}
use Rattle.bottom.specs.LoadFaults.{counts_fault}
use Rattle.pin_tables.specs.Tables.{tables_fault, tables_meaning}
use Rattle.page.specs.declared.counts.Counts.{Counts}
use Rattle.page.specs.Layout.{modules_field, nets_field, pin_count, net_bit, net_pins, prices_table}
use Rattle.page.specs.Faults.{room_fault}
use Rattle.page.specs.Unpacking.{Filled}

-- the first fault where the first entries of tables are loaded, as many as are counted: too many modules or nets, a table that is too short, those entries' own
abbrev pub counted_fault : {P : Type 0} → Counts → List ℕ → List ℕ → List P → Option Fault
counted_fault n starts pins prices =
    option_or (counts_fault n.modules n.nets)
    (option_or (room_fault n.nets n.pins (length starts) (length pins) (length prices))
    (tables_fault n.modules (take (n.nets + 1) starts) (take n.pins pins) n.nets))

abbrev pub counted_meaning : {P : Type 0} → Counts → List ℕ → List ℕ → List P → Meaning P
counted_meaning n starts pins prices = tables_meaning n.modules (take (n.nets + 1) starts) (take n.pins pins) (take n.nets prices)

-- the netlist of a page: its modules, and its nets with their pins and prices
abbrev pub page_meaning : {P : Type 0} → Kind P → List ℕ → Meaning P
page_meaning k bytes = bottom_meaning (modules_field bytes) (λ i. net_pins bytes (net_bit bytes i) (pin_count bytes (net_bit bytes i))) (prices_table bytes k (nets_field bytes))

-- Where unpacking some page has filled the tables, whatever they held before, loading is accepted and means the page's netlist.
abbrev pub LoadsPages : {P : Type 0} → Kind P → Counts → List ℕ → List ℕ → List P → Meaning P → Result (Unit {0}) Fault → Type 0
LoadsPages {P} k n starts pins prices meant r =
    (bytes s p : List ℕ) (c : List P) → Filled k bytes s starts p pins c prices n → (r ≡ Ok tt) × (meant ≡ page_meaning k bytes)
