-- What loaded pin tables mean.
use Rattle.netlist.specs.Meaning.{Meaning, Sound}
use Rattle.bottom.specs.Fitting.{bottom_sound}
use Rattle.pin_tables.specs.declared.PinTables.{PinTables}
use Rattle.pin_tables.specs.Tables.{net_pins, tables_meaning}

abbrev pub means : {P : Type 0} → PinTables P → Meaning P
means t = tables_meaning t.modules t.starts.now t.pins.now t.prices.now

pub means_sound : {P : Type 0} (t : PinTables P) → Sound (means t)
means_sound t = bottom_sound t.modules (net_pins t.starts.now t.pins.now) t.prices.now t.counted.0 t.counted.1 t.short t.there
