-- What loaded bit rows mean.
use Rattle.moduleset.proofs.Members.{few_members}
use Rattle.netlist.specs.Meaning.{Meaning, Sound}
use Rattle.bottom.specs.Fitting.{bottom_sound}
use Rattle.bit_rows.specs.declared.BitRows.{BitRows}
use Rattle.bit_rows.specs.Rows.{row_pins, rows_meaning}

abbrev pub means : {P : Type 0} → BitRows P → Meaning P
means b = rows_meaning b.modules b.rows.now b.prices.now

pub means_sound : {P : Type 0} (b : BitRows P) → Sound (means b)
means_sound b = bottom_sound b.modules (row_pins b.rows.now) b.prices.now b.counted.0 b.counted.1 (λ net h. few_members _) b.there
