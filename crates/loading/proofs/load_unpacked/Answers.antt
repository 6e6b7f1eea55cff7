use Rattle.std.proofs.Common.{◌∙◌}
use Rattle.std.proofs.lemmas.Slice.{between_from_start}
use Rattle.std.proofs.lemmas.Result.{err_from_is_err_and}
use Rattle.refusal.specs.declared.Fault.TheVariants.{TooShort}
use Rattle.refusal.proofs.CheckLaws.{or_some, accepted, refused}
use Rattle.pin_tables.specs.Means.{means}
use Rattle.loading.proofs.PageLoads.{pages_load, fault_told, starts_short, pins_short, prices_short, counted_loads, past_end}
use Rattle.loading.proofs.load_unpacked.Goals as goal

pub returns-in_err-check_counts : goal.returns-in_err-check_counts
returns-in_err-check_counts g c =
    let n = c.args.counts in
    let starts = c.args.starts.now in
    let pins = c.args.pins.now in
    let prices = c.args.prices.now in
    let p = err_from_is_err_and c.from_residual.result c.from_residual.ensures.1 in
    let told = fault_told n starts pins prices g.P.Price.kind means c.args.tables.now c.from_residual.result _
    (or_some _ (refused _ _ c.in_err-check_counts.ensures))
    (cc (p.1, p.2)) in
    record { loads = told.0; pages = told.1 }

pub returns-in_err-starts : goal.returns-in_err-starts
returns-in_err-starts g c =
    let n = c.args.counts in
    let starts = c.args.starts.now in
    let pins = c.args.pins.now in
    let prices = c.args.prices.now in
    let few = accepted tt _ c.in_ok-check_counts.ensures in
    let p = err_from_is_err_and c.from_residual-in_err-starts.result c.from_residual-in_err-starts.ensures.1 in
    let told = fault_told n starts pins prices g.P.Price.kind means c.args.tables.now c.from_residual-in_err-starts.result (TooShort 1)
    (starts_short n starts pins prices few (past_end (rw c.in_err-starts.ensures.ok_part at c.get.ensures.lookup.0)))
    (cc (p.1, p.2, rw c.in_err-starts.ensures.ok_part at c.in_err-starts.ensures.value)) in
    record { loads = told.0; pages = told.1 }

pub returns-in_err-pins : goal.returns-in_err-pins
returns-in_err-pins g c =
    let n = c.args.counts in
    let starts = c.args.starts.now in
    let pins = c.args.pins.now in
    let prices = c.args.prices.now in
    let few = accepted tt _ c.in_ok-check_counts.ensures in
    let found_starts = rw c.in_ok-starts.ensures.ok_part at c.get.ensures.lookup.0 in
    let p = err_from_is_err_and c.from_residual-in_err-pins.result c.from_residual-in_err-pins.ensures.1 in
    let told = fault_told n starts pins prices g.P.Price.kind means c.args.tables.now c.from_residual-in_err-pins.result (TooShort 2)
    (pins_short n starts pins prices few found_starts.1 (past_end (rw c.in_err-pins.ensures.ok_part at c.get-2.ensures.lookup.0)))
    (cc (p.1, p.2, rw c.in_err-pins.ensures.ok_part at c.in_err-pins.ensures.value)) in
    record { loads = told.0; pages = told.1 }

pub returns-in_err-prices : goal.returns-in_err-prices
returns-in_err-prices g c =
    let n = c.args.counts in
    let starts = c.args.starts.now in
    let pins = c.args.pins.now in
    let prices = c.args.prices.now in
    let few = accepted tt _ c.in_ok-check_counts.ensures in
    let found_starts = rw c.in_ok-starts.ensures.ok_part at c.get.ensures.lookup.0 in
    let found_pins = rw c.in_ok-pins.ensures.ok_part at c.get-2.ensures.lookup.0 in
    let p = err_from_is_err_and c.from_residual-in_err-prices.result c.from_residual-in_err-prices.ensures.1 in
    let told = fault_told n starts pins prices g.P.Price.kind means c.args.tables.now c.from_residual-in_err-prices.result (TooShort 3)
    (prices_short n starts pins prices few found_starts.1 found_pins.1 (past_end (rw c.in_err-prices.ensures.ok_part at c.get-3.ensures.lookup.0)))
    (cc (p.1, p.2, rw c.in_err-prices.ensures.ok_part at c.in_err-prices.ensures.value)) in
    record { loads = told.0; pages = told.1 }

pub returns : goal.returns
returns g c =
    let n = c.args.counts in
    let starts = c.args.starts.now in
    let pins = c.args.pins.now in
    let prices = c.args.prices.now in
    let few = accepted tt _ c.in_ok-check_counts.ensures in
    let a = rw c.in_ok-starts.ensures.ok_part at c.get.ensures.lookup.0 in
    let b = rw c.in_ok-pins.ensures.ok_part at c.get-2.ensures.lookup.0 in
    let d = rw c.in_ok-prices.ensures.ok_part at c.get-3.ensures.lookup.0 in
    let loads = counted_loads n starts pins prices few means c.args.tables.now c.load.new.self c.load.result _ _ _ a.1 b.1 d.1
    (a.2 ∙ between_from_start starts _) (b.2 ∙ between_from_start pins _) (d.2 ∙ between_from_start prices _) c.load.ensures in
    record { loads = loads; pages = pages_load g.P.Price.kind means n starts pins prices c.args.tables.now c.load.new.self c.load.result loads }
