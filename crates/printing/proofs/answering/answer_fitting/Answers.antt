use Rattle.std.proofs.Common.{◌≡◌, Some, None, sym, ◌∙◌}
use Rattle.page.specs.Unpacking.{Filled}
use Rattle.printing.proofs.Answered.{script_answered}
use Rattle.printing.proofs.answering.answer_fitting.Goals as goal

-- there is room, and the page is of the kind
pub returns-in_err-fill : goal.returns-in_err-fill
returns-in_err-fill g c = absurd (let told : Some c.in_err-fill.field-0.0 ≡ None = sym c.in_err-fill.ensures.told ∙ c.requires.fine in cc)

pub returns : goal.returns
returns g c =
    let page = c.args.page.now in
    let starts = c.args.starts.now in
    let pins = c.args.pins.now in
    let prices = c.args.prices.now in
    let fill = c.in_ok-fill.ensures in
    let filled : Filled g.P.Price.kind page.bytes.now starts c.fill.new.starts pins c.fill.new.pins prices c.fill.new.prices page.counts =
    record { no_fault = fill.0; counted = page.counted; written = fill.1 } in
    script_answered g.P.Price.kind page.bytes.now c.args.script.now starts pins prices c.args.cells.now c.args.out.now fill.0 _ _ _ _ _ _ page.counts
    c.requires.room filled (c.answer_script.ensures page.bytes.now starts pins prices filled)
