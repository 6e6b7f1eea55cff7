use Rattle.std.proofs.Common.{◌≡◌, ℕ, ◌<◌, not, ◌&&◌, leb, Some, sym, ap, ◌∙◌, arith}
use Rattle.refusal.specs.declared.Place.TheVariants.{Pin}
use Rattle.refusal.specs.declared.Fault.TheVariants.{NoSuchModule}
use Rattle.moduleset.specs.Words.{has}
use Rattle.refusal.specs.Checks.{checked}
use Rattle.bit_rows.proofs.RowChecked.{row_missing, row_fine}
use Rattle.bit_rows.proofs.pins.check_net.Goals as goal

-- the pins without those at or past the count are those below it
below_count : (modules pins past there : ℕ) → ((k : ℕ) → k < 64 → has past k ≡ leb modules k) → ((k : ℕ) → has there k ≡ (has pins k && not (has past k)))
    → (k : ℕ) → k < 64 → has there k ≡ (has pins k && not (leb modules k))
below_count modules pins past there is_past minus k h = minus k ∙ ap (λ b. has pins k && not b) (is_past k h)

pub returns-then-position-size : goal.returns-then-position-size
returns-then-position-size c =
    let are = below_count c.args.modules c.args.pins.word c.at_or_past.result.word c.minus.result.word c.at_or_past.ensures c.minus.ensures in
    ap (λ (n : ℕ). checked (Some (NoSuchModule (Pin c.args.net n)))) c.size-position.ensures
    ∙ sym (ap checked (row_missing c.args.modules c.args.net c.args.pins.word c.minus.result.word c.requires are (omega arith)))

pub returns : goal.returns
returns c =
    let are = below_count c.args.modules c.args.pins.word c.at_or_past.result.word c.minus.result.word c.at_or_past.ensures c.minus.ensures in
    sym (ap checked (row_fine c.args.modules c.args.net c.args.pins.word c.minus.result.word c.requires are (omega arith)))
