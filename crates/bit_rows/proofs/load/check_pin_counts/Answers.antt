use Rattle.std.proofs.Common.{◌<◌, ◌≤◌, length, ap, ◌∙◌, rules, tests}
use Rattle.std.proofs.lemmas.Iterator.{IsFirst-from_position, YieldsList-from_slice}
use Rattle.moduleset.specs.Words.{members}
use Rattle.refusal.specs.Checks.{checked}
use Rattle.bit_rows.proofs.RowChecked.{few_found}
use Rattle.bit_rows.proofs.load.check_pin_counts.Goals as goal

pub returns : goal.returns
returns c =
    c.check_few_pins.ensures
    ∙ ap checked (few_found c.args.rows.now c.position.result
    (IsFirst-from_position c.position.new.self _ c.position.result (λ w. length (members w) < 2) (λ w. 2 ≤ length (members w)) c.position.ensures.ran
    (YieldsList-from_slice c.args.rows.now (cc)) (λ x q k. search (rules, tests)) (λ x q k. search (rules, tests))))
