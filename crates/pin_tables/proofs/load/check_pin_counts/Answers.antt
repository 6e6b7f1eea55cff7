use Rattle.std.proofs.Common.{◌+◌, ◌<◌, ◌≤◌, drop, ap, ◌∙◌, rules, tests}
use Rattle.std.proofs.lemmas.Iterator.{IsFirst-from_position, YieldsList-from_zip, YieldsList-from_slice}
use Rattle.refusal.specs.Checks.{checked}
use Rattle.pin_tables.proofs.StartPairs.{tail, few_found}
use Rattle.pin_tables.proofs.load.check_pin_counts.Goals as goal

pub returns : goal.returns
returns c =
    let starts = c.args.starts.now in
    c.check_few_pins.ensures
    ∙ ap checked (few_found starts c.position.result
    (IsFirst-from_position c.position.new.self _ c.position.result (λ p. p.1 < p.0 + 2) (λ p. p.0 + 2 ≤ p.1) c.position.ensures.ran
    (YieldsList-from_zip {s = c.zip-nets.result} (YieldsList-from_slice starts (cc)) (YieldsList-from_slice (drop 1 starts) (c.zip-nets.ensures.second.0 ∙ tail starts)))
    (λ x q k. search (rules, tests)) (λ x q k. search (rules, tests))))
