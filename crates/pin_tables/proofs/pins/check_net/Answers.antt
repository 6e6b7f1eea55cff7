use Rattle.std.proofs.Common.{◌≡◌, ℕ, false, eqb, length, get_or, sym, refl, ap, ◌∙◌, subst, arith}
use Rattle.std.proofs.lemmas.List.{get_or-take, length-take-le}
use Rattle.std.proofs.lemmas.Bool.{ne_eqb}
use Rattle.refusal.specs.Checks.{some_below, checked}
use Rattle.bottom.specs.LoadFaults.{pin_fault, repeats}
use Rattle.refusal.proofs.CheckLaws.{some_none, some_more, first_none, first_more, first_at}
use Rattle.bottom.proofs.FirstFaults.{pin_missing, pin_repeated, pin_fine}
use Rattle.pin_tables.proofs.pins.check_net.Goals as goal

pub positions-init : goal.positions-init
positions-init c = (refl, first_none _)

pub loop-earlier-init : goal.loop-earlier-init
loop-earlier-init c = (c.positions.invariant.0, some_none _)

pub loop-earlier-preserved : goal.loop-earlier-preserved
loop-earlier-preserved c =
    let pins = c.args.pins.now in
    let long = length-take-le c.positions.position pins (omega arith) in
    let read = get_or-take c.positions.position pins c.loop-earlier.earlier-index 0 (omega arith) in (
      c.loop-earlier.invariant.0,
      some_more (λ (j : ℕ). eqb (get_or pins c.positions.position 0) (get_or pins j 0)) c.loop-earlier.earlier-index c.loop-earlier.invariant.1
          (ne_eqb _ _ (λ e. c.if-pin-earlier.false (e ∙ sym read))),
    )

pub positions-preserved : goal.positions-preserved
positions-preserved c =
    let pins = c.args.pins.now in
    let long = length-take-le c.positions.position pins (omega arith) in
    let e : c.loop-earlier.earlier-index ≡ c.positions.position = omega arith in
    let none : repeats pins c.positions.position ≡ false = subst (λ (n : ℕ). some_below (λ (j : ℕ). eqb (get_or pins c.positions.position 0) (get_or pins j 0)) n ≡ false) e c.loop-earlier.invariant.1 in (
      c.loop-earlier.invariant.0,
      first_more (pin_fault c.args.modules c.args.net pins) c.positions.position c.positions.invariant.1
          (pin_fine c.args.modules c.args.net pins c.positions.position c.if-pin-modules.false none),
    )

pub returns-then-pin-modules : goal.returns-then-pin-modules
returns-then-pin-modules c =
    let pins = c.args.pins.now in
    sym (ap checked (first_at (pin_fault c.args.modules c.args.net pins) _ c.positions.position (length pins) c.positions.invariant.1
    (pin_missing c.args.modules c.args.net pins c.positions.position c.if-pin-modules.true) (omega arith)))

pub returns-then-pin-earlier : goal.returns-then-pin-earlier
returns-then-pin-earlier c =
    let pins = c.args.pins.now in
    let long = length-take-le c.positions.position pins (omega arith) in
    let read = get_or-take c.positions.position pins c.loop-earlier.earlier-index 0 (omega arith) in
    sym (ap checked (first_at (pin_fault c.args.modules c.args.net pins) _ c.positions.position (length pins) c.positions.invariant.1
    (pin_repeated c.args.modules c.args.net pins c.positions.position c.loop-earlier.earlier-index c.if-pin-modules.false (omega arith) (c.if-pin-earlier.true ∙ read))
    (omega arith)))
