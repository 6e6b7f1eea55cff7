-- Laws of the checks of loaded pins.
use Rattle.std.proofs.Common.{◌≡◌, ℕ, ◌<◌, ◌≤◌, Bool, true, false, eqb, leb, List, length, get_or, Some, None, Ok, Option, sym, arith}
use Rattle.std.proofs.lemmas.Bool.{leb-false, ltb-false, eqb-false, le-leb, lt-leb, eq-eqb}
use Rattle.refusal.specs.declared.Place.TheVariants.{Net, Pin}
use Rattle.refusal.specs.declared.Fault.TheVariants.{TooFewPins, NoSuchModule, RepeatedPin}
use Rattle.std.specs.Option.{MatchOption, option_map}
use Rattle.refusal.specs.Checks.{checked}
use Rattle.bottom.specs.LoadFaults.{repeats, counts_fault, few_fault, pin_fault, net_fault, pins_fault}
use Rattle.bottom.specs.Fitting.{PinsThere, FewPins}
use Rattle.refusal.proofs.CheckLaws.{accepted, option_or_none, then_some_none, then_some_true, then_some_false, none_at, first_of_none, first_at, some_at, not_some}
use Rattle.bottom.proofs.Distinct.{distinct_few}

-- the first net with too few pins, by a search for it
pub few_searched : (few : ℕ → Bool) (nets : ℕ) (r : Option ℕ)
    → MatchOption r ((net : ℕ) → net < nets → few net ≡ false) (λ found. (found < nets) × (few found ≡ true) × ((net : ℕ) → net < found → few net ≡ false))
    → option_map (λ net. TooFewPins (Net net)) r ≡ few_fault few nets
few_searched few nets None none = sym (first_of_none _ nets (λ net h. then_some_false _ _ (none net h)))
few_searched few nets (Some found) h =
    sym (first_at _ _ found nets (first_of_none _ found (λ net l. then_some_false _ _ (h.2 net l))) (then_some_true _ _ h.1) h.0)

-- what one pin's check finds
module _ (modules net : ℕ) (pins : List ℕ) (position : ℕ) where
  pub pin_missing : modules ≤ get_or pins position 0 → pin_fault modules net pins position ≡ Some (NoSuchModule (Pin net position))
  pin_missing h = rw (le-leb modules (get_or pins position 0) h)

  pub pin_repeated : (earlier : ℕ) → get_or pins position 0 < modules → earlier < position → get_or pins position 0 ≡ get_or pins earlier 0
      → pin_fault modules net pins position ≡ Some (RepeatedPin (Pin net position))
  pin_repeated earlier h l e =
      rw (lt-leb modules (get_or pins position 0) h, some_at (λ j. eqb (get_or pins position 0) (get_or pins j 0)) earlier position (eq-eqb _ _ e) l)

  pub pin_fine : get_or pins position 0 < modules → repeats pins position ≡ false → pin_fault modules net pins position ≡ None
  pin_fine h e = rw (lt-leb modules (get_or pins position 0) h, e)

pub counts_accepted : (x : Unit {0}) (modules nets : ℕ) → Ok x ≡ checked (counts_fault modules nets) → (modules ≤ 64) × (nets ≤ 1024)
counts_accepted x modules nets e =
    let both = option_or_none _ _ (accepted x (counts_fault modules nets) e) in
    (ltb-false 64 modules (then_some_none _ _ both.0), ltb-false 1024 nets (then_some_none _ _ both.1))

-- what is known of pins that pass
module _ (modules net : ℕ) (pins : List ℕ) (passed : net_fault modules net pins ≡ None) where
  pin_passed : (position : ℕ) → position < length pins → (leb modules (get_or pins position 0) ≡ false) × (repeats pins position ≡ false)
  pin_passed position h =
      let both = option_or_none _ _ (none_at (pin_fault modules net pins) position (length pins) passed h) in
      (then_some_none _ _ both.0, then_some_none _ _ both.1)

  pub passed_there : (position : ℕ) → position < length pins → get_or pins position 0 < modules
  passed_there position h = leb-false modules _ (pin_passed position h).0

  passed_apart : (i j : ℕ) → i < j → j < length pins → get_or pins j 0 ≡ get_or pins i 0 → ⊥
  passed_apart i j l h = eqb-false _ _ (not_some (λ earlier. eqb (get_or pins j 0) (get_or pins earlier 0)) i j (pin_passed j h).1 l)

  -- distinct modules below the count are no more than the count
  pub passed_few : length pins ≤ modules
  passed_few = distinct_few modules pins passed_there passed_apart

module _ (modules : ℕ) (pins : ℕ → List ℕ) (nets : ℕ) (passed : pins_fault modules pins nets ≡ None) where
  net_passed : (net : ℕ) → net < nets → net_fault modules net (pins net) ≡ None
  net_passed net h = none_at (λ n. net_fault modules n (pins n)) net nets passed h

  pub pins_there : PinsThere modules pins nets
  pins_there net position h l = passed_there modules net (pins net) (net_passed net h) position l

  pub few_pins : modules ≤ 64 → FewPins pins nets
  few_pins m net h = omega (arith, passed_few modules net (pins net) (net_passed net h))
