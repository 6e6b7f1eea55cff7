-- Laws of pins and nets: how the checks of one pin or one net come out.
use Rattle.std.proofs.Common.{◌≡◌, ℕ, ◌<◌, ◌≤◌, Bool, true, false, not, eqb, ltb, List, length, get_or, Some, None, sym, ◌∙◌, zero-add, arith}
use Rattle.std.specs.Bool.{MatchBool, then_some}
use Rattle.std.specs.List.{range_with_len, AllWithin, HoldsAt}
use Rattle.std.proofs.lemmas.List.FromFn.{length-range_with_len, get_or-range_with_len}
use Rattle.std.proofs.lemmas.Bool.{lt-ltb, le-ltb, ltb-true, eq-eqb, ne_eqb, eqb-false, not-false}
use Rattle.refusal.specs.declared.Place.TheVariants.{Bit}
use Rattle.refusal.specs.declared.Fault.{Fault}
use Rattle.refusal.specs.declared.Fault.TheVariants.{NoSuchModule, RepeatedPin, TooFewPins}
use Rattle.page.specs.Layout.{pin, pin_bit, pin_count, price_bit}
use Rattle.refusal.specs.Checks.{first_fault}
use Rattle.refusal.proofs.CheckLaws.{some_of_none, some_at, not_some, option_or_none, then_some_none}
use Rattle.page.specs.Faults.{among, ends, pin_fault, net_fault}

module _ (bytes : List ℕ) (at : ℕ) where
  none_among : (v n : ℕ) → ((k : ℕ) → k < n → pin bytes at k ≡ v → ⊥) → among bytes at v n ≡ false
  none_among v n f = some_of_none (λ k. eqb (pin bytes at k) v) n (λ k h. ne_eqb (pin bytes at k) v (f k h))

  among_at : (v n m : ℕ) → pin bytes at n ≡ v → n < m → among bytes at v m ≡ true
  among_at v n m e l = some_at (λ k. eqb (pin bytes at k) v) n m (eq-eqb (pin bytes at n) v e) l

  -- what a search over the first pins finds
  pub among_searched : (v n : ℕ) (r : Bool)
      → MatchBool r ((k : ℕ) × (k < length (range_with_len 0 n)) × HoldsAt (λ i. pin bytes at i ≡ v) (range_with_len 0 n) k)
      (AllWithin (λ i. pin bytes at i ≡ v → ⊥) (range_with_len 0 n) 0 (length (range_with_len 0 n)))
      → r ≡ among bytes at v n
  among_searched v n true (k, h, e) =
      let l = length-range_with_len 0 n in
      let i : get_or (range_with_len 0 n) k 0 ≡ k = get_or-range_with_len 0 n k 0 (omega arith) ∙ zero-add k in
      sym (among_at v k n (rw i at (e 0)) (omega arith))
  among_searched v n false f =
      let l = length-range_with_len 0 n in
      sym (none_among v n (λ k h. let i : get_or (range_with_len 0 n) k 0 ≡ k = get_or-range_with_len 0 n k 0 h ∙ zero-add k in rw i at (f k 0 (omega arith) (omega arith))))

  module _ (modules : ℕ) where
    pub pin_passes : (k : ℕ) → ends bytes (pin_bit at k) 6 ≡ None → pin bytes at k < modules → among bytes at (pin bytes at k) k ≡ false → pin_fault bytes modules at k ≡ None
    unfolding pin_fault
    pin_passes k p h q = rw (p, lt-ltb (pin bytes at k) modules h, q)

    -- A pin that passes is one of the modules, and none of those before it.
    pub passed : (k : ℕ) → pin_fault bytes modules at k ≡ None → (pin bytes at k < modules) × ((e : ℕ) → e < k → pin bytes at e ≡ pin bytes at k → ⊥)
    unfolding pin_fault
    passed k p =
        let whole = option_or_none (ends bytes (pin_bit at k) 6) _ p in
        let there = option_or_none (then_some (not (ltb (pin bytes at k) modules)) (NoSuchModule (Bit (pin_bit at k)))) _ whole.1 in (
          ltb-true (pin bytes at k) modules (not-false _ (then_some_none _ (NoSuchModule (Bit (pin_bit at k))) there.0)),
          λ e before. eqb-false _ _ (not_some (λ j. eqb (pin bytes at j) (pin bytes at k)) e k (then_some_none _ (RepeatedPin (Bit (pin_bit at k))) there.1) before),
        )

    pub pin_ends : (k : ℕ) (e : Fault) → ends bytes (pin_bit at k) 6 ≡ Some e → pin_fault bytes modules at k ≡ Some e
    unfolding pin_fault
    pin_ends k e p = rw p

    pub pin_unknown : (k : ℕ) → ends bytes (pin_bit at k) 6 ≡ None → modules ≤ pin bytes at k → pin_fault bytes modules at k ≡ Some (NoSuchModule (Bit (pin_bit at k)))
    unfolding pin_fault
    pin_unknown k p h = rw (p, le-ltb (pin bytes at k) modules h)

    pub pin_repeats : (k : ℕ) → ends bytes (pin_bit at k) 6 ≡ None → pin bytes at k < modules → among bytes at (pin bytes at k) k ≡ true → pin_fault bytes modules at k ≡ Some (RepeatedPin (Bit (pin_bit at k)))
    unfolding pin_fault
    pin_repeats k p h q = rw (p, lt-ltb (pin bytes at k) modules h, q)

    pub net_ends : (e : Fault) → ends bytes at 7 ≡ Some e → net_fault bytes modules at ≡ Some e
    unfolding net_fault
    net_ends e p = rw p

    pub net_few : ends bytes at 7 ≡ None → pin_count bytes at < 2 → net_fault bytes modules at ≡ Some (TooFewPins (Bit at))
    unfolding net_fault
    net_few p h = rw (p, lt-ltb (pin_count bytes at) 2 h)

    pub net_pin : (e : Fault) → ends bytes at 7 ≡ None → 2 ≤ pin_count bytes at → first_fault (pin_fault bytes modules at) (pin_count bytes at) ≡ Some e → net_fault bytes modules at ≡ Some e
    unfolding net_fault
    net_pin e p h q = rw (p, le-ltb (pin_count bytes at) 2 h, q)

    -- with a count and pins that pass, the net's fault is its price field's
    pub net_price : ends bytes at 7 ≡ None → 2 ≤ pin_count bytes at → first_fault (pin_fault bytes modules at) (pin_count bytes at) ≡ None → net_fault bytes modules at ≡ ends bytes (price_bit bytes at) 32
    unfolding net_fault
    net_price p h q = rw (p, le-ltb (pin_count bytes at) 2 h, q)
