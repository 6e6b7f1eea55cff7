-- Each start beside the next: what a search over the pairs, and a loop over them, say of the nets.
use Rattle.std.proofs.Common.{◌≡◌, ℕ, ◌+◌, ◌-◌, ◌<◌, ◌≤◌, false, Bor, Iter, List, length, get_or, take, drop, Some, None, Option, Result, ap, refl, ◌∙◌, subst, zero-add, arith, length-drop}
use Rattle.std.specs.declared.iter.Enumerate.{Enumerate}
use Rattle.std.specs.declared.iter.Zip.{Zip}
use Rattle.std.specs.Iterator.{Yields}
use Rattle.std.specs.Iterator.Adapters.{enumerate_steps}
use Rattle.std.specs.List.{zip, enumerate_from, slice_range, AllWithin, HoldsAt}
use Rattle.std.specs.Option.{MatchOption, option_map}
use Rattle.std.proofs.lemmas.List.{get_or-drop, get_or_default, take_all}
use Rattle.std.proofs.lemmas.List.FromFn.{length-enumerate_from, get_or-enumerate_from}
use Rattle.std.proofs.lemmas.Slice.Zip.{length-zip, get_or-zip}
use Rattle.std.proofs.lemmas.Fn.{fronts}
use Rattle.std.proofs.lemmas.Iterator.{zips, YieldsList, YieldsList-from_zip, YieldsList-from_slice}
use Rattle.std.proofs.lemmas.Iterator.Consumers.{YieldsList-from_enumerate, YieldsList-turn, YieldsList-end}
use Rattle.std.proofs.lemmas.Bool.{lt-ltb, le-ltb}
use Rattle.refusal.specs.declared.Place.TheVariants.{Net}
use Rattle.refusal.specs.declared.Fault.{Fault}
use Rattle.refusal.specs.declared.Fault.TheVariants.{TooFewPins}
use Rattle.refusal.specs.Checks.{checked}
use Rattle.bottom.specs.LoadFaults.{few_fault, net_fault}
use Rattle.bottom.proofs.FirstFaults.{few_searched}
use Rattle.pin_tables.specs.Tables.{net_pins, few}

pair : {X Y : Type 0} {a x : X} {b y : Y} → a ≡ x → b ≡ y → ◌≡◌ {A = X × Y} (a, b) (x, y)
pair e f = rw (e, f) refl

module _ (starts : List ℕ) where
  abbrev pub pairs : List (ℕ × ℕ)
  pairs = zip starts (drop 1 starts)

  -- all but the first
  pub tail : take (length starts - 1) (drop 1 starts) ≡ drop 1 starts
  tail = take_all (length starts - 1) (drop 1 starts) (omega (arith, length-drop 1 starts))

  length_pairs : length pairs ≡ length starts - 1
  length_pairs = omega (arith, length-zip starts (drop 1 starts), length-drop 1 starts)

  pair_at : (net : ℕ) → net < length starts - 1 → (d : ℕ × ℕ) → get_or pairs net d ≡ (get_or starts net 0, get_or starts (net + 1) 0)
  pair_at net h d =
      let later : net < length (drop 1 starts) = omega (arith, length-drop 1 starts) in
      get_or-zip starts (drop 1 starts) net d (omega arith) later
      ∙ pair (get_or_default starts net d.0 0 (omega arith)) (get_or_default (drop 1 starts) net d.1 0 later ∙ get_or-drop 1 starts net 0 ∙ ap (λ (i : ℕ). get_or starts i 0) (omega arith))

  -- the net with the pair that stands in turn
  turn : (net : ℕ) (x : ℕ × (ℕ × ℕ)) → net < length (enumerate_from 0 pairs) → x ≡ get_or (enumerate_from 0 pairs) net x
      → (net < length starts - 1) × (x ≡ (net, (get_or starts net 0, get_or starts (net + 1) 0)))
  turn net x h e =
      let here : net < length pairs = omega (arith, length-enumerate_from 0 pairs) in (
        omega (arith, length_pairs),
        e ∙ get_or-enumerate_from 0 pairs net x here ∙ pair (zero-add net) (pair_at net (omega (arith, length_pairs)) x.1),
      )

  turns : length (enumerate_from 0 pairs) ≡ length starts - 1
  turns = length-enumerate_from 0 pairs ∙ length_pairs

  -- a loop over the pairs with their numbers
  module _ (s : Enumerate (Zip (Iter ℕ) (Iter ℕ))) (first : s.iter.a.rest.now ≡ starts) (second : s.iter.b.rest.now ≡ drop 1 starts) (from_zero : s.count ≡ 0) where
    road : YieldsList (enumerate_steps (zips fronts fronts)) (λ p. (p.0, (p.1.0.now, p.1.1.now))) s (enumerate_from 0 pairs)
    road = YieldsList-from_enumerate {s = s} (YieldsList-from_zip (YieldsList-from_slice starts first) (YieldsList-from_slice (drop 1 starts) second)) from_zero

    module _ (yielded : List (ℕ × (Bor ℕ × Bor ℕ))) (t u : Enumerate (Zip (Iter ℕ) (Iter ℕ))) (so_far : Yields (enumerate_steps (zips fronts fronts)) s yielded t) where
      -- what the check of a net tells, it tells of the net that stands in turn
      pub net_in_turn : (x : ℕ × (Bor ℕ × Bor ℕ)) (r : Option (ℕ × (Bor ℕ × Bor ℕ))) → r ≡ Some x → enumerate_steps (zips fronts fronts) t r u
          → (modules : ℕ) (pins : List ℕ) (told : Result (Unit {0}) Fault) → told ≡ checked (net_fault modules x.0 (slice_range pins x.1.0.now x.1.1.now))
          → (length yielded < length starts - 1) × (told ≡ checked (net_fault modules (length yielded) (net_pins starts pins (length yielded))))
      net_in_turn x r is step modules pins told e =
          let now = YieldsList-turn road yielded t so_far r u x is step in
          let at = turn (length yielded) (x.0, (x.1.0.now, x.1.1.now)) now.0 now.1 in
          (at.0, subst (λ (p : ℕ × (ℕ × ℕ)). told ≡ checked (net_fault modules p.0 (slice_range pins p.1.0 p.1.1))) at.1 e)

      -- the loop ends after the last net
      pub nets_in_all : (r : Option (ℕ × (Bor ℕ × Bor ℕ))) → r ≡ None → enumerate_steps (zips fronts fronts) t r u → length yielded ≡ length starts - 1
      nets_in_all r is step = (YieldsList-end road yielded t so_far r u is step).1 ∙ turns

  enough : (net : ℕ) → net < length starts - 1 → (get_or pairs net (0, 0)).0 + 2 ≤ (get_or pairs net (0, 0)).1 → few starts net ≡ false
  enough net h l = let far = rw (pair_at net h (0, 0)) at l in le-ltb _ _ far

  -- the first pair with fewer than two pins between
  pub few_found : (r : Option ℕ)
      → MatchOption r (AllWithin (λ p. p.0 + 2 ≤ p.1) pairs 0 (length pairs))
      (λ net. (net < length pairs) × HoldsAt (λ p. p.1 < p.0 + 2) pairs net × AllWithin (λ p. p.0 + 2 ≤ p.1) pairs 0 net)
      → option_map (λ net. TooFewPins (Net net)) r ≡ few_fault (few starts) (length starts - 1)
  few_found None none = few_searched (few starts) (length starts - 1) None (λ net h. enough net h (none net (0, 0) (omega arith) (omega (arith, length_pairs))))
  few_found (Some found) h =
      let here : found < length starts - 1 = omega (arith, length_pairs, h.0) in
      let short = rw (pair_at found here (0, 0)) at (h.1 (0, 0)) in
      few_searched (few starts) (length starts - 1) (Some found)
      (here, lt-ltb _ _ short, λ net l. enough net (omega arith) (h.2 net (0, 0) (omega arith) l))
