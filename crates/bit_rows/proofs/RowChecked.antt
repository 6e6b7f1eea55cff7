-- The first fault of a row: the pins below the count come first, and none repeats.
use Rattle.std.proofs.Common.{◌≡◌, ℕ, ◌+◌, ◌-◌, ◌<◌, ◌≤◌, false, not, ◌&&◌, eqb, leb, List, length, get_or, Some, None, Option, refl, ap, ◌∙◌, subst, arith}
use Rattle.std.specs.List.{AllWithin, HoldsAt}
use Rattle.std.specs.Option.{MatchOption, option_map}
use Rattle.std.proofs.ByRecursion.{All-get_or}
use Rattle.std.proofs.lemmas.List.{length-append, get_or_append_left, get_or-append_right}
use Rattle.std.proofs.lemmas.Bool.{ne_eqb, lt-ltb, le-ltb}
use Rattle.refusal.specs.declared.Place.TheVariants.{Net, Pin}
use Rattle.refusal.specs.declared.Fault.TheVariants.{TooFewPins, NoSuchModule}
use Rattle.moduleset.specs.Words.{has, members}
use Rattle.moduleset.proofs.Members.{members_rise, members_front}
use Rattle.refusal.specs.Checks.{first_fault}
use Rattle.bottom.specs.LoadFaults.{few_fault, pin_fault, net_fault, repeats}
use Rattle.refusal.proofs.CheckLaws.{some_of_none, first_of_none, first_at}
use Rattle.bottom.proofs.FirstFaults.{few_searched, pin_missing, pin_fine}
use Rattle.bit_rows.specs.Rows.{few}

-- rising pins do not repeat
no_repeat : (w position : ℕ) → position < length (members w) → repeats (members w) position ≡ false
no_repeat w position h =
    some_of_none (λ (j : ℕ). eqb (get_or (members w) position 0) (get_or (members w) j 0)) position
    (λ j l. ne_eqb _ _ (λ e. omega (arith, members_rise w j position l h)))

-- there are the pins of w that are below the count
module _ (modules net w there : ℕ) (small : modules ≤ 64) (are : (k : ℕ) → k < 64 → has there k ≡ (has w k && not (leb modules k))) where
  below : (position : ℕ) → position < length (members there) → get_or (members w) position 0 < modules
  below position h =
      let f = members_front w there modules small are in
      let e = ap (λ xs. get_or xs position 0) f.1 ∙ get_or_append_left (members there) f.0 0 position h in
      omega (arith, All-get_or (λ k. k < modules) (members there) position 0 h f.2)

  past : length (members there) < length (members w) → modules ≤ get_or (members w) (length (members there)) 0
  past h =
      let f = members_front w there modules small are in
      let n = length (members there) in
      let l : length (members w) ≡ n + length f.0 = ap length f.1 ∙ length-append (members there) f.0 in
      let e = ap (λ xs. get_or xs n 0) f.1 ∙ get_or-append_right (members there) f.0 n n 0 refl (omega arith) in
      omega (arith, All-get_or (λ k. modules ≤ k) f.0 (n - n) 0 (omega arith) f.3)

  no_more : length (members there) ≤ length (members w)
  no_more = let f = members_front w there modules small are in omega (arith, ap length f.1, length-append (members there) f.0)

  none_before : first_fault (pin_fault modules net (members w)) (length (members there)) ≡ None
  none_before =
      first_of_none (pin_fault modules net (members w)) (length (members there))
      (λ i h. pin_fine modules net (members w) i (below i h) (no_repeat w i (omega (arith, no_more))))

  pub row_missing : length (members there) < length (members w) → net_fault modules net (members w) ≡ Some (NoSuchModule (Pin net (length (members there))))
  row_missing h =
      first_at (pin_fault modules net (members w)) _ (length (members there)) (length (members w)) none_before
      (pin_missing modules net (members w) (length (members there)) (past h)) h

  pub row_fine : length (members w) ≤ length (members there) → net_fault modules net (members w) ≡ None
  row_fine h = let e : length (members there) ≡ length (members w) = omega (arith, no_more) in subst (λ (n : ℕ). first_fault (pin_fault modules net (members w)) n ≡ None) e none_before

-- the first row with fewer than two pins
pub few_found : (rows : List ℕ) (r : Option ℕ)
    → MatchOption r (AllWithin (λ w. 2 ≤ length (members w)) rows 0 (length rows))
    (λ net. (net < length rows) × HoldsAt (λ w. length (members w) < 2) rows net × AllWithin (λ w. 2 ≤ length (members w)) rows 0 net)
    → option_map (λ net. TooFewPins (Net net)) r ≡ few_fault (few rows) (length rows)
few_found rows None none = few_searched (few rows) (length rows) None (λ net h. le-ltb _ _ (none net 0 (omega arith) h))
few_found rows (Some found) h =
    few_searched (few rows) (length rows) (Some found) (h.0, lt-ltb _ _ (h.1 0), λ net l. le-ltb _ _ (h.2 net 0 (omega arith) l))
