-- Rows that number the groups of a netlist's modules, and what such a row makes of the places below.
use Rattle.std.specs.Prelude.{◌≡◌, ℕ, zero, suc, ◌+◌, ◌<◌, ◌≤◌, max, List, [], ◌∷◌, map, length, take}
use Rattle.std.proofs.Common.{ap, subst, ◌∙◌, inl, inr, arith, eq-or-lt_of_le}
use Rattle.std.specs.List.{AllByRecursion}
use Rattle.netlist.specs.Places.{place, groups, Numbered}

-- each module's group is at most one more than the greatest before it
abbrev pub InTurn : List ℕ → Type 0
InTurn row = (i : ℕ) → i < length row → place row i ≤ groups (take i row)

-- the places of the home modules once each module below is replaced by its group
abbrev pub regrouped : List ℕ → List ℕ → List ℕ
regrouped row places = map (place row) places

-- one module more
pub groups_more : (row : List ℕ) (k : ℕ) → k < length row → groups (take (suc k) row) ≡ max (suc (place row k)) (groups (take k row))
groups_more [] k h = absurd (omega arith)
groups_more (p ∷ ps) zero h = omega arith
groups_more (p ∷ ps) (suc k) h = omega (arith, groups_more ps k (omega arith))

below_groups : (row : List ℕ) (k i : ℕ) → i < k → i < length row → place row i < groups (take k row)
below_groups [] k i h l = absurd (omega arith)
below_groups (p ∷ ps) zero i h l = absurd (omega arith)
below_groups (p ∷ ps) (suc k) zero h l = omega arith
below_groups (p ∷ ps) (suc k) (suc i) h l = omega (arith, below_groups ps k i (omega arith) (omega arith))

-- a place that comes in turn after t others: how many groups its row then has
pub groups_in_turn : (row : List ℕ) (t p : ℕ) → p ≤ t → p < length row → groups (take (max (suc p) t) row) ≡ max (suc (place row p)) (groups (take t row))
groups_in_turn row t p h l =
    elim (eq-or-lt_of_le h) [
      | inl e ↦
          let new : max (suc p) t ≡ suc p = omega arith in
          ap (λ j. groups (take j row)) new ∙ groups_more row p l ∙ ap (λ j. max (suc (place row p)) (groups (take j row))) e
      | inr before ↦
          let old : max (suc p) t ≡ t = omega arith in
          let low : place row p < groups (take t row) = below_groups row t p before l in
          ap (λ j. groups (take j row)) old ∙ omega arith
    ]

place_in_turn : (row : List ℕ) (t p : ℕ) → InTurn row → p ≤ t → p < length row → place row p ≤ groups (take t row)
place_in_turn row t p turn h l =
    elim (eq-or-lt_of_le h) [
      | inl e ↦ subst (λ j. place row p ≤ groups (take j row)) e (turn p l)
      | inr before ↦ omega (arith, below_groups row t p before l)
    ]

-- numbering composes
pub regrouped_numbered : (row : List ℕ) → InTurn row → (places : List ℕ) (t : ℕ) → AllByRecursion (λ p. p < length row) places → Numbered t places
    → Numbered (groups (take t row)) (regrouped row places)
regrouped_numbered row turn [] t inside w = tt
regrouped_numbered row turn (p ∷ ps) t inside w = (
  place_in_turn row t p turn w.0 inside.0,
  subst (λ j. Numbered j (regrouped row ps)) (groups_in_turn row t p w.0 inside.0) (regrouped_numbered row turn ps (max (suc p) t) inside.1 w.1),
)

-- with t groups named before, each place is below the sum of t and the number of places
pub places_few : (places : List ℕ) (t n : ℕ) → t + length places ≤ n → Numbered t places → AllByRecursion (λ p. p < n) places
places_few [] t n few w = tt
places_few (p ∷ ps) t n few w = let low = w.0 in (omega arith, places_few ps (max (suc p) t) n (omega arith) w.1)
