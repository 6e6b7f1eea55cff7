-- The place that uniting two groups gives, case by case.
use Rattle.std.proofs.Common.{◌≡◌, ℕ, suc, pred, ◌<◌, ◌≤◌, max, cond, ltb, ◌⊎◌, arith}
use Rattle.std.proofs.lemmas.Bool.Decides.{nat_tests}
use Rattle.netlist.specs.Changes.{united_place}

pub united_same : (a b : ℕ) → united_place a b a ≡ united_place a b b
united_same a b = grind (arith, nat_tests)

pub united_below : (a b g p : ℕ) → a < suc g → b < suc g → (a ≡ b → ⊥) → p < suc g → united_place a b p < g
united_below a b g p i j d h = grind (arith, nat_tests)

-- only the places a and b fall together
pub united_apart : (a b p q : ℕ) → (a ≡ b → ⊥) → united_place a b p ≡ united_place a b q → (p ≡ q) ⊎ (((p ≡ a) ⊎ (p ≡ b)) × ((q ≡ a) ⊎ (q ≡ b)))
united_apart a b p q d h = grind (arith, nat_tests)

-- how many of the first t groups are left once a and b are one
abbrev pub left_of : ℕ → ℕ → ℕ → ℕ
left_of a b t = cond (ltb (max a b) t) (pred t) t

pub left_of_none : (a b : ℕ) → left_of a b 0 ≡ 0
left_of_none a b = grind (arith, nat_tests)

pub left_of_all : (a b g : ℕ) → a < g → b < g → suc (left_of a b g) ≡ g
left_of_all a b g i j = grind (arith, nat_tests)

pub united_in_turn : (a b t p : ℕ) → (a ≡ b → ⊥) → p ≤ t → united_place a b p ≤ left_of a b t
united_in_turn a b t p d h = grind (arith, nat_tests)

pub left_of_more : (a b t p : ℕ) → (a ≡ b → ⊥) → p ≤ t → max (suc (united_place a b p)) (left_of a b t) ≡ left_of a b (max (suc p) t)
left_of_more a b t p d h = grind (arith, nat_tests)
