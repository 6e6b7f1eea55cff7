-- Nets that cross a split, the price of a split, and the pull of a module toward a set.
-- A set of modules is a test of module numbers, and so is a split: those that pass are on side B.
use Rattle.std.specs.Prelude.{ℕ, Bool, cond, not, ◌&&◌, ◌||◌, List, [], ◌∷◌, ◌==◌, nat_eq}
use Rattle.std.specs.List.{list_any, list_all}
use Rattle.price.specs.Kind.{Kind}
use Rattle.netlist.specs.Nets.{Net}

-- v is in the list
abbrev pub has : List ℕ → ℕ → Bool
has list v = list_any (nat_eq v) list

-- a net with these pins has one on each side
abbrev pub crosses : (ℕ → Bool) → List ℕ → Bool
crosses side pins = list_any side pins && list_any (λ p. not (side p)) pins

-- a net with these pins has one at v, one in the set and none elsewhere
abbrev pub pulls : ℕ → (ℕ → Bool) → List ℕ → Bool
pulls v among pins = has pins v && (list_any among pins && list_all (λ p. (p == v) || among p) pins)

-- the prices of the nets whose pins pass the test, joined from zero
abbrev pub total : {P : Type 0} → Kind P → (List ℕ → Bool) → List (Net P) → P
total k test [] = k.zero
total k test (net ∷ nets) = cond (test net.pins) (k.join net.price (total k test nets)) (total k test nets)

abbrev pub split_price : {P : Type 0} → Kind P → (ℕ → Bool) → List (Net P) → P
split_price k side nets = total k (crosses side) nets

abbrev pub pull : {P : Type 0} → Kind P → List (Net P) → ℕ → (ℕ → Bool) → P
pull k nets v among = total k (pulls v among) nets

-- the split that parts off v alone
abbrev pub alone : ℕ → ℕ → Bool
alone v p = p == v
