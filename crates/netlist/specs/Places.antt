-- Rows of places: a row has for each home module the number of its group.
use Rattle.std.specs.Prelude.{ℕ, suc, ◌≤◌, max, List, [], ◌∷◌, map, slice_index}
use Rattle.netlist.specs.Nets.{Net}

-- the place of home module i
abbrev pub place : List ℕ → ℕ → ℕ
place row i = slice_index row i

-- how many groups there are: one more than the greatest place
abbrev pub groups : List ℕ → ℕ
groups [] = 0
groups (p ∷ ps) = max (suc p) (groups ps)

-- The groups are numbered by their lowest home module: with t groups named before, each place is at most one more than the greatest before it.
abbrev pub Numbered : ℕ → List ℕ → Type 0
Numbered t [] = Unit {0}
Numbered t (p ∷ ps) = (p ≤ t) × Numbered (max (suc p) t) ps

-- the nets with each pin replaced by its place
abbrev pub placed : {P : Type 0} → List ℕ → List (Net P) → List (Net P)
placed row nets = map (λ net. record { price = net.price; pins = map (place row) net.pins }) nets
