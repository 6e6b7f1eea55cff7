-- Lawful splits of home modules, and which are cheapest.
use Rattle.std.specs.Prelude.{◌≡◌, ℕ, ◌<◌, Bool, true, false, cond, List, [], ◌∷◌, length}
use Rattle.price.specs.Kind.{Kind, NotGreater}
use Rattle.netlist.specs.Nets.{Net}
use Rattle.netlist.specs.Meaning.{Meaning}
use Rattle.netlist.specs.Strapping.{KeepsGroups}
use Rattle.cut.specs.Cuts.{split_price}

-- A side for each home module, and a price.
pub record Split (P : Type 0) : Type 0 where
  pub side : ℕ → Bool
  pub price : P

-- Each board has a home module, and each group of the row is on one board.
pub record Lawful (row : List ℕ) (side : ℕ → Bool) : Type 0 where
  pub some_on_a : (i : ℕ) × (i < length row) × (side i ≡ false)
  pub some_on_b : (i : ℕ) × (i < length row) × (side i ≡ true)
  pub keeps_groups : KeepsGroups row side

-- A lawful split that has its price over the nets, and no lawful split is cheaper.
pub record Cheapest {P : Type 0} (k : Kind P) (row : List ℕ) (nets : List (Net P)) (split : Split P) : Type 0 where
  pub lawful : Lawful row split.side
  pub true_price : split.price ≡ split_price k split.side nets
  pub none_cheaper : (side : ℕ → Bool) → Lawful row side → NotGreater k split.price (split_price k side nets)

-- the nets that are not marked
abbrev pub unmarked : {P : Type 0} → List (Net P) → List Bool → List (Net P)
unmarked [] marks = []
unmarked (net ∷ nets) [] = net ∷ unmarked nets []
unmarked (net ∷ nets) (mark ∷ marks) = cond mark (unmarked nets marks) (net ∷ unmarked nets marks)

-- the home nets that are not muted
abbrev pub unmuted : {P : Type 0} → Meaning P → List (Net P)
unmuted m = unmarked m.nets m.muted

abbrev pub LawfulFor : {P : Type 0} → Meaning P → (ℕ → Bool) → Type 0
LawfulFor m side = Lawful m.places side

-- a split's true price is taken over the home nets that are not muted
abbrev pub CheapestFor : {P : Type 0} → Kind P → Meaning P → Split P → Type 0
CheapestFor k m split = Cheapest k m.places (unmuted m) split
