-- What uniting two groups does, as relations between home modules, and that a numbering by lowest home module is the only one.
use Rattle.std.specs.Prelude.{◌≡◌, ℕ, suc, ◌<◌, ◌⊎◌, List, length, ◌≢◌}
use Rattle.netlist.specs.Places.{place, groups, Numbered}
use Rattle.netlist.specs.Changes.{united}

-- home module i is in group a or in group b
abbrev pub InEither : ℕ → ℕ → List ℕ → ℕ → Type 0
InEither a b row i = (place row i ≡ a) ⊎ (place row i ≡ b)

-- Two home modules share a group of the new row exactly when they shared one before or each was in one of the two;
-- the new row has one group fewer, numbered by lowest home module.
pub record United (a b : ℕ) (row new : List ℕ) : Type 0 where
  pub as_long : length new ≡ length row
  pub numbered : Numbered 0 new
  pub one_fewer : suc (groups new) ≡ groups row
  pub kept : (i j : ℕ) → i < length row → j < length row → place row i ≡ place row j → place new i ≡ place new j
  pub joined : (i j : ℕ) → i < length row → j < length row → InEither a b row i → InEither a b row j → place new i ≡ place new j
  pub no_others : (i j : ℕ) → i < length row → j < length row → place new i ≡ place new j
      → (place row i ≡ place row j) ⊎ (InEither a b row i × InEither a b row j)

abbrev pub Uniting : Type 0
Uniting = (a b : ℕ) (row : List ℕ) → Numbered 0 row → a < groups row → b < groups row → (a ≢ b) → United a b row (united a b row)

-- the rows put the same home modules together
abbrev pub SameGroups : List ℕ → List ℕ → Type 0
SameGroups xs ys =
    (i j : ℕ) → i < length xs → j < length xs → (place xs i ≡ place xs j → place ys i ≡ place ys j) × (place ys i ≡ place ys j → place xs i ≡ place xs j)

-- Rows of one length that are numbered by lowest home module, and that put the same home modules together, are one row.
abbrev pub OnlyNumbering : Type 0
OnlyNumbering = (xs ys : List ℕ) → Numbered 0 xs → Numbered 0 ys → length xs ≡ length ys → SameGroups xs ys → xs ≡ ys
