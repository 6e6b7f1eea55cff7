-- The steps of an order, with sets of modules as 64-bit words.
use Rattle.std.specs.Prelude.{◌≡◌, ℕ, ◌<◌, true, false, ◌||◌, List, ◌++◌, drop, replicate, Option, MatchOption, nat_le, slice_index_or}
use Rattle.moduleset.specs.Words.{has as is_in}
use Rattle.price.specs.Kind.{Kind, NotGreater}
use Rattle.netlist.specs.Nets.{Net}
use Rattle.cut.specs.Cuts.{has, pull}
use Rattle.grouping.specs.Masks.{AlsoHas}

-- zero in the first n cells, the later ones as they were
abbrev pub cleared : {P : Type 0} → Kind P → ℕ → List P → List P
cleared k n cells = replicate n k.zero ++ drop n cells

-- who is not taken is below m
abbrev pub WaitBelow : ℕ → ℕ → Type 0
WaitBelow taken m = (v : ℕ) → v < 64 → is_in taken v ≡ false → v < m

-- the set has those of the list, and all from m on
abbrev pub TakenOf : ℕ → ℕ → List ℕ → Type 0
TakenOf taken m list = (v : ℕ) → v < 64 → is_in taken v ≡ (has list v || nat_le m v)

-- the pull of v toward those taken
unfoldable pub pulled : {P : Type 0} → Kind P → List (Net P) → ℕ → ℕ → P
pulled k nets taken v = pull k nets v (is_in taken)

-- Of the modules below n that are not taken, v has the greatest key, the lowest number on equal keys.
pub record Greatest {P : Type 0} (k : Kind P) (key : ℕ → P) (taken n v : ℕ) : Type 0 where
  pub below : v < n
  pub waits : is_in taken v ≡ false
  pub none_greater : (w : ℕ) → w < n → is_in taken w ≡ false → NotGreater k (key w) (key v)
  pub lower_less : (w : ℕ) → w < v → is_in taken w ≡ false → k.less (key w) (key v) ≡ true

-- the key of v in a row of cells
abbrev pub key_in : {P : Type 0} → Kind P → List P → ℕ → P
key_in k cells v = slice_index_or cells v k.zero

-- each waiting module's key is its pull toward those taken
abbrev pub KeysArePulls : {P : Type 0} → Kind P → List (Net P) → ℕ → List P → Type 0
KeysArePulls k nets taken cells = (v : ℕ) → v < 64 → is_in taken v ≡ false → key_in k cells v ≡ pulled k nets taken v

abbrev pub NoneWaits : ℕ → Type 0
NoneWaits taken = (v : ℕ) → v < 64 → is_in taken v ≡ true

-- The answer is the waiting module of the greatest key; where there is none, no module waits.
abbrev pub GreatestWaiting : {P : Type 0} → Kind P → (ℕ → P) → ℕ → Option ℕ → Type 0
GreatestWaiting k key taken r = MatchOption r (NoneWaits taken) (Greatest k key taken 64)

-- the same, and it is taken
abbrev pub TakesGreatest : {P : Type 0} → Kind P → (ℕ → P) → ℕ → ℕ → Option ℕ → Type 0
TakesGreatest k key taken taken' r = MatchOption r (NoneWaits taken) (λ v. Greatest k key taken 64 v × AlsoHas taken taken' v)
