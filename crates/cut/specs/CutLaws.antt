-- What the tests of a net's pins tell, as relations.
use Rattle.std.specs.Prelude.{◌≡◌, ℕ, Bool, true, false, ◌⊎◌, List, Decides}
use Rattle.std.specs.List.{ContainsAt as Has}
use Rattle.cut.specs.Cuts.{crosses, pulls}

-- a pin on each side
pub record OnBothSides (side : ℕ → Bool) (pins : List ℕ) : Type 0 where
  pub on_a : (p : ℕ) × Has pins p × (side p ≡ false)
  pub on_b : (p : ℕ) × Has pins p × (side p ≡ true)

abbrev pub CrossesTells : Type 0
CrossesTells = (side : ℕ → Bool) (pins : List ℕ) → Decides (crosses side pins) (OnBothSides side pins)

-- a pin at v, a pin in the set and none elsewhere
pub record BetweenOnly (v : ℕ) (among : ℕ → Bool) (pins : List ℕ) : Type 0 where
  pub at_v : Has pins v
  pub in_set : (p : ℕ) × Has pins p × (among p ≡ true)
  pub none_elsewhere : (p : ℕ) → Has pins p → (p ≡ v) ⊎ (among p ≡ true)

abbrev pub PullsTells : Type 0
PullsTells = (v : ℕ) (among : ℕ → Bool) (pins : List ℕ) → Decides (pulls v among pins) (BetweenOnly v among pins)
