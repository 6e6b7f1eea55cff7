-- Nets as sets of groups, in 64-bit words.
use Rattle.std.specs.Prelude.{◌≡◌, ℕ, zero, suc, ◌<◌, ◌≤◌, Bool, false, ◌||◌, List, [], ◌∷◌, map, Some, None, Option, ◌==◌, slice_index}
use Rattle.std.specs.List.{slice_get}
use Rattle.moduleset.specs.Words.{has as is_in}
use Rattle.price.specs.Kind.{Kind}
use Rattle.netlist.specs.Nets.{Net}
use Rattle.netlist.specs.Places.{placed}
use Rattle.netlist.specs.Changes.{united_place}
use Rattle.netlist.specs.Meaning.{Meaning, own_nets}
use Rattle.cut.specs.Cuts.{has}

-- the new set has v as well
abbrev pub AlsoHas : ℕ → ℕ → ℕ → Type 0
AlsoHas set set' v = (j : ℕ) → j < 64 → is_in set' j ≡ (is_in set j || j == v)

-- the netlist's own nets with each module replaced by its group
unfoldable pub grouped : {P : Type 0} → Kind P → Meaning P → List ℕ → List (Net P)
grouped k m row = placed row (own_nets k m)

-- the pins of net i; none where there is no such net
abbrev pub pins_of : {P : Type 0} → List (Net P) → ℕ → List ℕ
pins_of [] i = []
pins_of (net ∷ nets) zero = net.pins
pins_of (net ∷ nets) (suc i) = pins_of nets i

-- the set has just the modules of these pins
abbrev pub SetOf : ℕ → List ℕ → Type 0
SetOf set pins = (v : ℕ) → is_in set v ≡ has pins v

-- each net's pins as a set, at the net's number
abbrev pub MasksOf : {P : Type 0} → List ℕ → List (Net P) → Type 0
MasksOf {P} words nets = (i : ℕ) (net : Net P) → slice_get nets i ≡ Some net → SetOf (slice_index words i) net.pins

-- of 1024 words, each past the first n is the empty set
abbrev pub EmptyPast : ℕ → List ℕ → Type 0
EmptyPast n words = (i v : ℕ) → n ≤ i → i < 1024 → is_in (slice_index words i) v ≡ false

-- Whatever groups the set is of, the new set is of those once groups a and b are one.
pub record UnitedSet (a b set set' : ℕ) : Type 0 where
  pub united : (pins : List ℕ) → SetOf set pins → SetOf set' (map (united_place a b) pins)

-- the answer is module v
abbrev pub names : Option ℕ → ℕ → Bool
names None v = false
names (Some u) v = v == u
