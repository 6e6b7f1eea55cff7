-- What a netlist means.
use Rattle.std.specs.Prelude.{◌≡◌, ℕ, ◌<◌, ◌≤◌, Bool, cond, List, [], ◌∷◌, length}
use Rattle.std.specs.List.{AllByRecursion}
use Rattle.price.specs.Kind.{Kind}
use Rattle.netlist.specs.Nets.{Net, OnPins}
use Rattle.netlist.specs.Places.{groups, Numbered, placed}

-- A place for each home module, the home nets (their pins are home modules), and of each net whether it is muted.
pub record Meaning (P : Type 0) : Type 0 where
  pub places : List ℕ
  pub nets : List (Net P)
  pub muted : List Bool

abbrev pub homes : {P : Type 0} → Meaning P → ℕ
homes m = length m.places

-- how many modules the netlist has: one for each group
abbrev pub modules : {P : Type 0} → Meaning P → ℕ
modules m = groups m.places

-- At most 64 home modules, numbered places, at most 1,024 nets, each with at most 64 pins that are home modules.
pub record Sound {P : Type 0} (m : Meaning P) : Type 0 where
  pub few_homes : homes m ≤ 64
  pub numbered : Numbered 0 m.places
  pub few_nets : length m.nets ≤ 1024
  pub all_marked : length m.muted ≡ length m.nets
  pub few_pins : OnPins (λ pins. length pins ≤ 64) m.nets
  pub pins_there : OnPins (AllByRecursion (λ pin. pin < homes m)) m.nets

-- the nets at price zero where muted
abbrev pub zero_muted : {P : Type 0} → Kind P → List (Net P) → List Bool → List (Net P)
zero_muted k [] marks = []
zero_muted k (net ∷ nets) [] = net ∷ zero_muted k nets []
zero_muted k (net ∷ nets) (mark ∷ marks) = record { price = cond mark k.zero net.price; pins = net.pins } ∷ zero_muted k nets marks

-- the netlist's nets: the home nets with each pin replaced by its place, at price zero where muted
unfoldable pub own_nets : {P : Type 0} → Kind P → Meaning P → List (Net P)
own_nets k m = placed m.places (zero_muted k m.nets m.muted)
