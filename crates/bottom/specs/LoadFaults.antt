-- Which fault load finds, and what it answers and leaves.
use Rattle.std.specs.Prelude.{◌≡◌, ℕ, Bool, List, length, Some, None, Ok, Err, Option, Result, nat_eq, nat_le, nat_lt, slice_index}
use Rattle.std.specs.Option.{option_or}
use Rattle.std.specs.Bool.{then_some}
use Rattle.refusal.specs.declared.Place.TheVariants.{Call, Net, Pin}
use Rattle.refusal.specs.declared.Fault.{Fault}
use Rattle.refusal.specs.declared.Fault.TheVariants.{TooManyModules, TooManyNets, TablesDisagree, TooFewPins, NoSuchModule, RepeatedPin}
use Rattle.refusal.specs.Checks.{some_below, first_fault}
use Rattle.netlist.specs.Meaning.{Meaning}

-- the pin at a position repeats an earlier one
abbrev pub repeats : List ℕ → ℕ → Bool
repeats pins position = some_below (λ earlier. nat_eq (slice_index pins position) (slice_index pins earlier)) position

abbrev pub counts_fault : ℕ → ℕ → Option Fault
counts_fault modules nets = option_or (then_some (nat_lt 64 modules) (TooManyModules Call)) (then_some (nat_lt 1024 nets) (TooManyNets Call))

-- the first net with too few pins
abbrev pub few_fault : (ℕ → Bool) → ℕ → Option Fault
few_fault few nets = first_fault (λ net. then_some (few net) (TooFewPins (Net net))) nets

abbrev pub pin_fault : ℕ → ℕ → List ℕ → ℕ → Option Fault
pin_fault modules net pins position =
    option_or (then_some (nat_le modules (slice_index pins position)) (NoSuchModule (Pin net position))) (then_some (repeats pins position) (RepeatedPin (Pin net position)))

-- the first fault of one net's pins
abbrev pub net_fault : ℕ → ℕ → List ℕ → Option Fault
net_fault modules net pins = first_fault (pin_fault modules net pins) (length pins)

-- the first fault of the pins of all nets, where net n has the pins `pins n`
abbrev pub pins_fault : ℕ → (ℕ → List ℕ) → ℕ → Option Fault
pins_fault modules pins nets = first_fault (λ net. net_fault modules net (pins net)) nets

-- the first fault that load finds: the counts, whether the tables disagree, the nets with too few pins, then pin by pin
abbrev pub load_fault : ℕ → ℕ → Bool → (ℕ → Bool) → (ℕ → List ℕ) → Option Fault
load_fault modules nets disagree few pins =
    option_or (counts_fault modules nets) (option_or (then_some disagree TablesDisagree) (option_or (few_fault few nets) (pins_fault modules pins nets)))

-- What load answers and leaves: the first fault and the bottom as it was, or no fault and a bottom that means what the tables handed in mean.
abbrev pub Loads : {S P : Type 0} → (S → Meaning P) → Option Fault → Meaning P → S → S → Result (Unit {0}) Fault → Type 0
Loads means fault meant old new (Ok x) = (fault ≡ None) × (means new ≡ meant)
Loads means fault meant old new (Err e) = (fault ≡ Some e) × (new ≡ old)
