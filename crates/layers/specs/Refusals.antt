-- Why a strap or a mute is refused.
use Rattle.std.specs.Prelude.{◌≡◌, ℕ, ◌<◌, ◌≤◌, false, cond, ◌&&◌, length, Some, None, Ok, Err, Option, Result, ◌==◌, nat_lt, slice_index_or}
use Rattle.refusal.specs.declared.Fault.{Fault}
use Rattle.refusal.specs.declared.Fault.TheVariants.{NoSuchHomeModule, AlreadyTogether, NoSuchNet, AlreadyMuted}
use Rattle.netlist.specs.Places.{place}
use Rattle.netlist.specs.Meaning.{Meaning, homes}

-- both are to be home modules, and then in two groups
abbrev pub strap_fault : {P : Type 0} → ℕ → ℕ → Meaning P → Option Fault
strap_fault a b m =
    cond (nat_lt a (homes m) && nat_lt b (homes m))
    (cond (place m.places a == place m.places b) (Some AlreadyTogether) None)
    (Some NoSuchHomeModule)

-- the net is to be there, and then not muted
abbrev pub mute_fault : {P : Type 0} → ℕ → Meaning P → Option Fault
mute_fault n m = cond (nat_lt n (length m.nets)) (cond (slice_index_or m.muted n false) (Some AlreadyMuted) None) (Some NoSuchNet)

-- the place of a home module that is there
abbrev pub HomePlace : {P : Type 0} → ℕ → Meaning P → Result ℕ Fault → Type 0
HomePlace home m (Ok p) = (home < homes m) × (p ≡ place m.places home)
HomePlace home m (Err fault) = (homes m ≤ home) × (fault ≡ NoSuchHomeModule)

-- the places of home modules a and b where they may be strapped, else the fault
abbrev pub Ends : {P : Type 0} → ℕ → ℕ → Meaning P → Result (ℕ × ℕ) Fault → Type 0
Ends a b m (Ok ends) = (strap_fault a b m ≡ None) × (ends.0 ≡ place m.places a) × (ends.1 ≡ place m.places b)
Ends a b m (Err fault) = strap_fault a b m ≡ Some fault
