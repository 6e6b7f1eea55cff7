-- The netlist below a plan with the standing changes applied.
use Rattle.std.specs.Prelude.{cond, ◌&&◌, List, [], ◌∷◌, Option, nat_lt}
use Rattle.refusal.specs.declared.Fault.{Fault}
use Rattle.netlist.specs.Meaning.{Meaning, homes}
use Rattle.netlist.specs.Changes.{strapped, muted_also}
use Rattle.layers.specs.Refusals.{strap_fault, mute_fault}
use Rattle.standing.specs.declared.change.Change.{Change}
use Rattle.standing.specs.declared.change.Change.TheVariants.{Strapped, Muted}

-- one change: the groups of two home modules united, or one more net muted; numbers that are not there change nothing
abbrev pub apply : {P : Type 0} → Change → Meaning P → Meaning P
apply (Strapped a b) m = cond (nat_lt a (homes m) && nat_lt b (homes m)) (strapped a b m) m
apply (Muted n) m = muted_also n m

-- why a change is refused, as the layers refuse it
abbrev pub change_fault : {P : Type 0} → Change → Meaning P → Option Fault
change_fault (Strapped a b) m = strap_fault a b m
change_fault (Muted n) m = mute_fault n m

-- the changes of a list, the latest first
abbrev pub applied : {P : Type 0} → Meaning P → List Change → Meaning P
applied m [] = m
applied m (c ∷ cs) = apply c (applied m cs)
