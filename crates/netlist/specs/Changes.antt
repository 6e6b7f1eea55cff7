-- What strapping two home modules, and muting a net, make of a meaning.
use Rattle.std.specs.Prelude.{ℕ, pred, min, max, true, cond, List, map, ◌==◌, nat_lt, slice_set}
use Rattle.netlist.specs.Places.{place}
use Rattle.netlist.specs.Meaning.{Meaning}

-- place p once the groups a and b are one: that has the lower of the two numbers, and the numbers above the higher close up
abbrev pub united_place : ℕ → ℕ → ℕ → ℕ
united_place a b p = cond (nat_lt p (max a b)) p (cond (p == max a b) (min a b) (pred p))

abbrev pub united : ℕ → ℕ → List ℕ → List ℕ
united a b row = map (united_place a b) row

-- the row once home modules i and j are in one group; where they already are, it stays
abbrev pub strapped_row : ℕ → ℕ → List ℕ → List ℕ
strapped_row i j row = cond (place row i == place row j) row (united (place row i) (place row j) row)

abbrev pub strapped : {P : Type 0} → ℕ → ℕ → Meaning P → Meaning P
strapped i j m = record { places = strapped_row i j m.places; nets = m.nets; muted = m.muted }

abbrev pub muted_also : {P : Type 0} → ℕ → Meaning P → Meaning P
muted_also n m = record { places = m.places; nets = m.nets; muted = slice_set m.muted n true }
