use Rattle.std.proofs.Common.{◌≡◌, ◌++◌, map, take, drop}
use Rattle.netlist.specs.Changes.{united_place}
use Rattle.rows.proofs.united_row.Given as goal

abbrev pub invariant-loop-group : goal.invariant-loop-group
invariant-loop-group l = l.group-items ≡ map (united_place l.a l.b) (take l.group-index l.initial.group-items) ++ drop l.group-index l.initial.group-items
