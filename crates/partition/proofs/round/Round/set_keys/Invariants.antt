use Rattle.std.proofs.Common.{◌≡◌, length, take}
use Rattle.grouping.specs.Masks.{grouped}
use Rattle.partition.specs.Pulls.{KeysArePulls}
use Rattle.partition.proofs.round.Round.set_keys.Given as goal

abbrev pub invariant-loop-i : goal.invariant-loop-i
invariant-loop-i g l =
    let k = g.N.Price.Price.kind in
    KeysArePulls k (take l.i (grouped k (g.N.Netlist.meaning l.self.netlist.now) l.self.groups.now.row)) l.fn.pulls.taken.word l.pulls.cells.now
    × (length l.pulls.cells.now ≡ length l.fn.pulls.cells.now)
    × (l.pulls.taken ≡ l.fn.pulls.taken)
