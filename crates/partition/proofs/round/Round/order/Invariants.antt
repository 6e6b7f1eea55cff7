use Rattle.std.proofs.Common.{◌≡◌, ◌+◌, ◌∷◌, length}
use Rattle.grouping.specs.Masks.{grouped}
use Rattle.partition.proofs.Turns.{Turn}
use Rattle.partition.proofs.round.Round.order.Given as goal

abbrev pub invariant-loop-byte : goal.invariant-loop-byte
invariant-loop-byte g l =
    let k = g.N.Price.Price.kind in
    Turn k (grouped k (g.N.Netlist.meaning l.self.netlist.now) l.self.groups.now.row) l.self.count (l.byte-index + 1) l.pulls.taken.word l.price (0 ∷ l.byte-items)
    × (length l.byte-items + 1 ≡ l.self.count)
    × (length l.pulls.cells.now ≡ l.self.count)
