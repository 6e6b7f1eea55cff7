use Rattle.std.proofs.Common.{◌≡◌, ◌≤◌, ◌-◌, length, take}
use Rattle.std.specs.Io.KnownBytes.{Consumes}
use Rattle.streams.proofs.reading.fill.Given as goal

-- the row begins with what was read so far
abbrev pub invariant-loop-count : goal.invariant-loop-count
invariant-loop-count g l = (length l.row ≡ length l.initial.row) × (l.count ≤ length l.row) × Consumes (g.R.Read.remaining l.initial.reader) (g.R.Read.remaining l.reader) (take l.count l.row)

abbrev pub decreases-loop-count : goal.decreases-loop-count
decreases-loop-count g l = length l.initial.row - l.count
