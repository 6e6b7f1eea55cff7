use Rattle.std.proofs.Common.{◌-◌, ◌<◌, ◌≤◌, take}
use Rattle.std.specs.Io.KnownBytes.{Consumes, IsAtEnd}
use Rattle.streams.proofs.reading.read_first.Given as goal

-- There is room for so many as may be read. The vector begins with what was read so far, which is all of it, unless no more bytes are left.
abbrev pub invariant-loop-count : goal.invariant-loop-count
invariant-loop-count g l =
    let left = g.R.Read.remaining in
    (l.most ≤ l.bytes.cap)
    × (l.bytes.len ≤ l.most)
    × (l.count ≤ l.bytes.len)
    × Consumes (left l.initial.reader) (left l.reader) (take l.count l.bytes.items)
    × (l.count < l.bytes.len → IsAtEnd (left l.reader))

abbrev pub decreases-loop-count : goal.decreases-loop-count
decreases-loop-count g l = l.most - l.bytes.len
