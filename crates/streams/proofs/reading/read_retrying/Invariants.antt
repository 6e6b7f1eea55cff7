use Rattle.std.proofs.Common.{◌≡◌, length}
use Rattle.std.specs.Io.KnownBytes.{Keeps}
use Rattle.streams.proofs.reading.read_retrying.Given as goal

-- no byte was given so far
abbrev pub invariant-loop : goal.invariant-loop
invariant-loop g l = (length l.row ≡ length l.initial.row) × Keeps (g.R.Read.remaining l.initial.reader) (g.R.Read.remaining l.reader)
