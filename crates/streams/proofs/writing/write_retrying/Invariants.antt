use Rattle.std.specs.Io.KnownBytes.{Keeps}
use Rattle.streams.proofs.writing.write_retrying.Given as goal

-- no byte was taken so far
abbrev pub invariant-loop : goal.invariant-loop
invariant-loop g l = Keeps (g.W.Write.contents l.initial.writer) (g.W.Write.contents l.writer)
