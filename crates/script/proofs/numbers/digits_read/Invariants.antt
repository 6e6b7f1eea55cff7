use Rattle.script.proofs.Digits.{ReadUpTo}
use Rattle.script.proofs.numbers.digits_read.Given as goal

abbrev pub invariant-loop-byte : goal.invariant-loop-byte
invariant-loop-byte l = ReadUpTo l.byte-index l.number l.bytes
