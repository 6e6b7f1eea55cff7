use Rattle.std.proofs.Common.{◌≡◌, drop}
use Rattle.moduleset.specs.Words.{members}
use Rattle.moduleset.proofs.ModuleSet.kth.Given as goal

abbrev pub invariant-loop : goal.invariant-loop
invariant-loop l = members l.rest.word ≡ drop l.counter (members l.initial.rest.word)
