-- The lines that are left of a script.
use Rattle.std.specs.Prelude.{ℕ, List}
use Rattle.script.specs.declared.scripts.Lines.{Lines}
use Rattle.script.specs.Scripts.{lines_of}

abbrev pub lines_left : Lines → List (List ℕ)
lines_left lines = lines_of lines.rest.now
