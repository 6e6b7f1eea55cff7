use Rattle.std.proofs.Common.{List, [], ◌∷◌, ◌++◌, map, refl}
use Rattle.std.specs.List.{AllByRecursion}
use Rattle.refusal.specs.declared.Fault.TheVariants.{TooFewGroups}
use Rattle.page.specs.Worked as pages
use Rattle.cut.specs.Worked as netlists
use Rattle.worked.specs.Lines.{Line, of_page, of_netlist, refused_lines, Stands}
use Rattle.worked.proofs.worked_lines_stand.Goals as goal

lines_then : {X : Type 0} (of : X → Line) (lines : List X) (rest : List Line) → AllByRecursion (λ line. Stands (of line)) lines → AllByRecursion Stands rest
    → AllByRecursion Stands (map of lines ++ rest)
lines_then of [] rest p q = q
lines_then of (line ∷ lines) rest p q = (p.0, lines_then of lines rest p.1 q)

last : AllByRecursion Stands refused_lines
last = (record { fault = TooFewGroups; told = refl; number_is = refl }, tt)

pub returns : goal.returns
returns c =
    lines_then of_page pages.worked_pages (map of_netlist netlists.worked_lines ++ refused_lines) c.worked_pages_stand.ensures
    (lines_then of_netlist netlists.worked_lines refused_lines c.worked_lines_hold.ensures last)
