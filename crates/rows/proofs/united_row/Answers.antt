use Rattle.std.proofs.Common.{rules}
use Rattle.std.proofs.lemmas.List.Edits.{map_over_more}
use Rattle.netlist.specs.Changes.{united_place}
use Rattle.rows.proofs.united_row.Goals as goal

pub loop-group-preserved : goal.loop-group-preserved
loop-group-preserved c = search (rules, map_over_more (united_place c.args.a c.args.b))
