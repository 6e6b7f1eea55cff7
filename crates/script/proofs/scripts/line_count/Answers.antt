use Rattle.std.proofs.Common.{inl, length, ap, arith}
use Rattle.script.proofs.Lines.{few_lines}
use Rattle.script.proofs.scripts.line_count.Goals as goal

pub count-requires-clause-fits : goal.count-requires-clause-fits
count-requires-clause-fits c = inl (omega (arith, few_lines c.args.script.now, ap length c.of.ensures))
