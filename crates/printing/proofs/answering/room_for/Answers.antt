use Rattle.std.proofs.Common.{length, arith, rules}
use Rattle.std.proofs.lemmas.Bool.{ltb-false}
use Rattle.script.proofs.Lines.{few_lines}
use Rattle.printing.proofs.answering.room_for.Goals as goal

pub overflow_mul-result : goal.overflow_mul-result
overflow_mul-result c =
    let script = c.args.script.now in
    let short = ltb-false 65536 (length script) (search rules) in
    omega (arith, few_lines script, c.line_count.ensures, short)
