use Rattle.std.proofs.Common.{◌≡◌, ◌≤◌, length, decimal, sym, ap, ◌∙◌, arith}
use Rattle.refusal.specs.Faults.{number}
use Rattle.lines.proofs.Puts.{put_then, unended, three_digits}
use Rattle.lines.proofs.writing.put_refused.Goals as goal

pub returns : goal.returns
returns c =
    let short : length (decimal c.from-number.result) ≤ 3 = three_digits c.from-number.result (omega arith) in
    let numbered : decimal c.from-number.result ≡ decimal (number c.args.fault) = ap decimal (c.from-number.ensures ∙ c.number.ensures) in
    rw (sym numbered) (unended (put_then (omega arith) c.put_text-at.ensures c.put_decimal.ensures) (omega arith))
