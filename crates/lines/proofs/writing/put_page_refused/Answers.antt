use Rattle.std.proofs.Common.{◌≡◌, ◌≤◌, length, decimal, sym, ap, ◌∙◌, arith}
use Rattle.refusal.specs.Faults.{number, place, place_number}
use Rattle.lines.proofs.Puts.{put_then, unended, three_digits, twenty_digits}
use Rattle.lines.proofs.writing.put_page_refused.Goals as goal

pub returns : goal.returns
returns c =
    let short : length (decimal c.from-number.result) ≤ 3 = three_digits c.from-number.result (omega arith) in
    let longer : length (decimal c.number-bit.result) ≤ 20 = twenty_digits c.number-bit.result (omega arith) in
    let numbered : decimal c.from-number.result ≡ decimal (number c.args.fault) = ap decimal (c.from-number.ensures ∙ c.number.ensures) in
    let placed : decimal c.number-bit.result ≡ decimal (place_number (place c.args.fault)) =
    ap decimal (c.number-bit.ensures ∙ ap place_number c.place.ensures) in
    let begun = put_then (omega arith) c.put_text-at.ensures c.put_decimal-at.ensures in
    let further = put_then (omega arith) begun c.put_text-at-2.ensures in
    rw (sym numbered, sym placed) (unended (put_then (omega arith) further c.put_decimal.ensures) (omega arith))
