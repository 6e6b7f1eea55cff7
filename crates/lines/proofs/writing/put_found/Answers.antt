use Rattle.std.proofs.Common.{◌≡◌, length, arith}
use Rattle.lines.specs.Lines.{hex_digits}
use Rattle.lines.proofs.Puts.{put_then, unended, length_hex}
use Rattle.lines.proofs.writing.put_found.Goals as goal

pub returns : goal.returns
returns c =
    let first : length (hex_digits 16 c.args.sides) ≡ 16 = length_hex 16 c.args.sides in
    let second : length (hex_digits 16 c.args.word) ≡ 16 = length_hex 16 c.args.word in
    let begun = put_then (omega arith) c.put_text-at.ensures c.put_hex-at.ensures in
    let further = put_then (omega arith) begun c.put_text-at-2.ensures in
    unended (put_then (omega arith) further c.put_hex.ensures) (omega arith)
