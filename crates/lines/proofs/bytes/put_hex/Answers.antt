use Rattle.std.proofs.Common.{rules, arith}
use Rattle.lines.proofs.HexText.{hex_text}
use Rattle.lines.proofs.Puts.{part_put, length_hex}
use Rattle.lines.proofs.bytes.put_hex.Goals as goal

pub returns : goal.returns
returns c =
    part_put c.args.at _ c.args.out.now _ _ _ (search (rules, hex_text c.args.word)) (omega (arith, length_hex 16 c.args.word)) (omega (arith, length_hex 16 c.args.word))
