use Rattle.std.proofs.Common.{◌≡◌, ℕ, ◌<◌, length, get_or, rules}
use Rattle.std.proofs.lemmas.List.{take_rest}
use Rattle.script.proofs.Parts.{parted_at}
use Rattle.script.proofs.pieces.part_at.Goals as goal

pub returns : goal.returns
returns c =
    let inside : c.in_ok-at.at < length c.args.bytes.now = search rules in
    let here : get_or c.args.bytes.now c.in_ok-at.at 0 ≡ c.args.byte = search rules in
    let before : (k : ℕ) → k < c.in_ok-at.at → get_or c.args.bytes.now k 0 ≡ c.args.byte → ⊥ = search rules in
    search (rules, take_rest, parted_at c.args.byte c.in_ok-at.at c.args.bytes.now inside here before)
