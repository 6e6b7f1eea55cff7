use Rattle.std.proofs.Common.{arith}
use Rattle.printing.proofs.Answered.{there_is_room, no_room, fault_answered, short_answered}
use Rattle.printing.proofs.answering.answer_checked.Goals as goal

pub returns-in-Err : goal.returns-in-Err
returns-in-Err g c =
    let page = c.args.page.now in
    let told = no_room page.bytes.now g.P.Price.kind.number page.counts c.requires page.counted _ _ _ c.check_room.result c.check_room.ensures c.in-Err.fault c.in-Err.is in
    fault_answered _ _ _ _ _ _ _ _ _ _ _ told c.write_line.ensures

pub returns-then-out-room_for : goal.returns-then-out-room_for
returns-then-out-room_for g c =
    let page = c.args.page.now in
    let k = g.P.Price.kind in
    let fine = there_is_room page.bytes.now k.number page.counts c.requires page.counted _ _ _ c.check_room.result c.check_room.ensures c.in_default.field-0 c.in_default.is in
    short_answered k page.bytes.now c.args.script.now c.args.starts.now c.args.pins.now c.args.prices.now c.args.cells.now c.args.out.now fine (omega (arith, c.room_for.ensures))

pub answer_fitting-requires-clause-fine : goal.answer_fitting-requires-clause-fine
answer_fitting-requires-clause-fine g c =
    let page = c.args.page.now in
    there_is_room page.bytes.now g.P.Price.kind.number page.counts c.requires page.counted _ _ _ c.check_room.result c.check_room.ensures c.in_default.field-0 c.in_default.is
