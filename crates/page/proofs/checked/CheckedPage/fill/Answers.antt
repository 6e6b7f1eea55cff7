use Rattle.std.proofs.Common.{None, rules}
use Rattle.std.proofs.lemmas.Result.{err_from_is_err_and}
use Rattle.refusal.proofs.CheckLaws.{accepted, refused}
use Rattle.page.proofs.TableLaws.{unwritten}
use Rattle.page.proofs.PageLaws.{page_told, room_told}
use Rattle.page.proofs.WantedKind.{other_told, same_fine}
use Rattle.page.proofs.checked.CheckedPage.fill.Goals as goal

pub returns-in_err-check_kind : goal.returns-in_err-check_kind
returns-in_err-check_kind g c =
    let page = c.args.self.now in
    let kind = g.P.Price.kind.number in
    let p = err_from_is_err_and c.from_residual.result c.from_residual.ensures.1 in
    rw (p.1, p.2) (record {
      told = page_told page.bytes.now kind _ _ _ _ (other_told page.bytes.now page.fine kind _ (refused _ _ c.in_err-check_kind.ensures));
      tables_stay = unwritten _ _ _;
    })

pub returns-in_err-check_room : goal.returns-in_err-check_room
returns-in_err-check_room g c =
    let page = c.args.self.now in
    let kind = g.P.Price.kind.number in
    let p = err_from_is_err_and c.from_residual-in_err-check_room.result c.from_residual-in_err-check_room.ensures.1 in
    rw (p.1, p.2) (record {
      told = room_told page.bytes.now kind _ _ _ page.counts (same_fine page.bytes.now page.fine kind (accepted _ _ c.in_ok-check_kind.ensures)) page.counted _ (refused _ _ c.in_err-check_room.ensures);
      tables_stay = unwritten _ _ _;
    })

pub returns : goal.returns
returns g c =
    let page = c.args.self.now in
    let kind = g.P.Price.kind.number in
    (room_told page.bytes.now kind _ _ _ page.counts (same_fine page.bytes.now page.fine kind (accepted _ _ c.in_ok-check_kind.ensures)) page.counted None (accepted _ _ c.in_ok-check_room.ensures), search rules)
