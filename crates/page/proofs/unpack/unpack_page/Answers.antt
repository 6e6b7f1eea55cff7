use Rattle.std.proofs.lemmas.Result.{err_from_is_err_and}
use Rattle.page.proofs.TableLaws.{unwritten}
use Rattle.page.proofs.PageLaws.{page_told}
use Rattle.page.proofs.unpack.unpack_page.Goals as goal

pub returns-in_err-page : goal.returns-in_err-page
returns-in_err-page g c =
    let p = err_from_is_err_and c.from_residual.result c.from_residual.ensures.1 in
    rw (p.1, p.2) (record {
      told = page_told c.args.bytes.now g.P.Price.kind.number _ _ _ _ c.in_err-page.ensures;
      tables_stay = unwritten _ _ _;
    })
