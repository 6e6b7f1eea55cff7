use Rattle.page.proofs.PageLaws.{page_told}
use Rattle.printing.proofs.Answered.{fault_answered}
use Rattle.printing.proofs.answering.answer_page.Goals as goal

pub returns-in-Err : goal.returns-in-Err
returns-in-Err g c =
    fault_answered _ _ _ _ _ _ _ _ _ _ _ (page_told c.args.page.now g.P.Price.kind.number _ _ _ _ c.in-Err.ensures) c.write_line.ensures
