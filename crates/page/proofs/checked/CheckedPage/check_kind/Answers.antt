use Rattle.page.proofs.WantedKind.{kind_whole}
use Rattle.page.proofs.checked.CheckedPage.check_kind.Goals as goal

pub value-requires-clause-whole : goal.value-requires-clause-whole
value-requires-clause-whole g c = kind_whole c.args.self.now.bytes.now c.args.self.now.fine
