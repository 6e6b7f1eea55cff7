use Rattle.std.proofs.Common.{rules}
use Rattle.std.proofs.lemmas.Option.{IfSome_then}
use Rattle.bottom.proofs.Asked.{place_asked}
use Rattle.bit_rows.proofs.questions.BitRowsNetlist.place.Goals as goal

pub returns : goal.returns
returns g c =
    place_asked c.args.self.now.modules c.args.home c.then.result c.then.ensures.variant
    (IfSome_then c.then.result c.then.ensures.some (λ x p. search rules))
