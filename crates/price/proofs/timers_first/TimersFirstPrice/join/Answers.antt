use Rattle.std.proofs.Common.{ap, ◌∙◌, arith}
use Rattle.std.proofs.lemmas.Bool.Decides.{nat_tests}
use Rattle.price.specs.KindLaws.{same_timers_first}
use Rattle.price.proofs.timers_first.TimersFirstPrice.join.Goals.{in-Some, in-None}
use Rattle.price.proofs.timers_first.TimersFirstPrice.join.Goals as goal

pub returns : goal.returns
returns c = elim c.match-checked_add.branch [
  | in-Some w ↦
      let e = w.in-Some.ensures in
      same_timers_first _ _ (ap (λ x. x.0) w.result-is ∙ omega (arith, e)) (ap (λ x. x.1.0) w.result-is ∙ grind (arith, nat_tests))
  | in-None w ↦
      let e = w.in-None.ensures in
      same_timers_first _ _ (ap (λ x. x.0) w.result-is ∙ omega (arith, e)) (ap (λ x. x.1.0) w.result-is ∙ grind (arith, nat_tests))
]
