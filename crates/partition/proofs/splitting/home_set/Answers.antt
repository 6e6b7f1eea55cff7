use Rattle.std.proofs.Common.{◌≡◌, ℕ, Bool, ◌∙◌, arith, rules}
use Rattle.moduleset.specs.Words.{has as is_in}
use Rattle.netlist.specs.Places.{place}
use Rattle.grouping.proofs.SetLoops.{pass_skip, pass_put}
use Rattle.partition.proofs.HomeSides.{side_at}
use Rattle.partition.proofs.splitting.home_set.Goals.{then-is_some_and, else-is_some_and}
use Rattle.partition.proofs.splitting.home_set.Goals as goal

pub loop-i-preserved : goal.loop-i-preserved
loop-i-preserved g c =
    let places = (g.N.Netlist.meaning c.args.netlist.now).places in
    let sides : ℕ = c.args.sides.word in
    let i : ℕ = c.loop-i.i in
    let on_b : ℕ → Bool = λ j. is_in sides (place places j) in
    let at : on_b i ≡ c.is_some_and.result = side_at places sides i c.place.result c.is_some_and.result _ (omega arith) c.place.ensures c.is_some_and.ensures (λ p h. let q = h in search rules) in
    elim c.if-is_some_and.branch [
      | then-is_some_and w ↦ rw w.set-is (pass_put on_b c.loop-i.set.word i c.loop-i.invariant w.with-set.result.word (at ∙ w.if-is_some_and.true) w.with-set.ensures)
      | else-is_some_and w ↦ rw w.set-is (pass_skip on_b c.loop-i.set.word i c.loop-i.invariant (at ∙ w.if-is_some_and.false))
    ]
