use Rattle.std.proofs.Common.{ℕ, ◌+◌, Bool, sym, subst}
use Rattle.std.proofs.lemmas.Bool.{eq-eqb, ne_eqb}
use Rattle.netlist.specs.Places.{place}
use Rattle.cut.specs.Cuts.{alone}
use Rattle.grouping.proofs.SetLoops.{PassBelow, pass_none, pass_skip, pass_put, pass_all}
use Rattle.grouping.proofs.groups.group_set.Goals.{then-place-group, else-place-group}
use Rattle.grouping.proofs.groups.group_set.Goals as goal

pub loop-v-init : goal.loop-v-init
loop-v-init c = pass_none (λ v. alone c.args.group (place c.args.row v)) c.empty-set.result.word c.empty-set.ensures

pub loop-v-preserved : goal.loop-v-preserved
loop-v-preserved c =
    let test : ℕ → Bool = λ v. alone c.args.group (place c.args.row v) in
    let v : ℕ = c.loop-v.v in
    elim c.if-place-group.branch [
      | then-place-group w ↦
          subst (λ s. PassBelow test (v + 1) s.word) (sym w.set-is)
          (pass_put test c.loop-v.set.word v c.loop-v.invariant w.with-set.result.word (eq-eqb (place c.args.row v) c.args.group w.if-place-group.true) w.with-set.ensures)
      | else-place-group w ↦
          subst (λ s. PassBelow test (v + 1) s.word) (sym w.set-is)
          (pass_skip test c.loop-v.set.word v c.loop-v.invariant (ne_eqb (place c.args.row v) c.args.group w.if-place-group.false))
    ]

pub returns : goal.returns
returns c = pass_all (λ v. alone c.args.group (place c.args.row v)) c.loop-v.set.word c.loop-v.v c.loop-v-test.false c.loop-v.invariant
