use Rattle.std.proofs.Common.{◌≡◌, sym, ap, ◌∙◌, arith}
use Rattle.std.specs.List.{slice_get}
use Rattle.moduleset.specs.Words.{members}
use Rattle.moduleset.proofs.Members.{nth_past_drop, nth_drop, drop_tail, members_first, lowest_nth}
use Rattle.moduleset.proofs.ModuleSet.kth.Goals as goal

pub returns-in_err-lowest : goal.returns-in_err-lowest
returns-in_err-lowest c =
    c.from_residual.ensures ∙ sym (nth_past_drop (members c.args.self.word) c.loop.counter c.args.k (sym (c.in_err-lowest.ensures ∙ ap (λ xs. slice_get xs 0) c.loop.invariant)) (omega arith))

pub loop-preserved : goal.loop-preserved
loop-preserved c =
    let v = c.in_ok-lowest.field-0 in
    drop_tail (members c.args.self.word) _ c.loop.counter v
    (sym c.loop.invariant ∙ members_first c.loop.rest.word c.without-rest.result.word v (lowest_nth c.loop.rest.word v c.in_ok-lowest.ensures) c.without-rest.ensures)

pub returns : goal.returns
returns c =
    let e : c.loop.counter ≡ c.args.k = omega arith in
    c.lowest-2.ensures ∙ ap (λ xs. slice_get xs 0) c.loop.invariant ∙ nth_drop (members c.args.self.word) c.loop.counter
    ∙ ap (slice_get (members c.args.self.word)) e
