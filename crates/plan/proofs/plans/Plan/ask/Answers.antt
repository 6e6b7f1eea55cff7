use Rattle.std.proofs.Common.{◌≡◌, length, sym, ap, ◌∙◌, rules}
use Rattle.std.proofs.lemmas.List.{with_items_is}
use Rattle.netlist.specs.Meaning.{homes}
use Rattle.plan.specs.Reckoning.{split, call_of}
use Rattle.plan.specs.PlanCalls.{refusal_on, cells_left, row_of, row_left}
use Rattle.plan.proofs.plans.Plan.ask.Goals as goal

pub returns-in-Split : goal.returns-in-Split
returns-in-Split g c =
    let k = g.N.Price.Price.kind in
    let means = g.N.Netlist.meaning in
    let plan = c.args.self.now in
    let count = homes (means plan.below) in
    let v = c.in-Split.cells in
    let left = c.split.new.cells in
    let given = c.deref_mut.ensures.value in
    let long : length v.items ≡ v.len = sym v.ok.0 in
    let kept : length left ≡ v.len = c.split.auto.cells ∙ (ap length given ∙ long) in
    record {
      call = search rules;
      row = record {
        same_call = sym (ap call_of c.in-Split.is);
        row =
            with_items_is v left kept
            ∙ (c.split.ensures.cells
            ∙ (ap (λ cells. cells_left k (refusal_on means plan (split (length cells))) count cells) given
            ∙ (ap (λ n. cells_left k (refusal_on means plan (split n)) count v.items) long
            ∙ sym (ap (λ call. row_left k (refusal_on means plan (call_of call)) count (call_of call) (row_of call)) c.in-Split.is))));
      };
    }
