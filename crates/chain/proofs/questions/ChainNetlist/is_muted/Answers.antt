use Rattle.std.proofs.Common.{length, false, ◌∙◌, sym}
use Rattle.chain.specs.Chains.{chain_prices}
use Rattle.chain.proofs.ChainAsked.{nets_are, net_count, same_for_each}
use Rattle.chain.proofs.questions.ChainNetlist.is_muted.Goals as goal

pub returns : goal.returns
returns c =
    let n = c.args.self.now.modules in
    c.then_some.ensures ∙ same_for_each (length (chain_prices n)) false c.args.net c.net_count.result (c.net_count.ensures ∙ net_count n ∙ sym (nets_are n))
