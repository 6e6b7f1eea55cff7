use Rattle.std.proofs.Common.{sym, ◌∙◌}
use Rattle.chain.proofs.ChainAsked.{net_count}
use Rattle.chain.proofs.questions.ChainNetlist.net_count.Goals as goal

pub returns : goal.returns
returns c = c.saturating_sub.ensures ∙ sym (net_count c.args.self.now.modules)
