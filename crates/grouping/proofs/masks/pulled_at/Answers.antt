use Rattle.std.proofs.lemmas.Bool.{both_ways}
use Rattle.std.proofs.Common.{ℕ}
use Rattle.grouping.proofs.PinSets.{apart_pulls_none, only_pulls, only_waits}
use Rattle.grouping.proofs.masks.pulled_at.Goals as goal

pub returns-then-not-meets : goal.returns-then-not-meets
returns-then-not-meets c = record {
  exact = λ pins s v o. apart_pulls_none c.args.mask.word c.args.taken.word pins s (λ q. both_ways c.meets.result c.if-not-meets.true (c.meets.ensures.1 q)) v;
  waits = tt;
}

pub returns : goal.returns
returns c =
    let mask : ℕ = c.args.mask.word in
    let taken : ℕ = c.args.taken.word in
    let rest : ℕ = c.minus.result.word in
    record {
      exact = λ pins s v o. only_pulls mask taken pins s rest c.minus.ensures (c.meets.ensures.0 c.if-not-meets.false) c.only.result c.only.ensures v o;
      waits = only_waits mask taken rest c.minus.ensures c.only.result c.only.ensures;
    }
