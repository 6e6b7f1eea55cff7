use Rattle.std.proofs.Common.{rules}
use Rattle.streams.proofs.Filling.{filled_more}
use Rattle.streams.proofs.reading.fill.Goals as goal

pub loop-count-preserved : goal.loop-count-preserved
loop-count-preserved g c =
    let read = c.in_ok-more.ensures in (
      search rules,
      search rules,
      filled_more c.loop-count.count c.in_ok-more.more _ c.loop-count.row c.read_retrying.new.row c.loop-count.invariant.1 read.bound.0 _ _ _ c.loop-count.invariant.2 read.bytes.0,
    )
