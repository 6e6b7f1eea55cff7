use Rattle.std.proofs.Common.{◌≡◌, ◌+◌, rules}
use Rattle.std.specs.Option.{MatchOption}
use Rattle.lines.proofs.Puts.{digits_counted}
use Rattle.lines.proofs.bytes.digit_count.Goals as goal

pub returns : goal.returns
returns c =
    let counted : MatchOption c.checked_ilog10.result (c.map_or.result ≡ 1) (λ k. c.map_or.result ≡ k + 1) = search rules in
    digits_counted c.args.number c.checked_ilog10.result c.map_or.result (search rules) c.checked_ilog10.ensures.none c.checked_ilog10.ensures.power_le c.checked_ilog10.ensures.next_power_gt counted
