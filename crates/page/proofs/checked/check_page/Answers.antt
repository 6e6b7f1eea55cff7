use Rattle.std.proofs.Common.{None, refl, arith}
use Rattle.std.proofs.lemmas.Result.{err_from_is_err_and}
use Rattle.page.proofs.PageLaws.{header_told, nets_told, counts_are, pad_told}
use Rattle.page.proofs.Accepted.{own_fine}
use Rattle.page.proofs.checked.check_page.Goals as goal

pub returns-in_err-header : goal.returns-in_err-header
returns-in_err-header g c =
    let p = err_from_is_err_and c.from_residual.result c.from_residual.ensures.1 in
    rw (p.1, p.2) (header_told c.args.bytes.now g.P.Price.kind.number _ c.in_err-header.ensures.cases)

pub returns-in_err-extent : goal.returns-in_err-extent
returns-in_err-extent g c =
    let h = c.in_ok-header.ensures.cases in
    let p = err_from_is_err_and c.from_residual-in_err-extent.result c.from_residual-in_err-extent.ensures.1 in
    rw (p.1, p.2) (nets_told c.args.bytes.now g.P.Price.kind.number _ _ h.0 h.1 h.2 _ c.in_err-extent.ensures.cases)

pub returns-in_err-check_pad : goal.returns-in_err-check_pad
returns-in_err-check_pad g c =
    let h = c.in_ok-header.ensures.cases in
    let n = c.in_ok-extent.ensures.cases in
    let p = err_from_is_err_and c.from_residual-in_err-check_pad.result c.from_residual-in_err-check_pad.ensures.1 in
    rw (p.1, p.2) (pad_told c.args.bytes.now g.P.Price.kind.number _ _ h.0 h.1 h.2 _ n.0 n.1 _ c.in_err-check_pad.ensures.cases)

pub invariant_of-result : goal.invariant_of-result
invariant_of-result g c =
    let b = c.args.bytes.now in
    let kind = g.P.Price.kind.number in
    let h = c.in_ok-header.ensures.cases in
    let n = c.in_ok-extent.ensures.cases in
    record {
      fine = own_fine b kind (pad_told b kind _ _ h.0 h.1 h.2 _ n.0 n.1 None c.in_ok-check_pad.ensures.cases);
      counted = counts_are b kind _ _ h.0 h.1 h.2 _ n.4;
      few = omega arith;
      holds = record { early = omega (arith, n); whole = omega (arith, n) };
    }

pub returns : goal.returns
returns g c =
    let b = c.args.bytes.now in
    let kind = g.P.Price.kind.number in
    let h = c.in_ok-header.ensures.cases in
    let n = c.in_ok-extent.ensures.cases in (
      pad_told b kind _ _ h.0 h.1 h.2 _ n.0 n.1 None c.in_ok-check_pad.ensures.cases,
      refl,
      counts_are b kind _ _ h.0 h.1 h.2 _ n.4,
    )
