use Rattle.std.proofs.Common.{◌≡◌, ◌*◌, ◌≤◌, length, refl, arith}
use Rattle.std.proofs.lemmas.Result.{err_from_is_err_and}
use Rattle.page.specs.Layout.{net_bit, net_end, pins_table}
use Rattle.page.specs.Faults.{net_fault}
use Rattle.refusal.proofs.CheckLaws.{first_none, first_more, first_at}
use Rattle.page.proofs.TableLaws.{bit_more, count_more, pins_fit}
use Rattle.page.proofs.check.check_nets.Goals as goal

pub loop-init : goal.loop-init
unfolding net_bit pins_table
loop-init c = (first_none _, refl, omega arith, omega arith, refl)

pub returns-in_err-net : goal.returns-in_err-net
returns-in_err-net c =
    let b = c.args.bytes.now in
    let p = err_from_is_err_and c.from_residual.result c.from_residual.ensures.1 in
    rw (p.1, p.2) (record {
      cases =
          first_at (λ i. net_fault b c.args.modules (net_bit b i)) _ c.loop.counter c.args.nets c.loop.invariant.0
          (rw c.loop.invariant.1 at c.in_err-net.ensures) (omega arith);
    })

pub overflow_add-pins : goal.overflow_add-pins
overflow_add-pins c = omega (arith, pins_fit c.args.bytes.now c.loop.counter)

pub loop-preserved : goal.loop-preserved
loop-preserved c =
    let b = c.args.bytes.now in
    let i = c.loop.counter in
    let f = c.in_ok-net.ensures in
    let held : net_end b c.loop.end ≤ 8 * length b = rw (f.1, f.2) at c.in_ok-net.net.whole in
    let bit = bit_more b i in
    let count = count_more b i in
    let ends : c.end-end.result ≡ net_end b c.loop.end = cc in
    (first_more (λ k. net_fault b c.args.modules (net_bit b k)) i c.loop.invariant.0 (rw c.loop.invariant.1 at f.0), cc, omega arith, omega arith, cc)
