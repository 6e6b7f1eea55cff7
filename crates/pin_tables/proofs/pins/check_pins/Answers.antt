use Rattle.std.proofs.Common.{◌≡◌, ℕ, ◌-◌, length, None, sym, ap, subst}
use Rattle.std.proofs.lemmas.List.{length_push}
use Rattle.std.proofs.lemmas.Result.{err_from_is_err_and}
use Rattle.refusal.specs.Checks.{checked}
use Rattle.bottom.specs.LoadFaults.{net_fault, pins_fault}
use Rattle.refusal.proofs.CheckLaws.{accepted, refused, first_none, first_more, first_at}
use Rattle.pin_tables.specs.Tables.{net_pins}
use Rattle.pin_tables.proofs.StartPairs.{tail, net_in_turn, nets_in_all}
use Rattle.pin_tables.proofs.pins.check_pins.Goals as goal

pub loop-net-init : goal.loop-net-init
loop-net-init c = first_none _

pub returns-in_err-check_net : goal.returns-in_err-check_net
returns-in_err-check_net c =
    let starts = c.args.starts.now in
    let at = net_in_turn starts c.into_iter-net-iterator.result (cc) (cc (tail starts)) (cc) c.loop-net.yielded c.loop-net.net-iterator c.next.new.self c.loop-net.yielded_by
    (c.in-Some.net, (c.in-Some.from, c.in-Some.to)) c.next.result c.in-Some.is c.next.ensures.steps c.args.modules c.args.pins.now _ c.in_err-check_net.ensures in
    let p = err_from_is_err_and c.from_residual.result c.from_residual.ensures.1 in
    rw (p.1, p.2) (sym (ap checked (first_at (λ net. net_fault c.args.modules net (net_pins starts c.args.pins.now net)) _ (length c.loop-net.yielded) (length starts - 1) c.loop-net.invariant (refused _ _ at.1) at.0)))

pub loop-net-preserved : goal.loop-net-preserved
loop-net-preserved c =
    let starts = c.args.starts.now in
    let at = net_in_turn starts c.into_iter-net-iterator.result (cc) (cc (tail starts)) (cc) c.loop-net.yielded c.loop-net.net-iterator c.next.new.self c.loop-net.yielded_by
    (c.in-Some.net, (c.in-Some.from, c.in-Some.to)) c.next.result c.in-Some.is c.next.ensures.steps c.args.modules c.args.pins.now _ c.in_ok-check_net.ensures in
    rw (length_push c.loop-net.yielded _)
    (first_more (λ net. net_fault c.args.modules net (net_pins starts c.args.pins.now net)) (length c.loop-net.yielded) c.loop-net.invariant (accepted tt _ at.1))

pub returns : goal.returns
returns c =
    let starts = c.args.starts.now in
    let all = nets_in_all starts c.into_iter-net-iterator.result (cc) (cc (tail starts)) (cc) c.loop-net.yielded c.loop-net.net-iterator c.next.new.self c.loop-net.yielded_by
    c.next.result c.in-None.is c.next.ensures.steps in
    sym (ap checked (subst (λ (n : ℕ). pins_fault c.args.modules (net_pins starts c.args.pins.now) n ≡ None) all c.loop-net.invariant))
