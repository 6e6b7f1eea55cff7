use Rattle.std.proofs.Common.{◌≡◌, refl, ap, subst, arith}
use Rattle.runs.specs.RunCalls.{RunOf}
use Rattle.runs.proofs.Turns.{run_starts, run_goes_on, run_ends}
use Rattle.runs.proofs.running.run.Goals as goal

pub loop-i-init : goal.loop-i-init
loop-i-init g c = run_starts g.N.Price.Price.kind g.N.Netlist.meaning c.over-plan.result.below c.args.calls.now c.args.answers.now c.over-plan.result refl c.over-plan.ensures.new

pub loop-i-preserved : goal.loop-i-preserved
loop-i-preserved g c =
    run_goes_on g.N.Price.Price.kind g.N.Netlist.meaning c.over-plan.result.below c.args.calls.now c.args.answers.now
    c.loop-i.calls c.loop-i.answers c.loop-i.plan c.ask.new.self c.loop-i.i c.index-calls-i.result c.ask.new.call c.ask.result
    (omega arith) (omega arith) (omega arith) (omega arith) c.loop-i.invariant c.ask.ensures.call c.ask.ensures.row

pub returns : goal.returns
returns g c =
    let k = g.N.Price.Price.kind in
    let means = g.N.Netlist.meaning in
    let netlist = c.over-plan.result.below in
    let ended : c.loop-i.i ≡ c.min-count.result = omega arith in
    subst (λ m. RunOf k m c.args.calls.now c.loop-i.calls c.args.answers.now c.loop-i.answers c.min-count.result) (ap means c.over-plan.ensures.below)
    (run_ends k means netlist c.args.calls.now c.args.answers.now g.met.N.Price.Price.lawful (g.N.Netlist.sound netlist)
    c.loop-i.calls c.loop-i.answers c.loop-i.plan c.loop-i.i c.min-count.result ended c.min-count.ensures c.loop-i.invariant)
