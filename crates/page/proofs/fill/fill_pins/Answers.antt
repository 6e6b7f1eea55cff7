use Rattle.std.proofs.Common.{◌≡◌, ◌∙◌, refl, arith}
use Rattle.std.proofs.lemmas.List.{append-nil, drop_all}
use Rattle.page.specs.Layout.{net_pins}
use Rattle.page.proofs.TableLaws.{net_pins_put}
use Rattle.page.proofs.fill.fill_pins.Goals as goal

pub loop-k-init : goal.loop-k-init
unfolding net_pins
loop-k-init c = refl

pub loop-k-preserved : goal.loop-k-preserved
loop-k-preserved c =
    let net = c.args.whole.now.net in
    let e = net_pins_put net.bytes.now net.at c.loop-k.k c.args.pins.now (omega arith) in
    cc

pub returns : goal.returns
returns c =
    let all : c.loop-k.k ≡ c.args.whole.now.net.pins = omega arith in
    c.loop-k.invariant ∙ rw (drop_all c.loop-k.k c.args.pins.now (omega arith), append-nil, all) refl
