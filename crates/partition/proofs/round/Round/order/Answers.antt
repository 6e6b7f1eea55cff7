use Rattle.std.proofs.Common.{◌≡◌, ℕ, ◌+◌, ◌-◌, ◌<◌, List, ◌∷◌, length, drop, set, replicate, sym, ap, ◌∙◌, subst, arith}
use Rattle.std.specs.List.{AllByRecursion}
use Rattle.partition.proofs.round.Round.order.Goals.{else-loop-byte-test, then-loop-byte-test+in_default}
use Rattle.std.proofs.lemmas.List.{length-set, length-take-le, length-drop}
use Rattle.netlist.specs.Nets.{OnPins}
use Rattle.cut.specs.Orders.{order}
use Rattle.grouping.specs.Masks.{grouped}
use Rattle.grouping.proofs.OwnNets.{grouped_there}
use Rattle.partition.specs.Orders.{last_price}
use Rattle.partition.proofs.Turns.{Turn, taken_start, rest_back, turn_start, turn_left, turn_next, turn_bytes, turn_price}
use Rattle.partition.proofs.round.Round.order.Goals as goal

pub loop-byte-init : goal.loop-byte-init
loop-byte-init g c =
    let k = g.N.Price.Price.kind in
    let round = c.args.self.now in
    let m : ℕ = round.count in (
      turn_start k g.met.N.Price.Price.lawful (grouped k (g.N.Netlist.meaning round.netlist.now) round.groups.now.row) m c.with-taken.result.word c.zero-price.result _
          (omega (arith, round.several)) (taken_start c.at_or_past.result.word c.with-taken.result.word m c.at_or_past.ensures c.with-taken.ensures),
      (let bytes = set c.args.bytes.now 0 0 in
          omega (arith, length-take-le (length bytes - 1) (drop 1 bytes) (omega (arith, length-drop 1 bytes)), length-drop 1 bytes, length-set c.args.bytes.now 0 0, c.requires.long, round.several)),
      c.requires.room,
    )

pub loop-byte-preserved : goal.loop-byte-preserved
loop-byte-preserved g c =
    let k = g.N.Price.Price.kind in
    let round = c.args.self.now in
    let m = g.N.Netlist.meaning round.netlist.now in
    let i : ℕ = c.loop-byte.byte-index in
    let items = c.loop-byte.byte-items in
    let inv = c.loop-byte.invariant in
    let t = c.in-Some.ensures.took in (
      turn_next k g.met.N.Price.Price.lawful (grouped k m round.groups.now.row) round.count i c.loop-byte.pulls.taken.word c.loop-byte.price items
          (grouped_there k m round.count round.groups.now.row (g.N.Netlist.sound round.netlist.now) round.within) (omega (arith, inv.1)) round.few inv.0 (omega arith)
          c.in-Some.v c.take_next.new.pulls.taken.word c.key-price.result t.0 (c.key-price.ensures ∙ c.take_next.ensures.keys c.in-Some.v t.0.below t.0.waits) t.1,
      omega (arith, length-set items i c.in-Some.v, inv.1),
      c.take_next.ensures.long ∙ inv.2,
    )

pub returns : goal.returns
returns g c =
    let k = g.N.Price.Price.kind in
    let l = g.met.N.Price.Price.lawful in
    let round = c.args.self.now in
    let m : ℕ = round.count in
    let nets = grouped k (g.N.Netlist.meaning round.netlist.now) round.groups.now.row in
    let there : OnPins (AllByRecursion (λ pin. pin < m)) nets =
    grouped_there k (g.N.Netlist.meaning round.netlist.now) m round.groups.now.row (g.N.Netlist.sound round.netlist.now) round.within in
    let taken : ℕ = c.loop-byte.pulls.taken.word in
    let price = c.loop-byte.price in
    let bytes : List ℕ = 0 ∷ c.loop-byte.byte-items in
    let inv = c.loop-byte.invariant in
    let ended : (c.loop-byte.byte-index + 1 ≡ m) × (c.loop-byte-test.bytes ≡ bytes) =
    elim c.loop-byte-test.branch [
      | else-loop-byte-test w ↦ (omega (arith, inv.1), w.bytes-is ∙ rest_back c.args.bytes.now c.loop-byte.byte-items (omega (arith, c.requires.long, round.several)))
      | then-loop-byte-test+in_default w ↦
          absurd (turn_left k l nets m (c.loop-byte.byte-index + 1) taken price bytes there (omega arith) (omega (arith, inv.1)) round.few inv.0 w.in_default.ensures.took)
    ] in
    let turn : Turn k nets m m taken price bytes = subst (λ (s : ℕ). Turn k nets m s taken price bytes) ended.0 inv.0 in
    let written : c.loop-byte-test.bytes ≡ order k nets m = ended.1 ∙ turn_bytes k l nets m taken price bytes (omega (arith, inv.1)) turn in
    record {
      order = written;
      cells = c.clear.ensures ∙ ap (λ (n : ℕ). replicate n k.zero) (c.loop-byte-test.auto.cells ∙ c.requires.room);
      price = turn_price k l nets m taken price bytes round.several there turn ∙ ap (last_price k nets) (sym written);
    }
