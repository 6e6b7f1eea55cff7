use Rattle.std.proofs.Common.{◌≡◌, ◌+◌, length, set, refl, ◌∙◌, arith}
use Rattle.std.proofs.lemmas.List.{length-set}
use Rattle.page.specs.Layout.{net_bit, pin_count, pins_table, starts_table, prices_table}
use Rattle.page.proofs.TableLaws.{starts_none, bit_more, count_more, starts_put, pins_put, prices_put, written, held}
use Rattle.page.proofs.fill.fill_nets.Goals as goal

pub loop-i-init : goal.loop-i-init
unfolding net_bit pins_table prices_table
loop-i-init g c = (refl, refl, starts_none c.args.bytes.now c.args.starts.now (omega arith), refl, refl)

pub at-net-requires : goal.at-net-requires
at-net-requires g c =
    let h = held c.args.bytes.now (length c.args.prices.now) c.requires.holds c.loop-i.i c.loop-i.at c.loop-i.total (omega arith) c.loop-i.invariant.0 c.loop-i.invariant.1 in
    record { early = h.0; whole = h.1 }

pub slice_bounds-fill_pins-end : goal.slice_bounds-fill_pins-end
slice_bounds-fill_pins-end g c =
    let h = held c.args.bytes.now (length c.args.prices.now) c.requires.holds c.loop-i.i c.loop-i.at c.loop-i.total (omega arith) c.loop-i.invariant.0 c.loop-i.invariant.1 in
    let count : c.pins.result ≡ pin_count c.args.bytes.now c.loop-i.at = cc in
    grind arith

pub overflow_cast-starts : goal.overflow_cast-starts
overflow_cast-starts g c =
    let h = held c.args.bytes.now (length c.args.prices.now) c.requires.holds c.loop-i.i c.loop-i.at c.loop-i.total (omega arith) c.loop-i.invariant.0 c.loop-i.invariant.1 in
    let count : c.pins.result ≡ pin_count c.args.bytes.now c.loop-i.at = cc in
    omega arith

pub loop-i-preserved : goal.loop-i-preserved
loop-i-preserved g c =
    let b = c.args.bytes.now in
    let i = c.loop-i.i in
    let bit = bit_more b i in
    let more = count_more b i in
    let count : c.pins.result ≡ pin_count b (net_bit b i) = cc in
    let starts = starts_put b i (set c.args.starts.now 0 0) (omega (arith, length-set c.args.starts.now 0 0)) in
    let pins = pins_put b i c.loop-i.total c.pins.result c.args.pins.now c.loop-i.invariant.1 count in
    let prices = prices_put b g.P.Price.kind i c.args.prices.now (omega arith) in
    (cc, cc, cc, cc, cc)

pub returns : goal.returns
returns g c =
    let b = c.args.bytes.now in
    let n = length c.args.prices.now in
    let s : c.loop-i.i ≡ n = omega arith in
    let long = length-set c.args.starts.now 0 0 in
    let total : c.loop-i.total ≡ length (pins_table b n) = cc in
    record {
      starts = c.loop-i.invariant.2 ∙ rw s (written (starts_table b n) (set c.args.starts.now 0 0) (n + 1) (omega arith));
      pins = c.loop-i.invariant.3 ∙ rw s (written (pins_table b n) c.args.pins.now c.loop-i.total (omega arith));
      prices = c.loop-i.invariant.4 ∙ rw s (written (prices_table b g.P.Price.kind n) c.args.prices.now n (omega arith));
    }
