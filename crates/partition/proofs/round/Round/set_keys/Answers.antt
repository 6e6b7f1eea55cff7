use Rattle.std.proofs.Common.{◌≡◌, ℕ, ◌<◌, List, length, map, take, slice_index, slice_index_or, sym, refl, ap, ◌∙◌, arith, rules}
use Rattle.std.proofs.lemmas.List.{length-set, length-take, length-take-le, get_or-take}
use Rattle.std.proofs.Math.ListN.{get_or-map}
use Rattle.moduleset.specs.Words.{has as is_in}
use Rattle.moduleset.specs.declared.ModuleSet.{ModuleSet}
use Rattle.cut.specs.Cuts.{pulls}
use Rattle.grouping.specs.Masks.{grouped}
use Rattle.grouping.proofs.OwnNets.{grouped_length, grouped_price_at}
use Rattle.partition.proofs.NetKeys.{keys_start, keys_more, keys_stay, keys_all, joined_at, no_price}
use Rattle.partition.proofs.round.Round.set_keys.Goals as goal

-- the word of one of the first n sets
mask_at : (masks : List ModuleSet) (n i : ℕ) → i < length (take n masks)
    → (slice_index_or (take n masks) i (record { word = 0 })).word ≡ slice_index (map (λ mask. mask.word) masks) i
mask_at masks n i h = ap (λ mask. mask.word) (get_or-take n masks i (record { word = 0 }) (omega (arith, length-take n masks))) ∙ sym (get_or-map (λ mask. mask.word) masks i (record { word = 0 }))

pub loop-i-init : goal.loop-i-init
loop-i-init g c =
    let round = c.args.self.now in (
      keys_start g.N.Price.Price.kind (grouped g.N.Price.Price.kind (g.N.Netlist.meaning round.netlist.now) round.groups.now.row) c.args.pulls.now.taken.word
          (length c.args.pulls.now.cells.now) _ (search (rules, c.clear.ensures)),
      search (rules, c.clear.auto.cells),
      refl,
    )

pub loop-i-preserved : goal.loop-i-preserved
loop-i-preserved g c =
    let k = g.N.Price.Price.kind in
    let round = c.args.self.now in
    let m = g.N.Netlist.meaning round.netlist.now in
    let taken : ℕ = c.args.pulls.now.taken.word in
    let i : ℕ = c.loop-i.i in
    let v : ℕ = c.in-Some.v in
    let cells = c.loop-i.pulls.cells.now in
    let inv = c.loop-i.invariant in
    let waits = c.in-Some.ensures.waits in
    let there : v < length cells = c.loop-i.pulls.room v waits.0 waits.1 in (
      keys_more k g.met.N.Price.Price.lawful (grouped k m round.groups.now.row) taken i _ c.in-Some-price.price cells c.join.new.self.cells.now
          (λ net e u. ap (λ (x : ℕ). is_in x u) (mask_at round.groups.now.masks c.net_count.result i (omega (arith, c.loop-i-test.true))) ∙ round.nets i net e u)
          (c.in-Some-price.ensures ∙ sym (grouped_price_at k m round.groups.now.row i))
          (λ pins s. joined_at k taken pins c.in-Some-price.price cells c.join.new.self.cells.now v there c.join.ensures.cells
          (λ u o. c.in-Some.ensures.exact pins s u (ap (λ t. is_in t.word u) inv.2 ∙ o) ∙ ap (λ t. pulls u (is_in t.word) pins) inv.2))
          inv.0,
      ap length c.join.ensures.cells ∙ length-set cells v _ ∙ inv.1,
      c.join.ensures.taken ∙ inv.2,
    )

pub loop-i-preserved-in_default : goal.loop-i-preserved-in_default
loop-i-preserved-in_default g c =
    let k = g.N.Price.Price.kind in
    let round = c.args.self.now in
    let m = g.N.Netlist.meaning round.netlist.now in
    let i : ℕ = c.loop-i.i in
    let inv = c.loop-i.invariant in (
      keys_stay k g.met.N.Price.Price.lawful (grouped k m round.groups.now.row) c.args.pulls.now.taken.word i _ c.loop-i.pulls.cells.now
          (omega (arith, grouped_length k m round.groups.now.row, c.net_count.ensures, c.loop-i-test.true))
          (λ net e u. ap (λ (x : ℕ). is_in x u) (mask_at round.groups.now.masks c.net_count.result i (omega (arith, c.loop-i-test.true))) ∙ round.nets i net e u)
          (λ pins s u o. c.in_default.ensures.exact pins s u (ap (λ t. is_in t.word u) inv.2 ∙ o) ∙ ap (λ t. pulls u (is_in t.word) pins) inv.2)
          inv.0,
      inv.1,
      inv.2,
    )

pub returns-after-loop-i-clause-keys : goal.returns-after-loop-i-clause-keys
returns-after-loop-i-clause-keys g c =
    let k = g.N.Price.Price.kind in
    let round = c.args.self.now in
    let m = g.N.Netlist.meaning round.netlist.now in
    keys_all k (grouped k m round.groups.now.row) c.args.pulls.now.taken.word c.loop-i.i c.loop-i.pulls.cells.now
    (omega (arith, grouped_length k m round.groups.now.row, c.net_count.ensures, length-take-le c.net_count.result round.groups.now.masks (omega (arith, c.net_count.ensures, round.sets)), c.loop-i-test.false))
    c.loop-i.invariant.0

pub returns-in_default-price-clause-keys : goal.returns-in_default-price-clause-keys
returns-in_default-price-clause-keys g c =
    let k = g.N.Price.Price.kind in
    let round = c.args.self.now in
    let m = g.N.Netlist.meaning round.netlist.now in
    keys_all k (grouped k m round.groups.now.row) c.args.pulls.now.taken.word c.loop-i.i c.loop-i.pulls.cells.now
    (no_price k (grouped k m round.groups.now.row) c.loop-i.i (c.in_default-price.ensures ∙ sym (grouped_price_at k m round.groups.now.row c.loop-i.i))) c.loop-i.invariant.0
