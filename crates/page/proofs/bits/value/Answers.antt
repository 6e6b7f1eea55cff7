use Rattle.std.proofs.Common.{◌≡◌, ◌∙◌, ◌+◌, ◌*◌, ◌<◌, ◌^◌, ◌∷◌, [], length, refl, rules, tests, arith}
use Rattle.std.specs.List.{fold}
use Rattle.std.proofs.lemmas.Fn.{serves_by}
use Rattle.std.proofs.lemmas.Iterator.{YieldsList-from_range}
use Rattle.std.proofs.lemmas.Iterator.Consumers.{fold_from_yields_List, YieldsList-turn}
use Rattle.std.proofs.lemmas.List.Sums.{fold-append}
use Rattle.std.proofs.lemmas.List.FromFn.{length-range_with_len, get_or-range_with_len}
use Rattle.page.specs.Bits.{field_at}
use Rattle.page.proofs.FieldLaws.{with_bit, field_bits, field_below, bits_fit}
use Rattle.page.proofs.bits.value.Goals as goal

pub fold-requires-clause-callable : goal.fold-requires-clause-callable
fold-requires-clause-callable c =
    let b = c.args.bytes.now in
    serves_by _ (λ xs q. (q.0.0.now ≡ b) × (q.1 ≡ fold (with_bit b) 0 xs))
    (λ xs q x v j r.
    let turn : (v.0 ≡ q.0) × (v.1 ≡ with_bit q.0.0.now q.1 x) = search (rules, tests) in
    let last = fold-append (with_bit b) 0 xs (x ∷ []) in
    (cc, cc))
    _ _ _ _ (refl, refl)
    (λ xs t q x u y s j.
    let road = YieldsList-from_range {s = record { start = c.args.at; end = c.args.at + c.args.width }} c.args.at (c.args.at + c.args.width) c.args.width refl (omega arith) in
    let turn = YieldsList-turn road xs t y _ u x refl s in
    let long = length-range_with_len c.args.at c.args.width in
    let place = get_or-range_with_len c.args.at c.args.width (length xs) x (omega arith) in
    let low : x < 8 * length q.0.0.now = rw j.0 (omega arith) in
    let fits : with_bit q.0.0.now q.1 x < 2 ^ 32 = rw (j.0, j.1) (bits_fit b xs x (omega arith)) in
    search rules)

pub returns : goal.returns
returns c =
    let value : c.fold.result ≡ field_at c.args.bytes.now c.args.at c.args.width =
    fold_from_yields_List _ (with_bit c.args.bytes.now) 0 _ c.fold.ensures.ran (YieldsList-from_range c.args.at (c.args.at + c.args.width) c.args.width (cc) (omega arith))
    (λ a x r q k. search (rules, tests))
    ∙ field_bits c.args.bytes.now c.args.at c.args.width in
    record { value = value; bound = rw value (field_below c.args.bytes.now c.args.at c.args.width) }
