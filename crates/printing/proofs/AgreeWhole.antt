-- Two pages that have the same first 54,148 bytes, and no fewer, have the same fault.
use Rattle.std.proofs.Common.{◌≡◌, ℕ, zero, suc, ◌+◌, ◌-◌, ◌*◌, ◌<◌, ◌≤◌, eqb, List, length, None, refl, ap, ◌∙◌, arith}
use Rattle.std.proofs.lemmas.Bool.{lt-ltb}
use Rattle.refusal.specs.declared.Fault.TheVariants.{AfterLastNet}
use Rattle.std.specs.Option.{option_or}
use Rattle.std.specs.Bool.{then_some}
use Rattle.refusal.specs.Checks.{first_fault}
use Rattle.refusal.proofs.CheckLaws.{option_or_none, first_same, later_same}
use Rattle.page.specs.Bits.{bit_at, field_at}
use Rattle.page.specs.Layout.{kind_field, modules_field, nets_field, net_bit}
use Rattle.page.specs.Known.{known_fault}
use Rattle.page.specs.Faults.{bytes_to, net_fault, nets_fault, header_fault, pad_fault, page_fault}
use Rattle.page.proofs.FieldLaws.{holds_whole}
use Rattle.printing.proofs.Longest.{header_few, nets_reach}
use Rattle.printing.proofs.Agree.{field_same, net_same}

-- n bytes
module _ (a b : List ℕ) (n : ℕ) (same : (at : ℕ) → at < 8 * n → bit_at a at ≡ bit_at b at)
    (a_long : n ≤ length a) (b_long : n ≤ length b) (enough : 54148 ≤ n) where
  field : (at width : ℕ) → at + width ≤ 8 * n → field_at a at width ≡ field_at b at width
  field at width h = field_same a b (8 * n) same (omega arith) (omega arith) at width h

  pub kind_same : kind_field a ≡ kind_field b
  kind_same = field 0 4 (omega arith)

  pub known_same : known_fault a ≡ known_fault b
  known_same = rw (holds_whole a 0 4 (omega arith), holds_whole b 0 4 (omega arith), kind_same)

  header_same : (kind : ℕ) → header_fault a kind ≡ header_fault b kind
  header_same kind =
      rw (
        holds_whole a 0 4 (omega arith),
        holds_whole b 0 4 (omega arith),
        holds_whole a 4 7 (omega arith),
        holds_whole b 4 7 (omega arith),
        holds_whole a 11 11 (omega arith),
        holds_whole b 11 11 (omega arith),
        kind_same,
        field 4 7 (omega arith),
        field 11 11 (omega arith),
      )

  module _ (modules : ℕ) (few : modules ≤ 64) where
    bit_same : (i : ℕ) → i ≤ 1024 → nets_fault b modules i ≡ None → net_bit a i ≡ net_bit b i
    unfolding net_bit first_fault
    bit_same zero h p = refl
    bit_same (suc i) h p =
        let both = option_or_none (nets_fault b modules i) (net_fault b modules (net_bit b i)) p in
        rw (bit_same i (omega arith) both.0, field (net_bit b i) 7 (let r = nets_reach b modules i few both.0 in omega arith))

    nets_same : (i : ℕ) → i ≤ 1024 → nets_fault a modules i ≡ nets_fault b modules i
    unfolding first_fault
    nets_same zero h = refl
    nets_same (suc i) h =
        ap (λ x. option_or x (net_fault a modules (net_bit a i))) (nets_same i (omega arith))
        ∙ later_same (nets_fault b modules i) (net_fault a modules (net_bit a i)) (net_fault b modules (net_bit b i))
        (λ p. rw (bit_same i (omega arith) p)
        (net_same a b (8 * n) same (omega arith) (omega arith) modules (net_bit b i) few (let r = nets_reach b modules i few p in omega arith)))

  -- both tell the byte that follows
  pad_same : (end : ℕ) → end ≤ 433174 → pad_fault a end ≡ pad_fault b end
  unfolding pad_fault
  pad_same end h =
      rw (
        first_same (λ k. then_some (eqb (bit_at a (end + k)) 1) (AfterLastNet (end + k))) (λ k. then_some (eqb (bit_at b (end + k)) 1) (AfterLastNet (end + k)))
            (8 * bytes_to end - end) (λ k l. rw (same (end + k) (omega arith))),
        lt-ltb (bytes_to end) (length a) (omega arith),
        lt-ltb (bytes_to end) (length b) (omega arith),
      )

  -- the nets and what follows them, where the header has no fault
  after_header : (modules nets : ℕ) → modules ≤ 64 → nets ≤ 1024
      → option_or (nets_fault a modules nets) (pad_fault a (net_bit a nets)) ≡ option_or (nets_fault b modules nets) (pad_fault b (net_bit b nets))
  after_header modules nets few h =
      ap (λ x. option_or x (pad_fault a (net_bit a nets))) (nets_same modules few nets h)
      ∙ later_same (nets_fault b modules nets) (pad_fault a (net_bit a nets)) (pad_fault b (net_bit b nets))
      (λ p. rw (bit_same modules few nets h p) (pad_same (net_bit b nets) (let r = nets_reach b modules nets few p in omega arith)))

  pub page_same : (kind : ℕ) → page_fault a kind ≡ page_fault b kind
  unfolding page_fault
  page_same kind =
      rw (header_same kind, field 4 7 (omega arith), field 11 11 (omega arith))
      (later_same (header_fault b kind) _ _ (λ p. let few = header_few b kind p in after_header (modules_field b) (nets_field b) few.0 few.1))
