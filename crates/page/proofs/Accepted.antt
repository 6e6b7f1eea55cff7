-- What an accepted page's fields and tables are known to say.
use Rattle.std.proofs.Common.{◌≡◌, ℕ, zero, suc, ◌<◌, ◌≤◌, not, eqb, ltb, List, [], ◌∷◌, ◌++◌, length, get_or, None, sym, ap, ◌∙◌, subst, inl, inr, arith}
use Rattle.std.proofs.lemmas.List.{append_assoc, append-nil, get_or_append_left, get_or_push}
use Rattle.std.proofs.lemmas.Bool.{cases_lt, ltb-false}
use Rattle.std.specs.Option.{option_or}
use Rattle.std.specs.Bool.{then_some}
use Rattle.refusal.specs.declared.Place.TheVariants.{Bit}
use Rattle.refusal.specs.declared.Fault.TheVariants.{OtherKind, TooManyModules, TooManyNets, TooFewPins}
use Rattle.refusal.specs.Checks.{first_fault}
use Rattle.refusal.proofs.CheckLaws.{option_or_none, then_some_none, none_at}
use Rattle.page.specs.Layout.{kind_field, modules_field, nets_field, pin, pin_count, price_bit, net_bit, net_pins, pins_table, starts_table}
use Rattle.page.specs.Faults.{ends, pin_fault, net_fault, nets_fault, header_fault, page_fault}
use Rattle.page.proofs.PinLaws.{passed}
use Rattle.page.proofs.PageLaws.{same_kind}
use Rattle.page.proofs.TableLaws.{length_net_pins, length_starts}

module _ (bytes : List ℕ) where
  -- the pins of a net by their positions
  pub net_pin_at : (at n i : ℕ) → i < n → get_or (net_pins bytes at n) i 0 ≡ pin bytes at i
  unfolding net_pins
  net_pin_at at zero i h = absurd (omega arith)
  net_pin_at at (suc n) i h =
      elim (cases_lt i n) [
        | inl l ↦
            get_or_append_left (net_pins bytes at n) (pin bytes at n ∷ []) 0 i (let e = length_net_pins bytes at n in omega arith) ∙ net_pin_at at n i l
        | inr l ↦
            let s : i ≡ n = omega arith in
            get_or_push (net_pins bytes at n) (pin bytes at n) 0 i (length_net_pins bytes at n ∙ sym s) ∙ ap (pin bytes at) (sym s)
      ]

  -- start i is the number of pins before net i
  pub start_at : (n i : ℕ) → i ≤ n → get_or (starts_table bytes n) i 0 ≡ length (pins_table bytes i)
  unfolding starts_table pins_table
  start_at zero i h = let s : i ≡ 0 = omega arith in rw s
  start_at (suc n) i h =
      elim (cases_lt i (suc n)) [
        | inl l ↦
            get_or_append_left (starts_table bytes n) _ 0 i (let e = length_starts bytes n in omega arith) ∙ start_at n i (omega arith)
        | inr l ↦
            let s : i ≡ suc n = omega arith in
            get_or_push (starts_table bytes n) (length (pins_table bytes (suc n))) 0 i (length_starts bytes n ∙ omega arith) ∙ ap (λ (x : ℕ). length (pins_table bytes x)) (sym s)
      ]

  -- the pins table has each net's pins after those of the nets before
  pub net_within : (n i : ℕ) → i < n → (rest : List ℕ) × (pins_table bytes n ≡ pins_table bytes i ++ (net_pins bytes (net_bit bytes i) (pin_count bytes (net_bit bytes i)) ++ rest))
  unfolding pins_table
  net_within zero i h = absurd (omega arith)
  net_within (suc n) i h =
      let own = net_pins bytes (net_bit bytes n) (pin_count bytes (net_bit bytes n)) in
      elim (cases_lt i n) [
        | inl l ↦
            let r = net_within n i l in (
              r.0 ++ own,
              ap (λ xs. xs ++ own) r.1 ∙ append_assoc (pins_table bytes i) _ own ∙ ap (λ xs. pins_table bytes i ++ xs) (append_assoc _ r.0 own),
            )
        | inr l ↦
            let s : i ≡ n = omega arith in (
              [],
              subst (λ (x : ℕ). pins_table bytes (suc n) ≡ pins_table bytes x ++ (net_pins bytes (net_bit bytes x) (pin_count bytes (net_bit bytes x)) ++ [])) (sym s)
                  (ap (λ xs. pins_table bytes n ++ xs) (sym (append-nil own))),
            )
      ]

  module _ (kind : ℕ) (fine : page_fault bytes kind ≡ None) where
    headed : header_fault bytes kind ≡ None
    unfolding page_fault
    headed = (option_or_none (header_fault bytes kind) _ fine).0

    -- the kind that was wanted is the one that the page names
    own_kind : kind_field bytes ≡ kind
    own_kind =
        let a = option_or_none (ends bytes 0 4) _ headed in
        same_kind bytes kind (option_or_none (then_some (not (eqb (kind_field bytes) kind)) (OtherKind 0)) _ a.1).0

    pub own_fine : page_fault bytes (kind_field bytes) ≡ None
    own_fine = subst (λ (x : ℕ). page_fault bytes x ≡ None) (sym own_kind) fine

    netted : nets_fault bytes (modules_field bytes) (nets_field bytes) ≡ None
    unfolding page_fault
    netted = (option_or_none (nets_fault bytes (modules_field bytes) (nets_field bytes)) _ (option_or_none (header_fault bytes kind) _ fine).1).0

    -- the header's fields, the last first
    counts_fine :
        (then_some (ltb 64 (modules_field bytes)) (TooManyModules (Bit 4)) ≡ None)
        × (option_or (ends bytes 11 11) (then_some (ltb 1024 (nets_field bytes)) (TooManyNets (Bit 11))) ≡ None)
    counts_fine =
        let a = option_or_none (ends bytes 0 4) _ headed in
        let b = option_or_none (then_some (not (eqb (kind_field bytes) kind)) (OtherKind 0)) _ a.1 in
        let c = option_or_none (ends bytes 4 7) _ b.1 in
        option_or_none (then_some (ltb 64 (modules_field bytes)) (TooManyModules (Bit 4))) _ c.1

    pub few_modules : modules_field bytes ≤ 64
    few_modules = ltb-false 64 (modules_field bytes) (then_some_none _ (TooManyModules (Bit 4)) counts_fine.0)

    pub few_nets : nets_field bytes ≤ 1024
    few_nets = ltb-false 1024 (nets_field bytes) (then_some_none _ (TooManyNets (Bit 11)) (option_or_none (ends bytes 11 11) _ counts_fine.1).1)

    module _ (i : ℕ) (h : i < nets_field bytes) where
      net_fine : net_fault bytes (modules_field bytes) (net_bit bytes i) ≡ None
      net_fine = none_at (λ j. net_fault bytes (modules_field bytes) (net_bit bytes j)) i (nets_field bytes) netted h

      counted_fine : (then_some (ltb (pin_count bytes (net_bit bytes i)) 2) (TooFewPins (Bit (net_bit bytes i))) ≡ None)
          × (option_or (first_fault (pin_fault bytes (modules_field bytes) (net_bit bytes i)) (pin_count bytes (net_bit bytes i))) (ends bytes (price_bit bytes (net_bit bytes i)) 32) ≡ None)
      unfolding net_fault
      counted_fine =
          option_or_none (then_some (ltb (pin_count bytes (net_bit bytes i)) 2) (TooFewPins (Bit (net_bit bytes i)))) _ (option_or_none (ends bytes (net_bit bytes i) 7) _ net_fine).1

      pub two_pins : 2 ≤ pin_count bytes (net_bit bytes i)
      two_pins = ltb-false (pin_count bytes (net_bit bytes i)) 2 (then_some_none _ (TooFewPins (Bit (net_bit bytes i))) counted_fine.0)

      pins_fine : first_fault (pin_fault bytes (modules_field bytes) (net_bit bytes i)) (pin_count bytes (net_bit bytes i)) ≡ None
      pins_fine = (option_or_none (first_fault (pin_fault bytes (modules_field bytes) (net_bit bytes i)) (pin_count bytes (net_bit bytes i))) _ counted_fine.1).0

      module _ (k : ℕ) (l : k < pin_count bytes (net_bit bytes i)) where
        pin_fine : (pin bytes (net_bit bytes i) k < modules_field bytes) × ((e : ℕ) → e < k → pin bytes (net_bit bytes i) e ≡ pin bytes (net_bit bytes i) k → ⊥)
        pin_fine =
            passed bytes (net_bit bytes i) (modules_field bytes) k
            (none_at (pin_fault bytes (modules_field bytes) (net_bit bytes i)) k (pin_count bytes (net_bit bytes i)) pins_fine l)

        pub pin_there : pin bytes (net_bit bytes i) k < modules_field bytes
        pin_there = pin_fine.0

        pub pin_new : (e : ℕ) → e < k → pin bytes (net_bit bytes i) e ≡ pin bytes (net_bit bytes i) k → ⊥
        pin_new = pin_fine.1
