-- Laws of a whole page's fault: which of its parts tells it.
use Rattle.std.proofs.Common.{◌≡◌, ℕ, not, eqb, List, length, Some, None, Option, ap, ◌∙◌, subst}
use Rattle.std.proofs.lemmas.Bool.{eqb-true, not-false}
use Rattle.std.specs.Bool.{then_some}
use Rattle.refusal.specs.declared.Fault.{Fault}
use Rattle.refusal.specs.declared.Fault.TheVariants.{OtherKind}
use Rattle.page.specs.declared.counts.Counts.{Counts}
use Rattle.page.specs.Layout.{kind_field, modules_field, nets_field, net_bit, pins_table}
use Rattle.page.specs.Faults.{header_fault, nets_fault, pad_fault, room_fault, page_fault, unpack_fault}
use Rattle.page.specs.Unpacking.{Counted}
use Rattle.refusal.proofs.CheckLaws.{or_some, or_none, then_some_none}

module _ (bytes : List ℕ) (kind : ℕ) where
  pub same_kind : then_some (not (eqb (kind_field bytes) kind)) (OtherKind 0) ≡ None → kind_field bytes ≡ kind
  same_kind same = eqb-true (kind_field bytes) kind (not-false _ (then_some_none _ (OtherKind 0) same))

  pub header_told : (e : Fault) → header_fault bytes kind ≡ Some e → page_fault bytes kind ≡ Some e
  unfolding page_fault
  header_told e p = or_some _ p

  -- what the header says: modules, nets
  module _ (m n : ℕ) (headed : header_fault bytes kind ≡ None) (m_is : m ≡ modules_field bytes) (n_is : n ≡ nets_field bytes) where
    nets_same : (r : Option Fault) → nets_fault bytes m n ≡ r → nets_fault bytes (modules_field bytes) (nets_field bytes) ≡ r
    nets_same r h = subst (λ (x : ℕ). nets_fault bytes x (nets_field bytes) ≡ r) m_is (subst (λ (y : ℕ). nets_fault bytes m y ≡ r) n_is h)

    pub nets_told : (e : Fault) → nets_fault bytes m n ≡ Some e → page_fault bytes kind ≡ Some e
    unfolding page_fault
    nets_told e p = or_none _ headed ∙ or_some _ (nets_same _ p)

    pub counts_are : (pins : ℕ) → pins ≡ length (pins_table bytes n) → Counted bytes (record { modules = m; nets = n; pins = pins })
    counts_are pins e = record { modules_are = m_is; nets_are = n_is; pins_are = e ∙ ap (λ (x : ℕ). length (pins_table bytes x)) n_is }

    -- where the nets end
    pub pad_told : (end : ℕ) → nets_fault bytes m n ≡ None → end ≡ net_bit bytes n → (r : Option Fault) → pad_fault bytes end ≡ r → page_fault bytes kind ≡ r
    unfolding page_fault
    pad_told end netted end_is r p =
        or_none _ headed ∙ or_none _ (nets_same _ netted) ∙ subst (λ (x : ℕ). pad_fault bytes x ≡ r) (end_is ∙ ap (net_bit bytes) n_is) p

  module _ (starts pins prices : ℕ) where
    pub page_told : (e : Fault) → page_fault bytes kind ≡ Some e → unpack_fault bytes kind starts pins prices ≡ Some e
    unfolding unpack_fault
    page_told e p = or_some _ p

    -- the page passes, and the tables tell
    pub room_told : (n : Counts) → page_fault bytes kind ≡ None → Counted bytes n → (r : Option Fault) → room_fault n.nets n.pins starts pins prices ≡ r
        → unpack_fault bytes kind starts pins prices ≡ r
    unfolding unpack_fault
    room_told n p counted r h =
        or_none _ p
        ∙ subst (λ (x : ℕ). room_fault x (length (pins_table bytes (nets_field bytes))) starts pins prices ≡ r) counted.nets_are
        (subst (λ (x : ℕ). room_fault n.nets x starts pins prices ≡ r) counted.pins_are h)
