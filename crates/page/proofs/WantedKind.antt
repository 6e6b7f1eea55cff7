-- A page without a fault in the kind that it names, where some kind is wanted: only another kind is told.
use Rattle.std.proofs.Common.{◌≡◌, ℕ, ◌*◌, ◌≤◌, not, eqb, List, length, Some, None, ◌∙◌, subst}
use Rattle.std.proofs.lemmas.Bool.{ltb-false}
use Rattle.std.specs.Bool.{then_some}
use Rattle.refusal.specs.declared.Fault.{Fault}
use Rattle.refusal.specs.declared.Fault.TheVariants.{PageEnds, OtherKind}
use Rattle.refusal.proofs.CheckLaws.{option_or_none, or_some, or_none, then_some_none}
use Rattle.page.specs.Layout.{kind_field}
use Rattle.page.specs.Faults.{ends, header_fault, page_fault}
use Rattle.page.proofs.PageLaws.{same_kind, header_told}

module _ (bytes : List ℕ) (fine : page_fault bytes (kind_field bytes) ≡ None) where
  kind_there : ends bytes 0 4 ≡ None
  unfolding page_fault
  kind_there = (option_or_none (ends bytes 0 4) _ (option_or_none (header_fault bytes (kind_field bytes)) _ fine).0).0

  pub kind_whole : 4 ≤ 8 * length bytes
  kind_whole = ltb-false (8 * length bytes) 4 (then_some_none _ (PageEnds 0) kind_there)

  module _ (kind : ℕ) where
    pub other_told : (fault : Fault) → then_some (not (eqb (kind_field bytes) kind)) (OtherKind 0) ≡ Some fault → page_fault bytes kind ≡ Some fault
    other_told fault told = header_told bytes kind fault (or_none _ kind_there ∙ or_some _ told)

    pub same_fine : then_some (not (eqb (kind_field bytes) kind)) (OtherKind 0) ≡ None → page_fault bytes kind ≡ None
    same_fine same = subst (λ (x : ℕ). page_fault bytes x ≡ None) (same_kind bytes kind same) fine
