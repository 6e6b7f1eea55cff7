use Rattle.std.proofs.Common.{◌≡◌, ℕ, ◌^◌, ◌<◌, ◌≤◌, not, eqb, sym, ap, ◌∙◌, ⊎_elim, arith}
use lib.Count.{count_leading_zeros}
use Rattle.std.specs.Bool.{then_some}
use Rattle.std.specs.List.{slice_get}
use Rattle.std.proofs.lemmas.Bool.{cases_lt, eq-eqb, ne_eqb}
use Rattle.moduleset.specs.Words.{has, members}
use Rattle.moduleset.proofs.Sets.{has_zero, leading_lowest}
use Rattle.moduleset.proofs.Members.{members_none, lowest_first}
use Rattle.moduleset.proofs.ModuleSet.lowest.Goals as goal

first_member : (w : ℕ) → w < 2 ^ 64 → then_some (not (eqb w 0)) (count_leading_zeros 64 w) ≡ slice_get (members w) 0
first_member w p = ⊎_elim some none (cases_lt 0 w)
  where
    some : 0 < w → then_some (not (eqb w 0)) (count_leading_zeros 64 w) ≡ slice_get (members w) 0
    some h =
        ap (λ b. then_some (not b) (count_leading_zeros 64 w)) (ne_eqb w 0 (λ e. omega arith))
        ∙ sym (ap (λ xs. slice_get xs 0) (lowest_first w _ (leading_lowest w p h)).1)

    none : w ≤ 0 → then_some (not (eqb w 0)) (count_leading_zeros 64 w) ≡ slice_get (members w) 0
    none h =
        let e : w ≡ 0 = omega arith in
        ap (λ b. then_some (not b) (count_leading_zeros 64 w)) (eq-eqb w 0 e)
        ∙ sym (ap (λ xs. slice_get xs 0) (members_none w (λ k l. ap (λ (x : ℕ). has x k) e ∙ has_zero k)))

pub returns : goal.returns
returns c = c.then_some.ensures ∙ first_member c.args.self.word (omega arith)
