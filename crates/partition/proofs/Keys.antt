-- The greatest key of those that wait, found one module after another.
use Rattle.std.proofs.Common.{◌≡◌, ℕ, ◌+◌, ◌<◌, Bool, true, false, not, ◌&&◌, leb, List, [], ◌∷◌, length, get_or, Some, None, sym, refl, ap, ◌∙◌, ⊎_elim, arith}
use Rattle.std.specs.List.{slice_get}
use Rattle.std.proofs.lemmas.Bool.{cases_lt, cases_Bool, both_ways, not-true, le-leb}
use Rattle.moduleset.specs.Words.{has as is_in, members}
use Rattle.moduleset.proofs.Sets.{Lowest}
use Rattle.moduleset.proofs.Members.{lowest_nth, has_member}
use Rattle.price.specs.Kind.{Kind, Laws}
use Rattle.partition.specs.Pulls.{Greatest}

module _ {P : Type 0} (k : Kind P) (l : Laws k) (key : ℕ → P) (taken : ℕ) where
  pub greatest_start : (v : ℕ) → is_in taken v ≡ false → ((w : ℕ) → w < v → is_in taken w ≡ true) → Greatest k key taken (v + 1) v
  greatest_start v h before = record {
    below = omega arith;
    waits = h;
    none_greater = λ w b o.
        ⊎_elim (λ q. absurd (both_ways _ o (before w q))) (λ q. (let e : w ≡ v = omega arith in ap (λ x. k.less (key v) (key x)) e ∙ l.irreflexive (key v))) (cases_lt w v);
    lower_less = λ w b o. absurd (both_ways _ o (before w b));
  }

pub all_but : (all taken rest : ℕ) → ((v : ℕ) → v < 64 → is_in all v ≡ leb 0 v) → ((v : ℕ) → is_in rest v ≡ (is_in all v && not (is_in taken v)))
    → (v : ℕ) → v < 64 → is_in rest v ≡ not (is_in taken v)
all_but all taken rest e f v h = f v ∙ ap (λ b. b && not (is_in taken v)) (e v h ∙ le-leb 0 v (omega arith))

module _ (taken rest : ℕ) (waiting : (v : ℕ) → v < 64 → is_in rest v ≡ not (is_in taken v)) where
  pub none_waits : None ≡ slice_get (members rest) 0 → (v : ℕ) → v < 64 → is_in taken v ≡ true
  none_waits e v h = ⊎_elim (λ q. q) (λ q. absurd (empty (members rest) e (has_member rest v (waiting v h ∙ ap not q)))) (cases_Bool (is_in taken v))
    where
      empty : (xs : List ℕ) → None ≡ slice_get xs 0 → (i : ℕ) × (i < length xs) × (get_or xs i 0 ≡ v) → ⊥
      empty [] e r = omega (arith, r.1)
      empty (x ∷ xs) e r = cc

  pub first_waits : (v : ℕ) → Some v ≡ slice_get (members rest) 0 → (v < 64) × (is_in taken v ≡ false) × ((w : ℕ) → w < v → is_in taken w ≡ true)
  first_waits v e =
      let f : Lowest rest v = lowest_nth rest v e in (
        f.small,
        not-true (is_in taken v) (sym (waiting v f.small) ∙ f.is_there),
        λ w h. back (is_in taken w) (sym (waiting w (omega (arith, f.small))) ∙ f.before w h),
      )
    where
      back : (b : Bool) → not b ≡ false → b ≡ true
      back true e = refl
      back false e = sym e
