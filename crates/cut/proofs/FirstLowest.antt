-- The cheapest of a list is the first of the lowest.
use Rattle.std.proofs.Common.{◌≡◌, ℕ, zero, suc, ◌<◌, true, List, [], ◌∷◌, length, get_or, refl, subst, arith}
use Rattle.std.proofs.lemmas.Bool.{cond_both}
use Rattle.price.specs.Kind.{Kind, NotGreater, Laws}
use Rattle.cut.specs.Lawful.{Split}
use Rattle.cut.specs.Rounds.{cheaper, cheapest_after}
use Rattle.cut.specs.SplitLaws.{FirstOfLowest}
use Rattle.cut.proofs.Totals.{le_refl, le_trans, less_le, less_le_less, le_less_less}

module _ {P : Type 0} (k : Kind P) (l : Laws k) where
  first_of_one : (a : Split P) → FirstOfLowest k (a ∷ []) a
  first_of_one a = record { index = 0; within = omega arith; there = λ d. refl; earlier_dearer = λ j d h. absurd (omega arith); none_cheaper = low }
    where
      low : (j : ℕ) (d : Split P) → j < 1 → NotGreater k a.price (get_or (a ∷ []) j d).price
      low zero d h = le_refl k l a.price
      low (suc j) d h = absurd (omega arith)

  -- a dearer one before
  after_dearer : (a b r : Split P) (bs : List (Split P)) → k.less b.price a.price ≡ true → FirstOfLowest k (b ∷ bs) r → FirstOfLowest k (a ∷ b ∷ bs) r
  after_dearer a b r bs e f = record { index = suc f.index; within = omega (arith, f.within); there = f.there; earlier_dearer = dearer; none_cheaper = low }
    where
      below_a : k.less r.price a.price ≡ true
      below_a = le_less_less k l r.price b.price a.price (f.none_cheaper 0 b (omega arith)) e

      dearer : (j : ℕ) (d : Split P) → j < suc f.index → k.less r.price (get_or (a ∷ b ∷ bs) j d).price ≡ true
      dearer zero d h = below_a
      dearer (suc j) d h = f.earlier_dearer j d (omega arith)

      low : (j : ℕ) (d : Split P) → j < suc (suc (length bs)) → NotGreater k r.price (get_or (a ∷ b ∷ bs) j d).price
      low zero d h = less_le k l r.price a.price below_a
      low (suc j) d h = f.none_cheaper j d (omega arith)

  -- one that is not cheaper put in second place
  before_not_cheaper : (a b r : Split P) (bs : List (Split P)) → NotGreater k a.price b.price → FirstOfLowest k (a ∷ bs) r → FirstOfLowest k (a ∷ b ∷ bs) r
  before_not_cheaper a b r bs e f = go f.index refl
    where
      low : (j : ℕ) (d : Split P) → j < suc (suc (length bs)) → NotGreater k r.price (get_or (a ∷ b ∷ bs) j d).price
      low zero d h = f.none_cheaper 0 d (omega arith)
      low (suc zero) d h = le_trans k l r.price a.price b.price (f.none_cheaper 0 d (omega arith)) e
      low (suc (suc j)) d h = f.none_cheaper (suc j) d (omega arith)

      dearer : (i : ℕ) → f.index ≡ suc i → (j : ℕ) (d : Split P) → j < suc (suc i) → k.less r.price (get_or (a ∷ b ∷ bs) j d).price ≡ true
      dearer i x zero d h = f.earlier_dearer 0 d (omega arith)
      dearer i x (suc zero) d h = less_le_less k l r.price a.price b.price (f.earlier_dearer 0 d (omega arith)) e
      dearer i x (suc (suc j)) d h = f.earlier_dearer (suc j) d (omega arith)

      go : (i : ℕ) → f.index ≡ i → FirstOfLowest k (a ∷ b ∷ bs) r
      go zero x = record {
        index = 0;
        within = omega arith;
        there = λ d. subst (λ z. get_or (a ∷ bs) z d ≡ r) x (f.there d);
        earlier_dearer = λ j d h. absurd (omega arith);
        none_cheaper = low;
      }
      go (suc i) x = record {
        index = suc (suc i);
        within = omega (arith, f.within);
        there = λ d. subst (λ z. get_or (a ∷ bs) z d ≡ r) x (f.there d);
        earlier_dearer = dearer i x;
        none_cheaper = low;
      }

  pub cheapest_first : (a : Split P) (bs : List (Split P)) → FirstOfLowest k (a ∷ bs) (cheapest_after k a bs)
  cheapest_first a [] = first_of_one a
  cheapest_first a (b ∷ bs) =
      cond_both (k.less b.price a.price) b a (λ z. FirstOfLowest k (z ∷ bs) (cheapest_after k z bs) → FirstOfLowest k (a ∷ b ∷ bs) (cheapest_after k z bs))
      (λ e. after_dearer a b (cheapest_after k b bs) bs e)
      (λ e. before_not_cheaper a b (cheapest_after k a bs) bs e)
      (cheapest_first (cheaper k a b) bs)
