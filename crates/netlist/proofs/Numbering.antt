-- Rows that are numbered by lowest home module: their groups, uniting two of them, and that the numbering is the only one.
use Rattle.std.proofs.Common.{◌≡◌, ℕ, zero, suc, ◌<◌, max, List, [], ◌∷◌, map, length, sym, refl, ap, ◌∙◌, subst, ap₂, ⊎_elim, arith}
use native.Mathlib.Nat.{suc_inj}
use lib.ListN.{length-map}
use Rattle.std.proofs.lemmas.Bool.{cases_lt, cases_eq}
use Rattle.netlist.specs.Places.{place, groups, Numbered}
use Rattle.netlist.specs.Changes.{united_place, united}
use Rattle.netlist.specs.Uniting.{InEither, Uniting, SameGroups, OnlyNumbering}
use Rattle.netlist.proofs.UnitedPlaces.{united_same, united_apart, left_of, left_of_none, left_of_all, united_in_turn, left_of_more}

pub place_below_groups : (row : List ℕ) (i : ℕ) → i < length row → place row i < groups row
place_below_groups [] i h = absurd (omega arith)
place_below_groups (p ∷ ps) zero h = omega arith
place_below_groups (p ∷ ps) (suc i) h = omega (arith, place_below_groups ps i (omega arith))

pub first_place : (row : List ℕ) → Numbered 0 row → place row 0 ≡ 0
first_place [] w = refl
first_place (p ∷ ps) w = omega (arith, w.0)

pub place_map : (f : ℕ → ℕ) (row : List ℕ) (i : ℕ) → i < length row → place (map f row) i ≡ f (place row i)
place_map f [] i h = absurd (omega arith)
place_map f (p ∷ ps) zero h = refl
place_map f (p ∷ ps) (suc i) h = place_map f ps i (omega arith)

united_numbered : (a b t : ℕ) (row : List ℕ) → (a ≡ b → ⊥) → Numbered t row → Numbered (left_of a b t) (united a b row)
united_numbered a b t [] d w = tt
united_numbered a b t (p ∷ ps) d w = (
  united_in_turn a b t p d w.0,
  subst (λ z. Numbered z (united a b ps)) (sym (left_of_more a b t p d w.0)) (united_numbered a b (max (suc p) t) ps d w.1),
)

united_groups : (a b t : ℕ) (row : List ℕ) → (a ≡ b → ⊥) → Numbered t row → max (left_of a b t) (groups (united a b row)) ≡ left_of a b (max t (groups row))
united_groups a b t [] d w = let e : max t 0 ≡ t = omega arith in sym (ap (left_of a b) e ∙ omega arith)
united_groups a b t (p ∷ ps) d w =
    let step : max (suc (united_place a b p)) (left_of a b t) ≡ left_of a b (max (suc p) t) = left_of_more a b t p d w.0 in
    let rest : max (left_of a b (max (suc p) t)) (groups (united a b ps)) ≡ left_of a b (max (max (suc p) t) (groups ps)) = united_groups a b (max (suc p) t) ps d w.1 in
    let same : max (max (suc p) t) (groups ps) ≡ max t (max (suc p) (groups ps)) = omega arith in
    swapped (left_of a b t) (suc (united_place a b p)) (groups (united a b ps))
    ∙ (ap (λ z. max z (groups (united a b ps))) step ∙ (rest ∙ ap (left_of a b) same))
  where
    swapped : (x y z : ℕ) → max x (max y z) ≡ max (max y x) z
    swapped x y z = omega arith

pub uniting : Uniting
uniting a b row w ha hb d = record {
  as_long = length-map row (united_place a b);
  numbered = subst (λ z. Numbered z (united a b row)) (left_of_none a b) (united_numbered a b 0 row d w);
  one_fewer = ap suc (from_none (groups (united a b row)) (groups row) (left_of_none a b) (united_groups a b 0 row d w)) ∙ left_of_all a b (groups row) ha hb;
  kept = λ i j hi hj e. new i hi ∙ (ap (united_place a b) e ∙ sym (new j hj));
  joined = λ i j hi hj x y. new i hi ∙ (at_b i x ∙ (sym (at_b j y) ∙ sym (new j hj)));
  no_others = λ i j hi hj e. united_apart a b (place row i) (place row j) d (sym (new i hi) ∙ (e ∙ new j hj));
}
  where
    new : (i : ℕ) → i < length row → place (united a b row) i ≡ united_place a b (place row i)
    new = place_map (united_place a b) row

    at_b : (i : ℕ) → InEither a b row i → united_place a b (place row i) ≡ united_place a b b
    at_b i o = ⊎_elim (λ e. ap (united_place a b) e ∙ united_same a b) (λ e. ap (united_place a b) e) o

    from_none : (x g : ℕ) → left_of a b 0 ≡ 0 → max (left_of a b 0) x ≡ left_of a b (max 0 g) → x ≡ left_of a b g
    from_none x g none e =
        let zero_max : max 0 g ≡ g = omega arith in
        let same : x ≡ left_of a b (max 0 g) = omega arith in
        same ∙ ap (left_of a b) zero_max

-- the rows go on alike where the same home modules have each of the t places named before
alike_from : (t : ℕ) (xs ys : List ℕ) → Numbered t xs → Numbered t ys → length xs ≡ length ys
    → ((q i : ℕ) → q < t → i < length xs → (place xs i ≡ q → place ys i ≡ q) × (place ys i ≡ q → place xs i ≡ q))
    → SameGroups xs ys → xs ≡ ys
alike_from t [] [] a b l f g = refl
alike_from t [] (y ∷ ys) a b l f g = absurd (omega arith)
alike_from t (x ∷ xs) [] a b l f g = absurd (omega arith)
alike_from t (x ∷ xs) (y ∷ ys) a b l f g = ap₂ (λ z zs. z ∷ zs) heads
    (alike_from (max (suc x) t) xs ys a.1 (subst (λ z. Numbered (max (suc z) t) ys) (sym heads) b.1) (suc_inj l) named
    (λ i j hi hj. g (suc i) (suc j) (omega arith) (omega arith)))
  where
    heads : x ≡ y
    heads = ⊎_elim
        (λ h. sym ((f x 0 h (omega arith)).0 refl))
        (λ h. ⊎_elim (λ k. (f y 0 k (omega arith)).1 refl) (λ k. omega (arith, a.0, b.0)) (cases_lt y t))
        (cases_lt x t)

    named : (q i : ℕ) → q < max (suc x) t → i < length xs → (place xs i ≡ q → place ys i ≡ q) × (place ys i ≡ q → place xs i ≡ q)
    named q i h hi = ⊎_elim
        (λ e. (
          (λ r. (g (suc i) 0 (omega arith) (omega arith)).0 (r ∙ e) ∙ (sym heads ∙ sym e)),
          (λ r. (g (suc i) 0 (omega arith) (omega arith)).1 (r ∙ (e ∙ heads)) ∙ sym e),
        ))
        (λ d. f q (suc i) (before q h d) (omega arith))
        (cases_eq q x)
      where
        before : (q : ℕ) → q < max (suc x) t → (q ≡ x → ⊥) → q < t
        before q h d = omega (arith, a.0)

pub only_numbering : OnlyNumbering
only_numbering xs ys a b l g = alike_from 0 xs ys a b l (λ q i h. absurd (omega arith)) g
