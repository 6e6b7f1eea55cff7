-- The order step by step, for a loop that takes one module after another: what is taken may be any set that agrees with
-- the first modules of the order on the modules there are.
use Rattle.std.proofs.Common.{◌≡◌, ℕ, zero, suc, ◌<◌, Bool, true, false, ◌&&◌, ◌||◌, eqb, ◌⊎◌, List, [], ◌∷◌, length, get_or, take, sym, refl, ap, ◌∙◌, ap₂, inl, inr, ⊎_elim, arith}
use native.Mathlib.Nat.{suc_inj}
use Rattle.std.specs.List.{AllByRecursion}
use Rattle.std.proofs.lemmas.Bool.{cases_Bool, cases_order}
use Rattle.price.specs.Kind.{Kind, NotGreater, Laws}
use Rattle.netlist.specs.Nets.{Net, OnPins}
use Rattle.cut.specs.Cuts.{has, pulls, pull, split_price, alone}
use Rattle.cut.specs.Orders.{MostPulled, TakenAsListed, IsOrder, order, ending_after, ending}
use Rattle.cut.proofs.Members.{all_member, any_like, every_like}
use Rattle.cut.proofs.Totals.{total_like, on_pins_map}
use Rattle.cut.proofs.OrderRule.{most_pulled_one}
use Rattle.cut.proofs.OrderFound.{order_is, length_order}
use Rattle.cut.proofs.LastTwo.{order_last_parted}

-- the two sets have the same modules below m
abbrev pub AlikeBelow : ℕ → (ℕ → Bool) → (ℕ → Bool) → Type 0
AlikeBelow m a b = (p : ℕ) → p < m → a p ≡ b p

pub pull_like : {P : Type 0} (k : Kind P) → Laws k → (nets : List (Net P)) (m v : ℕ) (a b : ℕ → Bool) → OnPins (AllByRecursion (λ pin. pin < m)) nets → AlikeBelow m a b → pull k nets v a ≡ pull k nets v b
pull_like k l nets m v a b there e =
    total_like k l (pulls v a) (pulls v b) nets
    (on_pins_map (AllByRecursion (λ pin. pin < m)) (λ ps. pulls v a ps ≡ pulls v b ps) nets (λ ps h. same ps (λ p i. e p (all_member (λ pin. pin < m) ps p h i))) there)
  where
    same : (ps : List ℕ) → ((p : ℕ) → has ps p ≡ true → a p ≡ b p) → pulls v a ps ≡ pulls v b ps
    same ps h =
        ap₂ (λ x y. has ps v && (x && y)) (any_like a b ps h)
        (every_like (λ p. eqb p v || a p) (λ p. eqb p v || b p) ps (λ p i. ap (λ z. eqb p v || z) (h p i)))

-- put in front of nothing
front : (x y : Bool) → (x || (y || false)) ≡ (y || x)
front true true = refl
front true false = refl
front false true = refl
front false false = refl

-- those of the list in front, the latest first
abbrev onto : List ℕ → List ℕ → List ℕ
onto [] taken = taken
onto (v ∷ vs) taken = onto vs (v ∷ taken)

has_onto : (vs taken : List ℕ) (p : ℕ) → has (onto vs taken) p ≡ (has vs p || has taken p)
has_onto [] taken p = refl
has_onto (v ∷ vs) taken p = has_onto vs (v ∷ taken) p ∙ swapped (has vs p) (eqb p v) (has taken p)
  where
    swapped : (x y z : Bool) → (x || (y || z)) ≡ ((y || x) || z)
    swapped true true z = refl
    swapped true false z = refl
    swapped false true z = refl
    swapped false false z = refl

module _ {P : Type 0} (k : Kind P) (nets : List (Net P)) (m : ℕ) where
  listed_next : (taken rest : List ℕ) → TakenAsListed k nets m taken rest → (j : ℕ) → j < length rest → MostPulled k nets m (onto (take j rest) taken) (get_or rest j 0)
  listed_next taken [] t j h = absurd (omega arith)
  listed_next taken (v ∷ rest) t zero h = t.0
  listed_next taken (v ∷ rest) t (suc j) h = listed_next (v ∷ taken) rest t.1 j (omega arith)

  -- the module at place s of an order, from the first s
  order_next : (list : List ℕ) → IsOrder k nets m list → (s : ℕ) → 0 < s → s < length list
      → (taken : List ℕ) × MostPulled k nets m taken (get_or list s 0) × ((p : ℕ) → has taken p ≡ has (take s list) p)
  order_next [] o s z h = absurd (omega arith)
  order_next (v ∷ rest) o zero z h = absurd (omega arith)
  order_next (v ∷ rest) o (suc j) z h = (
    onto (take j rest) (0 ∷ []),
    listed_next (0 ∷ []) rest o.2 j (omega arith),
    λ p. has_onto (take j rest) (0 ∷ []) p ∙ (front (has (take j rest) p) (eqb p 0) ∙ ap (λ z. has (z ∷ take j rest) p) (sym o.1)),
  )

-- Of the modules below m that are not in the set, v has the greatest pull toward it, the lowest number on equal pulls.
pub record GreatestPull {P : Type 0} (k : Kind P) (nets : List (Net P)) (m : ℕ) (among : ℕ → Bool) (v : ℕ) : Type 0 where
  pub there : v < m
  pub waits : among v ≡ false
  pub none_greater : (w : ℕ) → w < m → among w ≡ false → NotGreater k (pull k nets w among) (pull k nets v among)
  pub lower_less : (w : ℕ) → w < v → among w ≡ false → k.less (pull k nets w among) (pull k nets v among) ≡ true

module _ {P : Type 0} (k : Kind P) (l : Laws k) (nets : List (Net P)) (m : ℕ) (there : OnPins (AllByRecursion (λ pin. pin < m)) nets) where
  most_from_greatest : (taken : List ℕ) (among : ℕ → Bool) (v : ℕ) → AlikeBelow m among (has taken) → GreatestPull k nets m among v → MostPulled k nets m taken v
  most_from_greatest taken among v e g = record {
    there = g.there;
    waits = sym (e v g.there) ∙ g.waits;
    first = λ w h out. ranked w h (e w h ∙ out) (cases_order w v);
  }
    where
      same : (w : ℕ) → pull k nets w among ≡ pull k nets w (has taken)
      same w = pull_like k l nets m w among (has taken) there e

      less_same : (w : ℕ) → k.less (pull k nets w among) (pull k nets v among) ≡ k.less (pull k nets w (has taken)) (pull k nets v (has taken))
      less_same w = ap₂ (λ x y. k.less x y) (same w) (same v)

      ranked : (w : ℕ) → w < m → among w ≡ false → (w ≡ v) ⊎ ((w < v) ⊎ (v < w))
          → (w ≡ v) ⊎ ((k.less (pull k nets w (has taken)) (pull k nets v (has taken)) ≡ true) ⊎ ((pull k nets w (has taken) ≡ pull k nets v (has taken)) × (v < w)))
      ranked w h out (inl i) = inl i
      ranked w h out (inr (inl i)) = inr (inl (sym (less_same w) ∙ g.lower_less w i out))
      ranked w h out (inr (inr i)) = inr (⊎_elim
          (λ x. inl (sym (less_same w) ∙ x))
          (λ x. inr (sym (same w) ∙ (l.connected (pull k nets w among) (pull k nets v among) x (g.none_greater w h out) ∙ same v), i))
          (cases_Bool (k.less (pull k nets w among) (pull k nets v among))))

  -- the module of greatest pull is the next of the order
  pub greatest_is_next : (s v : ℕ) (among : ℕ → Bool) → 0 < s → s < m → AlikeBelow m among (has (take s (order k nets m))) → GreatestPull k nets m among v → v ≡ get_or (order k nets m) s 0
  greatest_is_next s v among z h e g =
      let n = order_next k nets m (order k nets m) (order_is k l nets m) s z (omega (arith, length_order k l nets m)) in
      most_pulled_one k nets m l n.0 (get_or (order k nets m) s 0) v n.1 (most_from_greatest n.0 among v (λ p i. e p i ∙ sym (n.2 p)) g)

  -- before the end some module waits
  pub next_waits : (s : ℕ) → 0 < s → s < m → (get_or (order k nets m) s 0 < m) × (has (take s (order k nets m)) (get_or (order k nets m) s 0) ≡ false)
  next_waits s z h =
      let n = order_next k nets m (order k nets m) (order_is k l nets m) s z (omega (arith, length_order k l nets m)) in
      (n.1.there, sym (n.2 (get_or (order k nets m) s 0)) ∙ n.1.waits)

-- the end of a list, by its places
ending_last : (before : List ℕ) (u v : ℕ) (rest : List ℕ) → (ending_after before u v rest).last ≡ get_or (v ∷ rest) (length rest) 0
ending_last before u v [] = refl
ending_last before u v (w ∷ ws) = ending_last (u ∷ before) v w ws

ending_before : (before : List ℕ) (u v : ℕ) (rest : List ℕ)
    → (ending_after before u v rest).next_to_last ∷ (ending_after before u v rest).before ≡ onto (take (length rest) (v ∷ rest)) (u ∷ before)
ending_before before u v [] = refl
ending_before before u v (w ∷ ws) = ending_before (u ∷ before) v w ws

pub last_at : (n : ℕ) (list : List ℕ) → length list ≡ suc (suc n) → (ending list).last ≡ get_or list (suc n) 0
last_at n [] e = absurd (omega arith)
last_at n (u ∷ []) e = absurd (omega arith)
last_at n (u ∷ v ∷ vs) e = ending_last [] u v vs ∙ ap (λ z. get_or (v ∷ vs) z 0) (suc_inj (suc_inj e))

before_last : (n : ℕ) (list : List ℕ) → length list ≡ suc (suc n) → (p : ℕ) → has ((ending list).next_to_last ∷ (ending list).before) p ≡ has (take (suc n) list) p
before_last n [] e p = absurd (omega arith)
before_last n (u ∷ []) e p = absurd (omega arith)
before_last n (u ∷ v ∷ vs) e p =
    ap (λ z. has z p) (ending_before [] u v vs)
    ∙ (has_onto (take (length vs) (v ∷ vs)) (u ∷ []) p
    ∙ (front (has (take (length vs) (v ∷ vs)) p) (eqb p u) ∙ ap (λ z. eqb p u || has (take z (v ∷ vs)) p) (suc_inj (suc_inj e))))

-- at the last step the pull is the price of parting off the last alone
pub last_pull_price : {P : Type 0} (k : Kind P) → Laws k → (nets : List (Net P)) (n : ℕ) (among : ℕ → Bool) → OnPins (AllByRecursion (λ pin. pin < suc (suc n))) nets
    → AlikeBelow (suc (suc n)) among (has (take (suc n) (order k nets (suc (suc n)))))
    → pull k nets (get_or (order k nets (suc (suc n))) (suc n) 0) among ≡ split_price k (alone (ending (order k nets (suc (suc n)))).last) nets
last_pull_price k l nets n among there e =
    let m : ℕ = suc (suc n) in
    let list : List ℕ = order k nets m in
    let long : length list ≡ m = length_order k l nets m in
    ap (λ z. pull k nets z among) (sym (last_at n list long))
    ∙ (pull_like k l nets m (ending list).last among (has ((ending list).next_to_last ∷ (ending list).before)) there (λ p h. e p h ∙ sym (before_last n list long p))
    ∙ (order_last_parted k l nets m there (omega arith) list (order_is k l nets m)).pulled_at_price)
