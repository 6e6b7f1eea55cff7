-- Home modules by their groups: prices through places, and lawful splits before and after two groups are united.
use Rattle.std.proofs.Common.{◌≡◌, ℕ, zero, suc, ◌<◌, ◌≤◌, max, Bool, true, false, cond, eqb, ◌⊎◌, List, [], ◌∷◌, map, length, sym, refl, ap, ◌∙◌, subst, ap₂, inl, inr, ⊎_elim, arith}
use Rattle.std.specs.List.{AllByRecursion}
use Rattle.std.proofs.lemmas.Bool.{false≢true, both_ways, eqb-true, eqb-false, cases_lt, cond_both}
use Rattle.price.specs.Kind.{Kind, Laws}
use Rattle.netlist.specs.Nets.{Net, OnPins}
use Rattle.netlist.specs.Places.{place, groups, Numbered, placed}
use Rattle.netlist.specs.Meaning.{zero_muted}
use Rattle.netlist.specs.Uniting.{InEither, United}
use Rattle.netlist.proofs.Numbering.{place_below_groups}
use Rattle.cut.specs.Cuts.{has, crosses, total, split_price}
use Rattle.cut.specs.Lawful.{Lawful, unmarked}
use Rattle.cut.proofs.Members.{has_head, has_tail, has_cases, all_member, members_all, Member, member_of_map, crosses_like, crosses_map}
use Rattle.cut.proofs.Totals.{total_like, on_pins_map}

pub place_member : (row : List ℕ) (i : ℕ) → i < length row → has row (place row i) ≡ true
place_member [] i h = absurd (omega arith)
place_member (p ∷ ps) zero h = has_head p ps
place_member (p ∷ ps) (suc i) h = has_tail p ps (place ps i) (place_member ps i (omega arith))

-- every number below the count of groups is a place
named_or_before : (t : ℕ) (row : List ℕ) (q : ℕ) → Numbered t row → q < groups row → (q < t) ⊎ (has row q ≡ true)
named_or_before t [] q w h = absurd (omega arith)
named_or_before t (p ∷ ps) q w h = ⊎_elim
    (λ i. ⊎_elim
    (λ e. ⊎_elim inl (λ a. inr (subst (λ z. has (p ∷ ps) z ≡ true) (at_p q e a) (has_head p ps))) (cases_lt q t))
    (λ e. inr (has_tail p ps q e))
    (named_or_before (max (suc p) t) ps q w.1 i))
    (λ i. ⊎_elim inl (λ a. inr (subst (λ z. has (p ∷ ps) z ≡ true) (at_p q (omega arith) a) (has_head p ps))) (cases_lt q t))
    (cases_lt q (groups ps))
  where
    at_p : (q : ℕ) → q < max (suc p) t → t ≤ q → p ≡ q
    at_p q a b = omega (arith, w.0)

pub group_member : (row : List ℕ) → Numbered 0 row → (q : ℕ) → q < groups row → has row q ≡ true
group_member row w q h = ⊎_elim (λ e. absurd (omega arith)) (λ e. e) (named_or_before 0 row q w h)

-- the lowest home module of a group
abbrev pub home_of : List ℕ → ℕ → ℕ
home_of [] q = 0
home_of (p ∷ ps) q = cond (eqb q p) 0 (suc (home_of ps q))

pub home_there : (row : List ℕ) (q : ℕ) → has row q ≡ true → (home_of row q < length row) × (place row (home_of row q) ≡ q)
home_there [] q h = absurd (false≢true h)
home_there (p ∷ ps) q h =
    cond_both (eqb q p) 0 (suc (home_of ps q)) (λ z. (z < suc (length ps)) × (place (p ∷ ps) z ≡ q))
    (λ e. (omega arith, sym (eqb-true q p e)))
    (λ e. ⊎_elim (λ r. absurd (eqb-false q p e r)) (λ r. (let ih = home_there ps q r in (omega (arith, ih.0), ih.1))) (has_cases p ps q h))

-- the sides of the groups
abbrev pub group_side : List ℕ → (ℕ → Bool) → ℕ → Bool
group_side row side q = side (home_of row q)

pub side_by_group : (row : List ℕ) (side : ℕ → Bool) → Lawful row side → (i : ℕ) → i < length row → side i ≡ group_side row side (place row i)
side_by_group row side w i h =
    let a = home_there row (place row i) (place_member row i h) in
    w.keeps_groups i (home_of row (place row i)) h a.0 (sym a.1)

module _ {P : Type 0} (k : Kind P) where
  pub placed_price : (side : ℕ → Bool) (row : List ℕ) (nets : List (Net P)) → split_price k side (placed row nets) ≡ split_price k (λ i. side (place row i)) nets
  placed_price side row [] = refl
  placed_price side row (net ∷ nets) =
      ap₂ (λ b z. cond b (k.join net.price z) z) (crosses_map side (place row) net.pins) (placed_price side row nets)

  pub group_price : Laws k → (row : List ℕ) (side : ℕ → Bool) (nets : List (Net P)) → Lawful row side → OnPins (AllByRecursion (λ pin. pin < length row)) nets
      → split_price k (group_side row side) (placed row nets) ≡ split_price k side nets
  group_price l row side nets w there =
      placed_price (group_side row side) row nets
      ∙ total_like k l (crosses (λ i. group_side row side (place row i))) (crosses side) nets
      (on_pins_map (AllByRecursion (λ pin. pin < length row)) (λ ps. crosses (λ i. group_side row side (place row i)) ps ≡ crosses side ps) nets
      (λ ps a. crosses_like (λ i. group_side row side (place row i)) side ps
      (λ i e. sym (side_by_group row side w i (all_member (λ pin. pin < length row) ps i a e)))) there)

  -- what is muted costs nothing
  pub total_unmuted : Laws k → (test : List ℕ → Bool) (nets : List (Net P)) (marks : List Bool) → total k test (zero_muted k nets marks) ≡ total k test (unmarked nets marks)
  total_unmuted l test [] marks = refl
  total_unmuted l test (net ∷ nets) [] = ap (λ z. cond (test net.pins) (k.join net.price z) z) (total_unmuted l test nets [])
  total_unmuted l test (net ∷ nets) (mark ∷ marks) = go mark (test net.pins) refl (total_unmuted l test nets marks)
    where
      go : (mark t : Bool) → test net.pins ≡ t → total k test (zero_muted k nets marks) ≡ total k test (unmarked nets marks)
          → cond (test net.pins) (k.join (cond mark k.zero net.price) (total k test (zero_muted k nets marks))) (total k test (zero_muted k nets marks))
          ≡ total k test (cond mark (unmarked nets marks) (net ∷ unmarked nets marks))
      go true true e ih =
          ap (λ z. cond z (k.join k.zero (total k test (zero_muted k nets marks))) (total k test (zero_muted k nets marks))) e
          ∙ (l.neutral (total k test (zero_muted k nets marks)) ∙ ih)
      go true false e ih = ap (λ z. cond z (k.join k.zero (total k test (zero_muted k nets marks))) (total k test (zero_muted k nets marks))) e ∙ ih
      go false t e ih = ap (λ z. cond (test net.pins) (k.join net.price z) z) ih

-- the placed pins are groups
pub placed_there : {P : Type 0} (row : List ℕ) (nets : List (Net P)) → OnPins (AllByRecursion (λ pin. pin < length row)) nets → OnPins (AllByRecursion (λ pin. pin < groups row)) (placed row nets)
placed_there row [] there = tt
placed_there row (net ∷ nets) there = (
  members_all (λ pin. pin < groups row) (map (place row) net.pins) (λ q h.
      let r : Member net.pins (λ p. q ≡ place row p) = member_of_map (place row) net.pins q h in
      subst (λ z. z < groups row) (sym r.2) (place_below_groups row r.0 (all_member (λ pin. pin < length row) net.pins r.0 there.0 r.1))),
  placed_there row nets there.1,
)

pub unmuted_there : {P : Type 0} (k : Kind P) (A : List ℕ → Type 0) (nets : List (Net P)) (marks : List Bool) → OnPins A nets → OnPins A (zero_muted k nets marks)
unmuted_there k A [] marks o = tt
unmuted_there k A (net ∷ nets) [] o = (o.0, unmuted_there k A nets [] o.1)
unmuted_there k A (net ∷ nets) (mark ∷ marks) o = (o.0, unmuted_there k A nets marks o.1)

-- with fewer than two groups all home modules are on one side
pub one_group_unlawful : (row : List ℕ) → groups row < 2 → (side : ℕ → Bool) → Lawful row side → ⊥
one_group_unlawful row h side w =
    let i : ℕ = w.some_on_a.0 in
    let j : ℕ = w.some_on_b.0 in
    both_ways (side i) w.some_on_a.2
    (w.keeps_groups i j w.some_on_a.1 w.some_on_b.1
    (level (place row i) (place row j) (place_below_groups row i w.some_on_a.1) (place_below_groups row j w.some_on_b.1))
    ∙ w.some_on_b.2)
  where
    level : (x y : ℕ) → x < groups row → y < groups row → x ≡ y
    level x y a b = omega arith

module _ (a b : ℕ) (row new : List ℕ) (u : United a b row new) where
  longer : (i : ℕ) → i < length row → i < length new
  longer i h = subst (λ z. i < z) (sym u.as_long) h

  shorter : (i : ℕ) → i < length new → i < length row
  shorter i h = subst (λ z. i < z) u.as_long h

  -- a lawful split with the two groups on one side stays lawful once they are united
  pub lawful_united : (side : ℕ → Bool) → Lawful row side → group_side row side a ≡ group_side row side b → Lawful new side
  lawful_united side w e = record {
    some_on_a = (w.some_on_a.0, longer w.some_on_a.0 w.some_on_a.1, w.some_on_a.2);
    some_on_b = (w.some_on_b.0, longer w.some_on_b.0 w.some_on_b.1, w.some_on_b.2);
    keeps_groups = λ i j hi hj q.
        ⊎_elim (λ r. w.keeps_groups i j (shorter i hi) (shorter j hj) r)
        (λ r. at_b i (shorter i hi) r.0 ∙ sym (at_b j (shorter j hj) r.1))
        (u.no_others i j (shorter i hi) (shorter j hj) q);
  }
    where
      at_b : (i : ℕ) → i < length row → InEither a b row i → side i ≡ group_side row side b
      at_b i h o = side_by_group row side w i h ∙ ⊎_elim (λ r. ap (group_side row side) r ∙ e) (λ r. ap (group_side row side) r) o

  -- what is lawful once they are united was lawful before
  pub lawful_before : (side : ℕ → Bool) → Lawful new side → Lawful row side
  lawful_before side w = record {
    some_on_a = (w.some_on_a.0, shorter w.some_on_a.0 w.some_on_a.1, w.some_on_a.2);
    some_on_b = (w.some_on_b.0, shorter w.some_on_b.0 w.some_on_b.1, w.some_on_b.2);
    keeps_groups = λ i j hi hj e. w.keeps_groups i j (longer i hi) (longer j hj) (u.kept i j hi hj e);
  }
