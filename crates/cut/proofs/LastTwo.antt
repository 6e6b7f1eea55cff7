-- The last two of an order: the last is pulled at the price of parting it off alone, and no split that parts the two is cheaper.
use Rattle.std.proofs.Common.{◌≡◌, ℕ, ◌<◌, Bool, true, false, eqb, List, [], ◌∷◌, sym, refl, ◌∙◌, subst, ⊎_elim, arith}
use Rattle.std.specs.List.{AllByRecursion}
use Rattle.std.proofs.lemmas.Bool.{both_ways, eqb-true, eq-eqb, and_parts, or_cases}
use Rattle.price.specs.Kind.{Kind, NotGreater, Laws}
use Rattle.netlist.specs.Nets.{Net, OnPins}
use Rattle.cut.specs.Cuts.{has, crosses, pulls, total, pull, split_price, alone}
use Rattle.std.specs.List.{list_all}
use Rattle.cut.specs.Orders.{TakenAsListed, IsOrder, Ending, ending_after, ending}
use Rattle.cut.specs.OrderLaws.{LastParted, LastPartedCheapest}
use Rattle.cut.proofs.Members.{has_head, has_tail, has_at_head, has_one, Member, any_member, member_any, members_every, all_member, same_tests, crosses_by, crossing_pins, pulls_parts, pulls_from}
use Rattle.cut.proofs.Totals.{le_trans, total_le, total_like, on_pins_map}
use Rattle.cut.proofs.PullBound.{and_also, crosses_within, Bounded, pull_bounded}

-- once all pins are at v or in the set, a net pulls v exactly when it crosses the split that parts off v
pulls_as_alone : (v : ℕ) (among : ℕ → Bool) (ps : List ℕ) → among v ≡ false → ((p : ℕ) → has ps p ≡ true → and_also v among p ≡ true) → pulls v among ps ≡ crosses (alone v) ps
pulls_as_alone v among ps new all = same_tests (pulls v among ps) (crosses (alone v) ps)
    (λ h.
    let a = pulls_parts v among ps h in
    let q : Member ps (λ p. among p ≡ true) = any_member among ps a.1 in
    crosses_by (alone v) ps v q.0 a.0 q.1
    (λ e. both_ways (among v) new (subst (λ z. among z ≡ true) (eqb-true q.0 v (sym e ∙ eq-eqb v v refl)) q.2)))
    (λ h.
    let r : Member ps (λ p. alone v p ≡ true) × Member ps (λ q. alone v q ≡ false) = crossing_pins (alone v) ps h in
    let at_v : has ps v ≡ true = subst (λ z. has ps z ≡ true) (eqb-true r.0.0 v r.0.2) r.0.1 in
    let q : ℕ = r.1.0 in
    pulls_from v among ps at_v
    (member_any among ps q r.1.1 (⊎_elim (λ e. absurd (both_ways (eqb q v) r.1.2 e)) (λ e. e) (or_cases (eqb q v) (among q) (all q r.1.1))))
    (members_every (and_also v among) ps all))

module _ {P : Type 0} (k : Kind P) (l : Laws k) (nets : List (Net P)) (m : ℕ) (there : OnPins (AllByRecursion (λ pin. pin < m)) nets) where
  last_parted : (u v : ℕ) (before rest : List ℕ) → TakenAsListed k nets m (u ∷ before) (v ∷ rest) → ((side : ℕ → Bool) → Bounded k l nets side u before (v ∷ rest))
      → LastParted k nets (ending_after before u v rest)
  last_parted u v before (w ∷ ws) t b = last_parted v w (u ∷ before) ws t.1 (λ side. (b side).1)
  last_parted u v before [] t b =
      let all_taken : (p : ℕ) → p < m → and_also v (has (u ∷ before)) p ≡ true = t.1 in
      let e : pull k nets v (has (u ∷ before)) ≡ split_price k (alone v) nets =
      total_like k l (pulls v (has (u ∷ before))) (crosses (alone v)) nets
      (on_pins_map (AllByRecursion (λ pin. pin < m)) (λ ps. pulls v (has (u ∷ before)) ps ≡ crosses (alone v) ps) nets
      (λ ps a. pulls_as_alone v (has (u ∷ before)) ps t.0.waits (λ p i. all_taken p (all_member (λ pin. pin < m) ps p a i))) there) in
      record {
        pulled_at_price = e;
        none_cheaper = λ side d.
            subst (λ z. NotGreater k z (split_price k side nets)) e
            (le_trans k l (pull k nets v (has (u ∷ before))) (total k (crosses_within side (has (v ∷ u ∷ before))) nets) (split_price k side nets) ((b side).0 d)
            (total_le k l (crosses_within side (has (v ∷ u ∷ before))) (crosses side) nets (λ ps h. (and_parts (crosses side ps) (list_all (has (v ∷ u ∷ before)) ps) h).0)));
      }

  pub order_last_parted : 1 < m → (list : List ℕ) → IsOrder k nets m list → LastParted k nets (ending list)
  order_last_parted h [] o = absurd (omega (arith, o))
  order_last_parted h (u ∷ []) o = absurd (omega (arith, has_one 0 1 (o.2 1 h)))
  order_last_parted h (u ∷ v ∷ vs) o =
      subst (λ z. LastParted k nets (ending_after [] z v vs)) (sym o.1)
      (last_parted 0 v [] vs o.2 (λ side. pull_bounded k l nets side m 0 (v ∷ vs) o.2))

pub last_parted_cheapest_lem : {P : Type 0} (k : Kind P) → Laws k → LastPartedCheapest k
last_parted_cheapest_lem k l nets m list there h o = order_last_parted k l nets m there h list o

-- The last two are different modules, both there, and the last is not module 0.
pub record TwoApart (m : ℕ) (end : Ending) : Type 0 where
  pub differ : end.next_to_last ≡ end.last → ⊥
  pub next_there : end.next_to_last < m
  pub last_there : end.last < m
  pub not_first : end.last ≡ 0 → ⊥

module _ {P : Type 0} (k : Kind P) (nets : List (Net P)) (m : ℕ) where
  two_apart : (u v : ℕ) (before rest : List ℕ) → TakenAsListed k nets m (u ∷ before) (v ∷ rest) → u < m → has (u ∷ before) 0 ≡ true → TwoApart m (ending_after before u v rest)
  two_apart u v before (w ∷ ws) t hu z = two_apart v w (u ∷ before) ws t.1 t.0.there (has_tail v (u ∷ before) 0 z)
  two_apart u v before [] t hu z = record {
    differ = λ e. both_ways (has (u ∷ before) v) t.0.waits (has_at_head u before v (sym e));
    next_there = hu;
    last_there = t.0.there;
    not_first = λ e. both_ways (has (u ∷ before) v) t.0.waits (subst (λ x. has (u ∷ before) x ≡ true) (sym e) z);
  }

  pub order_two_apart : 1 < m → (list : List ℕ) → IsOrder k nets m list → TwoApart m (ending list)
  order_two_apart h [] o = absurd (omega (arith, o))
  order_two_apart h (u ∷ []) o = absurd (omega (arith, has_one 0 1 (o.2 1 h)))
  order_two_apart h (u ∷ v ∷ vs) o =
      subst (λ z. TwoApart m (ending_after [] z v vs)) (sym o.1) (two_apart 0 v [] vs o.2 (omega arith) (has_head 0 []))
