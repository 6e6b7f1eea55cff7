-- The rounds note lawful splits at their true price, and for every lawful split one that is not dearer; so they find a cheapest one.
use Rattle.std.proofs.Common.{◌≡◌, ℕ, zero, suc, pred, ◌<◌, Bool, false, List, length, get_or, Some, None, sym, refl, ap, ◌∙◌, subst, ⊎_elim, arith}
use native.Mathlib.Nat.{suc_inj}
use Rattle.std.specs.List.{AllByRecursion}
use Rattle.std.proofs.ByRecursion.{All-get_or, All-weaker}
use Rattle.std.proofs.lemmas.Bool.{eq-eqb, ne_eqb}
use Rattle.price.specs.Kind.{Kind, NotGreater, Laws}
use Rattle.netlist.specs.Nets.{Net, OnPins}
use Rattle.netlist.specs.Places.{place, groups, Numbered, placed}
use Rattle.netlist.specs.Meaning.{zero_muted, own_nets}
use Rattle.netlist.specs.Changes.{united}
use Rattle.netlist.specs.Uniting.{United}
use Rattle.netlist.proofs.Numbering.{uniting, first_place}
use Rattle.cut.specs.Cuts.{split_price, alone, crosses}
use Rattle.cut.specs.Lawful.{Split, Lawful, Cheapest, CheapestFor}
use Rattle.cut.specs.Orders.{Ending, order}
use Rattle.cut.specs.Rounds.{round_ending, parting, noted, cheapest_after, cheapest_of, split_of}
use Rattle.cut.specs.SplitLaws.{FirstOfLowest, FoundByRounds, RoundsOutcome, RoundsFindCheapest, MutedCostNothing, SplitIsCheapest}
use Rattle.cut.proofs.Members.{same_side}
use Rattle.cut.proofs.Totals.{le_trans}
use Rattle.cut.proofs.OrderFound.{order_is}
use Rattle.cut.proofs.LastTwo.{TwoApart, order_two_apart, order_last_parted}
use Rattle.cut.proofs.FirstLowest.{cheapest_first}
use Rattle.cut.proofs.Groups.{group_member, home_of, home_there, group_side, placed_price, group_price, total_unmuted, placed_there, unmuted_there, one_group_unlawful, lawful_united, lawful_before}

module _ {P : Type 0} (k : Kind P) (l : Laws k) (nets : List (Net P)) where
  -- lawful, at its true price, with home module 0 on side A
  abbrev Proper : List ℕ → Split P → Type 0
  Proper row split = Lawful row split.side × (split.price ≡ split_price k split.side nets) × (split.side 0 ≡ false)

  parting_proper : (row : List ℕ) (end : Ending) → Numbered 0 row → TwoApart (groups row) end → Proper row (parting k nets row end.last)
  parting_proper row end w d =
      let a = home_there row end.next_to_last (group_member row w end.next_to_last d.next_there) in
      let b = home_there row end.last (group_member row w end.last d.last_there) in (
        record {
          some_on_a = (home_of row end.next_to_last, a.0, ne_eqb (place row (home_of row end.next_to_last)) end.last (λ q. d.differ (sym a.1 ∙ q)));
          some_on_b = (home_of row end.last, b.0, eq-eqb (place row (home_of row end.last)) end.last b.1);
          keeps_groups = λ i j _ _ q. ap (alone end.last) q;
        },
        placed_price k (alone end.last) row nets,
        ne_eqb (place row 0) end.last (λ q. d.not_first (sym q ∙ first_place row w)),
      )

  -- the end of a round's order
  round_two_apart : (row : List ℕ) → 1 < groups row → TwoApart (groups row) (round_ending k nets row)
  round_two_apart row g = order_two_apart k (placed row nets) (groups row) g (order k (placed row nets) (groups row)) (order_is k l (placed row nets) (groups row))

  abbrev pub next_row : List ℕ → List ℕ
  next_row row = united (round_ending k nets row).next_to_last (round_ending k nets row).last row

  pub round_united : (row : List ℕ) → Numbered 0 row → 1 < groups row → United (round_ending k nets row).next_to_last (round_ending k nets row).last row (next_row row)
  round_united row w g =
      let d = round_two_apart row g in
      let end = round_ending k nets row in
      uniting end.next_to_last end.last row w d.next_there d.last_there d.differ

  noted_proper : (n : ℕ) (row : List ℕ) → Numbered 0 row → groups row ≡ suc n → AllByRecursion (Proper row) (noted k nets n row)
  unfolding noted
  noted_proper zero row w g = tt
  noted_proper (suc n) row w g =
      let end = round_ending k nets row in
      let u = round_united row w (omega arith) in (
        parting_proper row end w (round_two_apart row (omega arith)),
        All-weaker (Proper (next_row row)) (Proper row)
            (λ s h. (lawful_before end.next_to_last end.last row (next_row row) u s.side h.0, h.1, h.2))
            (noted k nets n (next_row row)) (noted_proper n (next_row row) u.numbered (suc_inj (u.one_fewer ∙ g))),
      )

  -- a lawful split that parts the last two groups is not cheaper than parting off the last
  parting_low : (row : List ℕ) → 1 < groups row → OnPins (AllByRecursion (λ pin. pin < length row)) nets → (side : ℕ → Bool) → Lawful row side
      → (group_side row side (round_ending k nets row).next_to_last ≡ group_side row side (round_ending k nets row).last → ⊥)
      → NotGreater k (parting k nets row (round_ending k nets row).last).price (split_price k side nets)
  parting_low row g there side w d =
      subst (λ z. NotGreater k (parting k nets row (round_ending k nets row).last).price z) (group_price k l row side nets w there)
      ((order_last_parted k l (placed row nets) (groups row) (placed_there row nets there) g (order k (placed row nets) (groups row)) (order_is k l (placed row nets) (groups row))).none_cheaper
      (group_side row side) d)

  -- some split of the list is not dearer
  abbrev NotDearerIn : List (Split P) → P → Type 0
  NotDearerIn list p = (j : ℕ) × (j < length list) × ((d : Split P) → NotGreater k (get_or list j d).price p)

  noted_low : (n : ℕ) (row : List ℕ) → Numbered 0 row → groups row ≡ suc n → OnPins (AllByRecursion (λ pin. pin < length row)) nets → (side : ℕ → Bool) → Lawful row side
      → NotDearerIn (noted k nets n row) (split_price k side nets)
  unfolding noted
  noted_low zero row w g there side lawful = absurd (one_group_unlawful row (omega arith) side lawful)
  noted_low (suc n) row w g there side lawful =
      let end = round_ending k nets row in
      let u = round_united row w (omega arith) in
      ⊎_elim
      (λ e.
      let later : NotDearerIn (noted k nets n (next_row row)) (split_price k side nets) =
      noted_low n (next_row row) u.numbered (suc_inj (u.one_fewer ∙ g)) (subst (λ z. OnPins (AllByRecursion (λ pin. pin < z)) nets) (sym u.as_long) there) side
      (lawful_united end.next_to_last end.last row (next_row row) u side lawful e) in
      (suc later.0, omega (arith, later.1), later.2))
      (λ d. (0, omega arith, λ _. parting_low row (omega arith) there side lawful d))
      (same_side (group_side row side end.next_to_last) (group_side row side end.last))

  found : (n : ℕ) (row : List ℕ) → Numbered 0 row → groups row ≡ suc n → OnPins (AllByRecursion (λ pin. pin < length row)) nets → (split : Split P)
      → FirstOfLowest k (noted k nets n row) split → Cheapest k row nets split × (split.side 0 ≡ false)
  found n row w g there split f =
      let list = noted k nets n row in
      let proper : Proper row split = subst (Proper row) (f.there split) (All-get_or (Proper row) list f.index split f.within (noted_proper n row w g)) in (
        record {
          lawful = proper.0;
          true_price = proper.1;
          none_cheaper = λ side lawful.
              (let low : NotDearerIn list (split_price k side nets) = noted_low n row w g there side lawful in
              le_trans k l split.price (get_or list low.0 split).price (split_price k side nets) (f.none_cheaper low.0 split low.1) (low.2 split));
        },
        proper.2,
      )

  -- at two groups and more
  pub found_by_rounds : (n : ℕ) (row : List ℕ) → Numbered 0 row → groups row ≡ suc (suc n) → OnPins (AllByRecursion (λ pin. pin < length row)) nets
      → (split : Split P) × (cheapest_of k (noted k nets (suc n) row) ≡ Some split) × FoundByRounds k nets row split
  unfolding noted
  found_by_rounds n row w g there =
      let a = parting k nets row (round_ending k nets row).last in
      let bs = noted k nets n (next_row row) in
      let first : FirstOfLowest k (noted k nets (suc n) row) (cheapest_after k a bs) = cheapest_first k l a bs in
      let r : Cheapest k row nets (cheapest_after k a bs) × ((cheapest_after k a bs).side 0 ≡ false) = found (suc n) row w g there (cheapest_after k a bs) first in (
        cheapest_after k a bs,
        refl,
        record { cheapest = r.0; first_on_a = r.1; first_of_lowest = subst (λ z. FirstOfLowest k (noted k nets (pred z) row) (cheapest_after k a bs)) (sym g) first },
      )

  noted_none : (row : List ℕ) (g : ℕ) → g < 2 → cheapest_of k (noted k nets (pred g) row) ≡ None
  unfolding noted
  noted_none row zero h = refl
  noted_none row (suc zero) h = refl
  noted_none row (suc (suc n)) h = absurd (omega arith)

pub rounds_find_cheapest_lem : {P : Type 0} (k : Kind P) → Laws k → RoundsFindCheapest k
rounds_find_cheapest_lem {P} k l nets row w there = record {
  two_groups = λ h. two (groups row) refl h;
  fewer = λ h. (noted_none k l nets row (groups row) h, one_group_unlawful row h);
}
  where
    two : (g : ℕ) → groups row ≡ g → 1 < g
        → (split : Split P) × (cheapest_of k (noted k nets (pred g) row) ≡ Some split) × FoundByRounds k nets row split
    two zero e h = absurd (omega arith)
    two (suc zero) e h = absurd (omega arith)
    two (suc (suc n)) e h = found_by_rounds k l nets n row w e there

pub muted_cost_nothing_lem : {P : Type 0} (k : Kind P) → Laws k → MutedCostNothing k
unfolding own_nets
muted_cost_nothing_lem k l m side =
    placed_price k side m.places (zero_muted k m.nets m.muted) ∙ total_unmuted k l (crosses (λ i. side (place m.places i))) m.nets m.muted

pub split_is_cheapest_lem : {P : Type 0} (k : Kind P) → Laws k → SplitIsCheapest k
unfolding split_of
split_is_cheapest_lem {P} k l m s = record {
  two_modules = λ h.
      (let r = rounds.two_groups h in
      (r.0, r.1, record { cheapest = over_unmuted r.0 r.2.cheapest; first_on_a = r.2.first_on_a; first_of_lowest = r.2.first_of_lowest }));
  fewer = rounds.fewer;
}
  where
    rounds : RoundsOutcome k (zero_muted k m.nets m.muted) m.places
    rounds = rounds_find_cheapest_lem k l (zero_muted k m.nets m.muted) m.places s.numbered
        (unmuted_there k (AllByRecursion (λ pin. pin < length m.places)) m.nets m.muted s.pins_there)

    over_unmuted : (split : Split P) → Cheapest k m.places (zero_muted k m.nets m.muted) split → CheapestFor k m split
    over_unmuted split c = record {
      lawful = c.lawful;
      true_price = c.true_price ∙ total_unmuted k l (crosses split.side) m.nets m.muted;
      none_cheaper = λ side w. subst (λ z. NotGreater k split.price z) (total_unmuted k l (crosses side) m.nets m.muted) (c.none_cheaper side w);
    }
