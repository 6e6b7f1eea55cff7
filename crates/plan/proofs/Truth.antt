-- The split that is found where changes stand is truthful, and what stands is right in the netlist's own terms.
use Rattle.std.proofs.Common.{◌≡◌, ℕ, ◌<◌, ◌≤◌, Bool, true, false, cond, ◌&&◌, eqb, ltb, List, [], ◌∷◌, length, Some, None, sym, refl, ap, ◌∙◌, subst, ap₂, ⊎_elim, arith}
use Rattle.std.specs.List.{AllByRecursion}
use Rattle.std.proofs.lemmas.Bool.{cases_lt, lt-ltb, eq-eqb, eqb-true}
use Rattle.price.specs.Kind.{Kind, Laws, NotGreater}
use Rattle.netlist.specs.Nets.{Net, OnPins}
use Rattle.netlist.specs.Places.{place}
use Rattle.netlist.specs.Meaning.{Meaning, Sound, homes, modules}
use Rattle.cut.specs.Cuts.{crosses, split_price}
use Rattle.cut.specs.Lawful as lawful
use Rattle.cut.specs.Lawful.{Lawful, unmarked, unmuted}
use Rattle.cut.specs.SidesWord.{sides_word}
use Rattle.cut.specs.SplitLaws.{FoundFor}
use Rattle.cut.specs.declared.found.FoundSplit.{FoundSplit}
use Rattle.cut.proofs.Members.{all_member, crosses_like}
use Rattle.cut.proofs.Totals.{on_pins_map, total_like}
use Rattle.cut.proofs.RoundsFind.{split_is_cheapest_lem}
use Rattle.cut.proofs.SideBits.{sides_word_has_each_side_lem}
use Rattle.standing.specs.declared.change.Change.{Change}
use Rattle.standing.specs.Standing.{applied}
use Rattle.standing.specs.StandingSound.{applied_sound}
use Rattle.plan.specs.Reckoning.{answered, found}
use Rattle.plan.specs.Promise.{LawfulSplit, true_price, side_of, Truthful, KeepsAll, StandingRight}
use Rattle.std.proofs.lemmas.Option.{none-some}
use Rattle.plan.proofs.Changes.{nets_applied, homes_applied, mutes_applied, Named, keeps_both}

side_back : (b c : Bool) → c ≡ true → eqb (cond (c && b) 1 0) 1 ≡ b
side_back true c e = subst (λ z. eqb (cond (z && true) 1 0) 1 ≡ true) (sym e) refl
side_back false c e = subst (λ z. eqb (cond (z && false) 1 0) 1 ≡ false) (sym e) refl

-- the sides word tells each home module's side
pub told_side : (count : ℕ) (side : ℕ → Bool) → count ≤ 64 → (i : ℕ) → i < count → side_of (sides_word count side) i ≡ side i
told_side count side few i h =
    ap (λ bit. eqb bit 1) ((sides_word_has_each_side_lem count side few).bits i (omega arith)) ∙ side_back (side i) (ltb i count) (lt-ltb i count h)

-- splits with the same sides of home modules
abbrev AlikeBelow : ℕ → (ℕ → Bool) → (ℕ → Bool) → Type 0
AlikeBelow n c d = (i : ℕ) → i < n → c i ≡ d i

lawful_like : (row : List ℕ) (c d : ℕ → Bool) → AlikeBelow (length row) c d → Lawful row d → Lawful row c
lawful_like row c d like l = record {
  some_on_a = (l.some_on_a.0, l.some_on_a.1, like l.some_on_a.0 l.some_on_a.1 ∙ l.some_on_a.2);
  some_on_b = (l.some_on_b.0, l.some_on_b.1, like l.some_on_b.0 l.some_on_b.1 ∙ l.some_on_b.2);
  keeps_groups = λ i j hi hj e. like i hi ∙ (l.keeps_groups i j hi hj e ∙ sym (like j hj));
}

price_like : {P : Type 0} (k : Kind P) → Laws k → (n : ℕ) (c d : ℕ → Bool) (nets : List (Net P)) → OnPins (AllByRecursion (λ pin. pin < n)) nets → AlikeBelow n c d
    → split_price k c nets ≡ split_price k d nets
price_like k l n c d nets there like =
    total_like k l (crosses c) (crosses d) nets
    (on_pins_map (AllByRecursion (λ pin. pin < n)) (λ pins. crosses c pins ≡ crosses d pins) nets
    (λ pins low. crosses_like c d pins (λ p h. like p (all_member (λ pin. pin < n) pins p low h))) there)

unmarked_there : {P : Type 0} (test : List ℕ → Type 0) (nets : List (Net P)) (marks : List Bool) → OnPins test nets → OnPins test (unmarked nets marks)
unmarked_there test [] marks h = tt
unmarked_there test (net ∷ nets) [] h = (h.0, unmarked_there test nets [] h.1)
unmarked_there test (net ∷ nets) (true ∷ marks) h = unmarked_there test nets marks h.1
unmarked_there test (net ∷ nets) (false ∷ marks) h = (h.0, unmarked_there test nets marks h.1)

module _ {P : Type 0} (k : Kind P) (l : Laws k) (m : Meaning P) (s : Sound m) where
  true_prices : (cs : List Change) (side : ℕ → Bool) → split_price k side (unmuted (applied m cs)) ≡ true_price k m cs side
  true_prices cs side = ap₂ (λ nets marks. split_price k side (unmarked nets marks)) (nets_applied m cs) (mutes_applied m cs)

  module _ (cs : List Change) (named : Named m cs) where
    abbrev row : List ℕ
    row = (applied m cs).places

    longer : (i : ℕ) → i < homes m → i < length row
    longer i h = subst (λ z. i < z) (sym (homes_applied m cs)) h

    shorter : (i : ℕ) → i < length row → i < homes m
    shorter i h = subst (λ z. i < z) (homes_applied m cs) h

    pub to_lawful : (side : ℕ → Bool) → LawfulSplit m cs side → Lawful row side
    to_lawful side v = record {
      some_on_a = (v.some_on_a.0, longer v.some_on_a.0 v.some_on_a.1, v.some_on_a.2);
      some_on_b = (v.some_on_b.0, longer v.some_on_b.0 v.some_on_b.1, v.some_on_b.2);
      keeps_groups = (keeps_both m s cs named side).1 v.groups_kept v.straps_kept;
    }

    pub from_lawful : (side : ℕ → Bool) → Lawful row side → LawfulSplit m cs side
    from_lawful side v =
        let kept = (keeps_both m s cs named side).0 v.keeps_groups in
        record {
          some_on_a = (v.some_on_a.0, shorter v.some_on_a.0 v.some_on_a.1, v.some_on_a.2);
          some_on_b = (v.some_on_b.0, shorter v.some_on_b.0 v.some_on_b.1, v.some_on_b.2);
          groups_kept = kept.0;
          straps_kept = kept.1;
        }

    pub standing_right : StandingRight m cs
    standing_right = record {
      one_group = λ a b ha hb e side kept. (keeps_both m s cs named side).1 kept.groups_kept kept.straps_kept a b (longer a ha) (longer b hb) e;
      not_parted = λ a b ha hb h. sym (eqb-true (place row b) (place row a) (sym (h (with_group a) (kept_with a)) ∙ eq-eqb (place row a) (place row a) refl));
      mutes = mutes_applied m cs;
    }
      where
        with_group : ℕ → ℕ → Bool
        with_group a i = eqb (place (applied m cs).places i) (place (applied m cs).places a)

        kept_with : (a : ℕ) → KeepsAll m cs (with_group a)
        kept_with a =
            let kept = (keeps_both m s cs named (with_group a)).0 (λ i j hi hj e. ap (λ z. eqb z (place (applied m cs).places a)) e) in
            record { groups_kept = kept.0; straps_kept = kept.1 }

    -- a split found by the rounds, as it is answered
    answered_truthful : (v : lawful.Split P) → FoundFor k (applied m cs) v → Truthful k m cs (record { sides = sides_word (homes (applied m cs)) v.side; price = v.price })
    answered_truthful v f =
        let c = f.cheapest in
        let sound = applied_sound m s cs in
        let like : AlikeBelow (length row) (side_of (sides_word (length row) v.side)) v.side = told_side (length row) v.side sound.few_homes in
        let low : 0 < length row = let h = c.lawful.some_on_a.1 in omega arith in
        record {
          lawful = from_lawful (side_of (sides_word (length row) v.side)) (lawful_like row (side_of (sides_word (length row) v.side)) v.side like c.lawful);
          price_true =
              c.true_price
              ∙ (sym (price_like k l (length row) (side_of (sides_word (length row) v.side)) v.side (unmuted (applied m cs))
              (unmarked_there (AllByRecursion (λ pin. pin < length row)) (applied m cs).nets (applied m cs).muted sound.pins_there) like)
              ∙ true_prices cs (side_of (sides_word (length row) v.side)));
          none_cheaper = λ side o. subst (λ p. NotGreater k v.price p) (true_prices cs side) (c.none_cheaper side (to_lawful side o));
          first_on_a = like 0 low ∙ f.first_on_a;
        }

    -- with fewer than two groups nothing is found and no split is lawful
    pub too_few : modules (applied m cs) < 2 → (found k (applied m cs) ≡ None) × ((side : ℕ → Bool) → LawfulSplit m cs side → ⊥)
    unfolding found
    too_few few =
        let outcome = (split_is_cheapest_lem k l (applied m cs) (applied_sound m s cs)).fewer few in
        (ap (answered (homes (applied m cs))) outcome.0, λ side o. outcome.1 side (to_lawful side o))

    pub two_found : 1 < modules (applied m cs) → (v : FoundSplit P) × (found k (applied m cs) ≡ Some v) × Truthful k m cs v
    unfolding found
    two_found two =
        let outcome = (split_is_cheapest_lem k l (applied m cs) (applied_sound m s cs)).two_modules two in (
          record { sides = sides_word (homes (applied m cs)) outcome.0.side; price = outcome.0.price },
          ap (answered (homes (applied m cs))) outcome.1,
          answered_truthful outcome.0 outcome.2,
        )

    pub found_truthful : (v : FoundSplit P) → found k (applied m cs) ≡ Some v → Truthful k m cs v
    found_truthful v e =
        ⊎_elim (λ few. absurd (none-some v (sym (too_few few).0 ∙ e)))
        (λ two.
        let there = two_found (omega arith) in
        let same : there.0 ≡ v = let f = there.1 in cc in
        subst (λ w. Truthful k m cs w) same there.2)
        (cases_lt (modules (applied m cs)) 2)
