-- From the modules' sides to the home modules' sides, and the answer of a split.
use Rattle.std.proofs.Common.{◌≡◌, ◌++◌, drop, replicate, ap₂, ℕ, ◌-◌, ◌^◌, ◌<◌, ◌≤◌, Bool, true, false, cond, ◌&&◌, eqb, ltb, List, length, Some, None, Ok, Err, Option, MatchOption, sym, refl, ap, ◌∙◌, ⊎_elim, arith}
use Rattle.std.specs.List.{slice_get, AllByRecursion}
use Rattle.std.proofs.lemmas.Bool.{le-ltb, lt-ltb, cases_lt}
use Rattle.std.proofs.lemmas.Option.{get_or_from_slice_get}
use Rattle.refusal.specs.declared.Fault.TheVariants.{TooFewGroups}
use Rattle.moduleset.specs.Words.{digit, has as is_in}
use Rattle.moduleset.proofs.Sets.{has_digit, same_sets}
use Rattle.price.specs.Kind.{Kind, Laws}
use Rattle.netlist.specs.Nets.{Net, OnPins}
use Rattle.netlist.specs.Places.{place}
use Rattle.netlist.specs.Meaning.{Meaning, Sound, homes, modules, own_nets}
use Rattle.netlist.proofs.Numbering.{place_below_groups}
use Rattle.cut.specs.Cuts.{crosses, split_price}
use Rattle.cut.specs.Lawful.{Split, Cheapest, unmuted}
use Rattle.cut.specs.ModuleRounds.{SameByPlaces}
use Rattle.cut.specs.SidesWord.{sides_word}
use Rattle.cut.proofs.Members.{all_member, crosses_like}
use Rattle.cut.proofs.Totals.{total_like, on_pins_map}
use Rattle.cut.proofs.RoundsFind.{split_is_cheapest_lem}
use Rattle.cut.proofs.OverModules.{rounds_over_modules_lem}
use Rattle.cut.proofs.SideBits.{sides_word_has_each_side_lem}
use Rattle.partition.specs.Pulls.{cleared}
use Rattle.partition.specs.Rounds.{by_set, FoundOver}
use Rattle.partition.specs.Splits.{told, SplitCall}
use Rattle.grouping.proofs.Nth.{nth_past}
use Rattle.grouping.proofs.OwnNets.{modules_few, modules_homes, unmarked_there}
use Rattle.partition.proofs.Cells.{drop_further}

-- whether the place of a home module is in a set, by the place that is answered
pub side_at : (row : List ℕ) (sides i : ℕ) (answer : Option ℕ) (r : Bool) (Q : ℕ → Type 0) → i < length row → answer ≡ slice_get row i → MatchOption answer (r ≡ false) Q
    → ((p : ℕ) → Q p → r ≡ is_in sides p) → is_in sides (place row i) ≡ r
side_at row sides i None r Q h e f q = absurd (omega (arith, h, nth_past row i e))
side_at row sides i (Some p) r Q h e f q = ap (is_in sides) (get_or_from_slice_get row i p 0 (sym e)) ∙ sym (q p f)

-- the sides word as a set
module _ (n : ℕ) (side : ℕ → Bool) (few : n ≤ 64) where
  word_has : (i : ℕ) → i < 64 → is_in (sides_word n side) i ≡ (ltb i n && side i)
  unfolding digit
  word_has i h = has_digit (sides_word n side) i h ∙ ap (λ (x : ℕ). eqb x 1) ((sides_word_has_each_side_lem n side few).bits i h) ∙ one (ltb i n && side i)
    where
      one : (b : Bool) → eqb (cond b 1 0) 1 ≡ b
      one true = refl
      one false = refl

  pub word_is : (set : ℕ) → set < 2 ^ 64 → ((i : ℕ) → i < 64 → is_in set i ≡ (ltb i n && side i)) → set ≡ sides_word n side
  word_is set fits f = same_sets set (sides_word n side) fits (sides_word_has_each_side_lem n side few).fits (λ i h. f i h ∙ sym (word_has i h))

-- the same sides of the home modules, and the same price
module _ {P : Type 0} (k : Kind P) (l : Laws k) (row : List ℕ) (nets : List (Net P)) (there : OnPins (AllByRecursion (λ pin. pin < length row)) nets) (a b : Split P)
    (price : b.price ≡ a.price) (sides : (i : ℕ) → i < length row → b.side i ≡ a.side i) where
  price_like : split_price k b.side nets ≡ split_price k a.side nets
  price_like =
      total_like k l (crosses b.side) (crosses a.side) nets
      (on_pins_map (AllByRecursion (λ pin. pin < length row)) (λ ps. crosses b.side ps ≡ crosses a.side ps) nets
      (λ ps h. crosses_like b.side a.side ps (λ p i. sides p (all_member (λ pin. pin < length row) ps p h i))) there)

  pub cheapest_like : Cheapest k row nets a → Cheapest k row nets b
  cheapest_like c = record {
    lawful = record {
      some_on_a = (c.lawful.some_on_a.0, c.lawful.some_on_a.1, sides c.lawful.some_on_a.0 c.lawful.some_on_a.1 ∙ c.lawful.some_on_a.2);
      some_on_b = (c.lawful.some_on_b.0, c.lawful.some_on_b.1, sides c.lawful.some_on_b.0 c.lawful.some_on_b.1 ∙ c.lawful.some_on_b.2);
      keeps_groups = λ i j h q e. sides i h ∙ c.lawful.keeps_groups i j h q e ∙ sym (sides j q);
    };
    true_price = price ∙ c.true_price ∙ sym price_like;
    none_cheaper = λ side w. ap (λ x. k.less (split_price k side nets) x) price ∙ c.none_cheaper side w;
  }

module _ {P : Type 0} (k : Kind P) (l : Laws k) (m : Meaning P) (s : Sound m) (cells : List P) where
  pub few_groups : homes m ≤ length cells → modules m < 2 → SplitCall k m cells cells (Err TooFewGroups)
  few_groups h few =
      rw (le-ltb (length cells) (homes m) h, lt-ltb (modules m) 2 few)
      (record { refused = refl; cells_stay = refl; none_lawful = λ e. ((split_is_cheapest_lem k l m s).fewer few).1 })

  -- by the modules' set and the home modules' set, and the zeros before what stays
  pub splitted : (count h set word : ℕ) (p : P) (zeros after : List P) → count ≡ modules m → h ≡ homes m → 2 ≤ count → h ≤ length cells
      → FoundOver k (own_nets k m) count (by_set set p) → word < 2 ^ 64 → ((i : ℕ) → i < 64 → is_in word i ≡ (ltb i (homes m) && is_in set (place m.places i)))
      → zeros ≡ replicate h k.zero → drop count after ≡ drop count cells
      → SplitCall k m cells (zeros ++ drop h after) (Ok (record { sides = word; price = p }))
  splitted count h set word p zeros after same same_homes two room over fits sides zeroed later =
      let n : ℕ = modules m - 2 in
      let out = (split_is_cheapest_lem k l m s).two_modules (omega arith) in
      let split : Split P = out.0 in
      let by : SameByPlaces m.places split over.by_modules =
      rounds_over_modules_lem k l m over.row n s (omega arith) (omega (arith, modules_few m s, over.alone.long)) (λ v h. over.alone.own v (omega (arith, modules_few m s)))
      split over.by_modules out.1 (over.found n (omega arith)) in
      let small : (i : ℕ) → i < homes m → place m.places i < 64 = λ i h. omega (arith, place_below_groups m.places i h, modules_few m s) in
      let home_side : (i : ℕ) → i < homes m → is_in set (place m.places i) ≡ split.side i =
      λ i h. over.same.same_sides (place m.places i) (small i h) ∙ sym (by.same_sides i h) in
      let bits : (i : ℕ) → i < 64 → is_in word i ≡ (ltb i (homes m) && split.side i) =
      λ i h. sides i h ∙ within (λ j. is_in set (place m.places j)) split.side home_side i in
      let price_is : p ≡ split.price = over.same.same_price ∙ sym by.same_price in
      rw (le-ltb (length cells) (homes m) (omega (arith, room, same_homes)), le-ltb (modules m) 2 (omega (arith, two, same)))
      (record {
        split = split;
        by_rounds = out.1;
        first_on_a = out.2.first_on_a;
        first_of_lowest = out.2.first_of_lowest;
        answer = record { sides = word; price = p };
        answered = refl;
        sides = word_is (homes m) split.side s.few_homes word fits bits;
        price = price_is;
        cheapest = cheapest_like k l m.places (unmuted m) (unmarked_there (AllByRecursion (λ pin. pin < homes m)) m.nets m.muted s.pins_there) split
            (told (record { sides = word; price = p })) price_is
            (λ i h. bits i (omega (arith, s.few_homes)) ∙ ap (λ b. b && split.side i) (lt-ltb i (homes m) h)) out.2.cheapest;
        zeroed = ap₂ (λ xs ys. xs ++ ys) zeroed (drop_further count h after cells (omega (arith, modules_homes m s, same, same_homes)) later)
            ∙ ap (λ (n : ℕ). cleared k n cells) same_homes;
      })
    where
      within : (f g : ℕ → Bool) → ((i : ℕ) → i < homes m → f i ≡ g i) → (i : ℕ) → (ltb i (homes m) && f i) ≡ (ltb i (homes m) && g i)
      within f g e i = ⊎_elim
          (λ h. ap (λ b. ltb i (homes m) && b) (e i h))
          (λ h. ap (λ b. b && f i) (le-ltb i (homes m) h) ∙ sym (ap (λ b. b && g i) (le-ltb i (homes m) h)))
          (cases_lt i (homes m))
