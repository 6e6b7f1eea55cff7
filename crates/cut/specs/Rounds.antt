-- The rounds: while two groups remain, order them, note the split that parts off the last group, and unite the last two.
use Rattle.std.specs.Prelude.{ℕ, zero, suc, pred, cond, List, [], ◌∷◌, Some, None, Option}
use Rattle.price.specs.Kind.{Kind}
use Rattle.netlist.specs.Nets.{Net}
use Rattle.netlist.specs.Places.{place, groups, placed}
use Rattle.netlist.specs.Meaning.{Meaning, zero_muted}
use Rattle.netlist.specs.Changes.{united}
use Rattle.cut.specs.Cuts.{split_price, alone}
use Rattle.cut.specs.Orders.{order, Ending, ending}
use Rattle.cut.specs.Lawful.{Split}

-- the end of the order of the row's groups
abbrev pub round_ending : {P : Type 0} → Kind P → List (Net P) → List ℕ → Ending
round_ending k nets row = ending (order k (placed row nets) (groups row))

-- the split that parts off one group
abbrev pub parting : {P : Type 0} → Kind P → List (Net P) → List ℕ → ℕ → Split P
parting k nets row group = record { side = λ i. alone group (place row i); price = split_price k (alone group) (placed row nets) }

-- the splits noted in so many rounds, the first round's first
unfoldable pub noted : {P : Type 0} → Kind P → List (Net P) → ℕ → List ℕ → List (Split P)
noted k nets zero row = []
noted k nets (suc n) row =
    let end = round_ending k nets row in
    parting k nets row end.last ∷ noted k nets n (united end.next_to_last end.last row)

-- as long as two groups remain: a round leaves one fewer
abbrev pub all_noted : {P : Type 0} → Kind P → List (Net P) → List ℕ → List (Split P)
all_noted k nets row = noted k nets (pred (groups row)) row

-- the cheaper of two, the first on equal prices
abbrev pub cheaper : {P : Type 0} → Kind P → Split P → Split P → Split P
cheaper k a b = cond (k.less b.price a.price) b a

abbrev pub cheapest_after : {P : Type 0} → Kind P → Split P → List (Split P) → Split P
cheapest_after k a [] = a
cheapest_after k a (b ∷ bs) = cheapest_after k (cheaper k a b) bs

-- of a list the split of lowest price, the earliest on equal prices
abbrev pub cheapest_of : {P : Type 0} → Kind P → List (Split P) → Option (Split P)
cheapest_of k [] = None
cheapest_of k (a ∷ bs) = Some (cheapest_after k a bs)

-- the splits noted of a meaning, and the one that is found
abbrev pub noted_of : {P : Type 0} → Kind P → Meaning P → List (Split P)
noted_of k m = all_noted k (zero_muted k m.nets m.muted) m.places

unfoldable pub split_of : {P : Type 0} → Kind P → Meaning P → Option (Split P)
split_of k m = cheapest_of k (noted_of k m)
