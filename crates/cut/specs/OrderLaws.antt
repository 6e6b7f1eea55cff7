-- What holds of orders, for every price kind.
use Rattle.std.specs.Prelude.{◌≡◌, ℕ, ◌<◌, Bool, cond, List, ◌∷◌, length, count_by, ◌≢◌, nat_eq, nat_lt}
use Rattle.std.specs.List.{AllByRecursion}
use Rattle.price.specs.Kind.{Kind, NotGreater}
use Rattle.netlist.specs.Nets.{Net, OnPins}
use Rattle.cut.specs.Cuts.{has, split_price, pull, alone}
use Rattle.cut.specs.Orders.{IsOrder, order, Ending, ending}

-- `order` obeys the rule, and it is the only list that does.
abbrev pub OrderIsTheOnlyOne : {P : Type 0} → Kind P → Type 0
OrderIsTheOnlyOne {P} k = (nets : List (Net P)) (m : ℕ) → IsOrder k nets m (order k nets m) × ((list : List ℕ) → IsOrder k nets m list → list ≡ order k nets m)

-- An order of the modules below m has each of these once, and nothing else.
abbrev pub OrderTakesEachOnce : {P : Type 0} → Kind P → Type 0
OrderTakesEachOnce {P} k =
    (nets : List (Net P)) (m : ℕ) → (length (order k nets m) ≡ m) × ((v : ℕ) → count_by (nat_eq v) (order k nets m) ≡ cond (nat_lt v m) 1 0)

-- The last is pulled by all others at the price of parting it off alone, and no split that parts the last two is cheaper than that.
pub record LastParted {P : Type 0} (k : Kind P) (nets : List (Net P)) (end : Ending) : Type 0 where
  pub pulled_at_price : pull k nets end.last (has (end.next_to_last ∷ end.before)) ≡ split_price k (alone end.last) nets
  pub none_cheaper : (side : ℕ → Bool) → (side end.next_to_last ≢ side end.last)
      → NotGreater k (split_price k (alone end.last) nets) (split_price k side nets)

-- This holds of every order of two modules and more.
abbrev pub LastPartedCheapest : {P : Type 0} → Kind P → Type 0
LastPartedCheapest {P} k =
    (nets : List (Net P)) (m : ℕ) (list : List ℕ) → OnPins (AllByRecursion (λ pin. pin < m)) nets → 1 < m → IsOrder k nets m list → LastParted k nets (ending list)
