-- What an order's loop keeps from turn to turn.
use Rattle.std.proofs.Common.{◌≡◌, ℕ, zero, suc, ◌+◌, ◌-◌, ◌<◌, ◌≤◌, Bool, true, ◌||◌, eqb, leb, List, [], ◌∷◌, ◌++◌, length, get_or, take, drop, set, sym, refl, ap, ◌∙◌, subst, add-one, arith}
use Rattle.std.specs.List.{AllByRecursion}
use Rattle.std.proofs.Math.Bool.{or-false, or_assoc, or_comm}
use Rattle.std.proofs.lemmas.List.{take_more, take_more_set, take_all, drop_all, append-nil}
use Rattle.std.proofs.lemmas.Bool.{both_ways, or_parts, lt-leb, leb-false}
use Rattle.moduleset.specs.Words.{has as is_in}
use Rattle.price.specs.Kind.{Kind, Laws}
use Rattle.netlist.specs.Nets.{Net, OnPins}
use Rattle.cut.specs.Cuts.{has, pull}
use Rattle.cut.specs.Orders.{order}
use Rattle.cut.proofs.OrderFound.{length_order}
use Rattle.cut.proofs.OrderSteps.{AlikeBelow, pull_like, GreatestPull, greatest_is_next, next_waits, last_pull_price}
use Rattle.grouping.specs.Masks.{AlsoHas}
use Rattle.partition.specs.Orders.{last_price}
use Rattle.partition.specs.Pulls.{WaitBelow, TakenOf, pulled, Greatest}
use Rattle.grouping.proofs.PinSets.{has_next}

pub taken_within : (taken m : ℕ) (list : List ℕ) → TakenOf taken m list → WaitBelow taken m
taken_within taken m list f v h o = leb-false m v (or_parts (has list v) (leb m v) (sym (f v h) ∙ o)).1

or_swap : (a b c : Bool) → ((a || b) || c) ≡ ((a || c) || b)
or_swap a b c = or_assoc a b c ∙ ap (λ x. a || x) (or_comm b c) ∙ sym (or_assoc a c b)

taken_more : (taken taken' m v : ℕ) (list : List ℕ) → TakenOf taken m list → AlsoHas taken taken' v → TakenOf taken' m (list ++ v ∷ [])
taken_more taken taken' m v list f g p h =
    g p h ∙ ap (λ b. b || eqb p v) (f p h) ∙ or_swap (has list p) (leb m p) (eqb p v) ∙ ap (λ b. b || leb m p) (sym (has_next list v p))

-- at first module 0 is taken, and all from m on
pub taken_start : (past taken m : ℕ) → ((v : ℕ) → v < 64 → is_in past v ≡ leb m v) → AlsoHas past taken 0 → TakenOf taken m (0 ∷ [])
taken_start past taken m f g v h =
    g v h ∙ ap (λ b. b || eqb v 0) (f v h) ∙ or_comm (leb m v) (eqb v 0) ∙ ap (λ b. b || leb m v) (sym (or-false (eqb v 0)))

-- the bytes once those after the first are back in their place
pub rest_back : (bytes items : List ℕ) → 0 < length bytes → take 1 (set bytes 0 0) ++ (items ++ drop (length (set bytes 0 0) - 1) (drop 1 (set bytes 0 0))) ≡ 0 ∷ items
rest_back [] items h = absurd (omega arith)
rest_back (x ∷ xs) items h = ap (λ ys. 0 ∷ ys) (ap (λ ys. items ++ ys) (drop_all (length (x ∷ xs) - 1) xs (omega arith)) ∙ append-nil items)

-- The bytes and the set have the first s of the order, and the price is the pull of the latest toward those before it.
pub record Turn {P : Type 0} (k : Kind P) (nets : List (Net P)) (m s taken : ℕ) (price : P) (bytes : List ℕ) : Type 0 where
  pub front : take s bytes ≡ take s (order k nets m)
  pub word : TakenOf taken m (take s (order k nets m))
  pub cost : (j : ℕ) → suc j ≡ s → 0 < j → price ≡ pull k nets (get_or (order k nets m) j 0) (has (take j (order k nets m)))

module _ {P : Type 0} (k : Kind P) (l : Laws k) (nets : List (Net P)) where
  pub turn_start : (m taken : ℕ) (price : P) (items : List ℕ) → 0 < m → TakenOf taken m (0 ∷ []) → Turn k nets m 1 taken price (0 ∷ items)
  unfolding order
  turn_start zero taken price items z f = absurd (omega arith)
  turn_start (suc m) taken price items z f = record { front = refl; word = f; cost = λ j e q. absurd (omega arith) }

  module _ (m s taken : ℕ) (price : P) (bytes : List ℕ) (there : OnPins (AllByRecursion (λ pin. pin < m)) nets) (z : 0 < s) (h : s < m) (few : m ≤ 64) (a : Turn k nets m s taken price bytes) where
    alike : AlikeBelow m (is_in taken) (has (take s (order k nets m)))
    alike p b = a.word p (omega arith) ∙ ap (λ x. has (take s (order k nets m)) p || x) (lt-leb m p b) ∙ or-false (has (take s (order k nets m)) p)

    -- somebody waits
    pub turn_left : ((v : ℕ) → v < 64 → is_in taken v ≡ true) → ⊥
    turn_left f =
        let n = next_waits k l nets m there s z h in
        let v : ℕ = get_or (order k nets m) s 0 in
        both_ways (is_in taken v) (alike v n.0 ∙ n.1) (f v (omega (arith, n.0)))

    greatest_pull : (v : ℕ) → Greatest k (pulled k nets taken) taken 64 v → GreatestPull k nets m (is_in taken) v
    unfolding pulled
    greatest_pull v g = record {
      there = taken_within taken m (take s (order k nets m)) a.word v g.below g.waits;
      waits = g.waits;
      none_greater = λ w b o. g.none_greater w (omega arith) o;
      lower_less = g.lower_less;
    }

    pulled_like : (v : ℕ) → pulled k nets taken v ≡ pull k nets v (has (take s (order k nets m)))
    unfolding pulled
    pulled_like v = pull_like k l nets m v (is_in taken) (has (take s (order k nets m))) there alike

    turn_more : s < length bytes → (v taken' : ℕ) (price' : P) → Greatest k (pulled k nets taken) taken 64 v → price' ≡ pulled k nets taken v → AlsoHas taken taken' v
        → Turn k nets m (s + 1) taken' price' (set bytes s v)
    turn_more lb v taken' price' g e t =
        let list : List ℕ = order k nets m in
        let inside : s < length list = omega (arith, length_order k l nets m) in
        let next : v ≡ get_or list s 0 = greatest_is_next k l nets m there s v (is_in taken) z h alike (greatest_pull v g) in
        let more : take (s + 1) list ≡ take s list ++ v ∷ [] = take_more list s 0 inside ∙ ap (λ (x : ℕ). take s list ++ x ∷ []) (sym next) in
        record {
          front = take_more_set bytes s v lb ∙ ap (λ xs. xs ++ v ∷ []) a.front ∙ sym more;
          word = subst (TakenOf taken' m) (sym more) (taken_more taken taken' m v (take s list) a.word t);
          cost = λ j q w.
              let js : s ≡ j = omega arith in
              e ∙ pulled_like v ∙ ap (λ (x : ℕ). pull k nets x (has (take s list))) next ∙ ap (λ (x : ℕ). pull k nets (get_or list x 0) (has (take x list))) js;
        }

  -- by the bytes after the first
  pub turn_next : (m i taken : ℕ) (price : P) (items : List ℕ) → OnPins (AllByRecursion (λ pin. pin < m)) nets → i + 1 < m → m ≤ 64 → Turn k nets m (i + 1) taken price (0 ∷ items)
      → i < length items → (v taken' : ℕ) (price' : P) → Greatest k (pulled k nets taken) taken 64 v → price' ≡ pulled k nets taken v → AlsoHas taken taken' v
      → Turn k nets m (i + 1 + 1) taken' price' (0 ∷ set items i v)
  turn_next m i taken price items there h few a lb v taken' price' g e t =
      subst (Turn k nets m (i + 1 + 1) taken' price') (ap (λ (j : ℕ). set (0 ∷ items) j v) (add-one i))
      (turn_more m (i + 1) taken price (0 ∷ items) there (omega arith) h few a (omega arith) v taken' price' g e t)

  -- after the last turn
  pub turn_bytes : (m taken : ℕ) (price : P) (bytes : List ℕ) → length bytes ≡ m → Turn k nets m m taken price bytes → bytes ≡ order k nets m
  turn_bytes m taken price bytes e a =
      sym (take_all m bytes (omega arith)) ∙ a.front ∙ take_all m (order k nets m) (omega (arith, length_order k l nets m))

  pub turn_price : (m taken : ℕ) (price : P) (bytes : List ℕ) → 1 < m → OnPins (AllByRecursion (λ pin. pin < m)) nets → Turn k nets m m taken price bytes
      → price ≡ last_price k nets (order k nets m)
  turn_price zero taken price bytes h there a = absurd (omega arith)
  turn_price (suc zero) taken price bytes h there a = absurd (omega arith)
  turn_price (suc (suc n)) taken price bytes h there a =
      a.cost (suc n) refl (omega arith) ∙ last_pull_price k l nets n (has (take (suc n) (order k nets (suc (suc n))))) there (λ p b. refl)
