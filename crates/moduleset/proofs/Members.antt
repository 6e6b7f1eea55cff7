-- Laws of the list of a set's members.
use Rattle.std.proofs.Common.{◌≡◌, ℕ, zero, suc, ◌+◌, ◌-◌, ◌/◌, ◌%◌, ◌^◌, ◌<◌, ◌≤◌, Bool, true, false, cond, not, ◌&&◌, eqb, leb, ◌⊎◌, List, [], ◌∷◌, ◌++◌, length, get_or, drop, Some, None, sym, refl, ap, ◌∙◌, subst, ap₂, inl, inr, ⊎_elim, mod-lt, add-one, arith, lit<, lit≤, shr-shr}
use native.Mathlib.Nat.{div-eq_of_lt}
use lib.Bits.{bit_and}
use lib.Count.{ones, ones_step}
use Rattle.std.specs.List.{ContainsAt as Has, AllByRecursion, slice_get}
use Rattle.std.proofs.lemmas.Nat.{pow_below}
use Rattle.std.proofs.ByRecursion.{All-append, All-get_or, All-weaker, has_append_left, has_append_right}
use Rattle.std.proofs.lemmas.List.{length-append, append-nil, append_assoc, get_or_append_left, get_or_at}
use Rattle.std.proofs.lemmas.Bool.{cases_lt, cases_eq, cases_Bool, le-leb, lt-leb, eq-eqb, ne_eqb, and_left, and_right, both_ways}
use Rattle.moduleset.specs.Words.{digit, has, members_below, members, lone}
use Rattle.moduleset.proofs.Sets.{Lowest, has_digit, has_past, has_minus, has_one}

-- what module n adds to the list
abbrev one : ℕ → Bool → List ℕ
one n b = cond b (n ∷ []) []

none_below : (w n : ℕ) → ((k : ℕ) → k < n → has w k ≡ false) → members_below w n ≡ []
unfolding members_below
none_below w zero f = refl
none_below w (suc n) f = ap₂ (λ xs b. xs ++ one n b) (none_below w n (λ k h. f k (omega arith))) (f n (omega arith))

pub members_none : (w : ℕ) → ((k : ℕ) → k < 64 → has w k ≡ false) → members w ≡ []
unfolding members
members_none w f = none_below w 64 f

and_true : (b : Bool) → (b && true) ≡ b
and_true true = refl
and_true false = refl

-- w' is w without its lowest module v
module _ (w w' v : ℕ) (lowest : Lowest w v) (rest : (k : ℕ) → k < 64 → has w' k ≡ (has w k && not (eqb k v))) where
  first_below : (n : ℕ) → v < n → n ≤ 64 → members_below w n ≡ v ∷ members_below w' n
  unfolding members_below
  first_below zero l s = absurd (omega arith)
  first_below (suc n) l s = ⊎_elim (λ h. later h (first_below n h (omega arith))) here (cases_lt v n)
    where
      later : v < n → members_below w n ≡ v ∷ members_below w' n → members_below w (suc n) ≡ v ∷ members_below w' (suc n)
      later h ih =
          let same : has w' n ≡ has w n = rest n (omega arith) ∙ ap (λ b. has w n && not b) (ne_eqb n v (λ e. omega arith)) ∙ and_true (has w n) in
          ap₂ (λ xs b. xs ++ one n b) ih (sym same)

      here : n ≤ v → members_below w (suc n) ≡ v ∷ members_below w' (suc n)
      here h =
          let e : v ≡ n = omega arith in
          let none : members_below w n ≡ [] = none_below w n (λ k q. lowest.before k (omega arith)) in
          let none' : members_below w' n ≡ [] = none_below w' n (λ k q. rest k (omega arith) ∙ and_left (has w k) _ (lowest.before k (omega arith))) in
          let out : has w' n ≡ false = rest n (omega arith) ∙ and_right (has w n) _ (ap not (eq-eqb n v (sym e))) in
          ap₂ (λ xs b. xs ++ one n b) none (ap (has w) (sym e) ∙ lowest.is_there) ∙ ap (λ (x : ℕ). x ∷ []) (sym e)
          ∙ ap (λ xs. v ∷ xs) (sym (ap₂ (λ xs b. xs ++ one n b) none' out))

  pub members_first : members w ≡ v ∷ members w'
  unfolding members
  members_first = first_below 64 lowest.small (lit≤ tt)

-- the lowest module is the first member
pub lowest_first : (w v : ℕ) → Lowest w v → (w' : ℕ) × (members w ≡ v ∷ members w')
lowest_first w v l =
    let w' : ℕ = bit_and w ((2 ^ 64 - 1) - 2 ^ (63 - v)) in (
      w',
      members_first w w' v l (λ k h.
          has_minus w (2 ^ (63 - v)) k (pow_below (63 - v) 64 (omega arith)) ∙ ap (λ b. has w k && not b) (has_one v k l.small h)),
    )

-- the count of ones
digit_is : (x : ℕ) → x < 2 → length (one zero (eqb x 1)) ≡ x
digit_is zero p = refl
digit_is (suc zero) p = refl
digit_is (suc (suc x)) p = absurd (omega arith)

length_one : (n : ℕ) (b : Bool) → length (one n b) ≡ length (one zero b)
length_one n true = refl
length_one n false = refl

digit_of : (w n : ℕ) → n < 64 → length (one zero (has w n)) ≡ w / 2 ^ (63 - n) % 2
unfolding digit
digit_of w n l = ap (λ b. length (one zero b)) (has_digit w n l) ∙ digit_is (w / 2 ^ (63 - n) % 2) (mod-lt _ (lit< tt))

length_below : (w n : ℕ) → w < 2 ^ 64 → n ≤ 64 → length (members_below w n) ≡ ones (w / 2 ^ (64 - n))
unfolding members_below ones
length_below w zero p h = sym (ap ones (div-eq_of_lt p))
length_below w (suc n) p h =
    let x : ℕ = w / 2 ^ (63 - n) in
    let e : x / 2 ≡ w / 2 ^ (64 - n) = shr-shr w (63 - n) 1 ∙ ap (λ (y : ℕ). w / 2 ^ y) (omega arith) in
    let s : 64 - suc n ≡ 63 - n = omega arith in
    let ih : length (members_below w n) ≡ ones (x / 2) = length_below w n p (omega arith) ∙ ap ones (sym e) in
    let d : length (one n (has w n)) ≡ x % 2 = length_one n (has w n) ∙ digit_of w n (omega arith) in
    let o : ones x ≡ x % 2 + ones (x / 2) = ones_step x in
    let g : length (members_below w n ++ one n (has w n)) ≡ ones x = length-append (members_below w n) (one n (has w n)) ∙ omega (arith, ih, d, o) in
    g ∙ ap (λ (y : ℕ). ones (w / 2 ^ y)) (sym s)

pub length_members : (w : ℕ) → w < 2 ^ 64 → length (members w) ≡ ones w
unfolding members
length_members w p = length_below w 64 p (lit≤ tt) ∙ ap ones (omega arith)

-- a list has a lone element exactly when its length is 1
pub lone_none : (xs : List ℕ) → (length xs ≡ 1 → ⊥) → lone xs ≡ None
lone_none [] f = refl
lone_none (x ∷ []) f = absurd (f refl)
lone_none (x ∷ y ∷ ys) f = refl

pub lone_first : (xs : List ℕ) → length xs ≡ 1 → lone xs ≡ slice_get xs 0
lone_first [] e = refl
lone_first (x ∷ []) e = refl
lone_first (x ∷ y ∷ ys) e = absurd (omega arith)

-- what is left after i members, and the member after them
pub nth_drop : (xs : List ℕ) (i : ℕ) → slice_get (drop i xs) 0 ≡ slice_get xs i
nth_drop [] zero = refl
nth_drop [] (suc i) = refl
nth_drop (x ∷ xs) zero = refl
nth_drop (x ∷ xs) (suc i) = nth_drop xs i

pub drop_tail : (xs ys : List ℕ) (i y : ℕ) → drop i xs ≡ y ∷ ys → ys ≡ drop (i + 1) xs
drop_tail xs ys i y e = go xs i e ∙ ap (λ (j : ℕ). drop j xs) (sym (add-one i))
  where
    go : (xs : List ℕ) (i : ℕ) → drop i xs ≡ y ∷ ys → ys ≡ drop (suc i) xs
    go [] zero e = cc
    go [] (suc i) e = cc
    go (x ∷ xs) zero e = cc
    go (x ∷ xs) (suc i) e = go xs i e

pub nth_past_drop : (xs : List ℕ) (i k : ℕ) → slice_get (drop i xs) 0 ≡ None → i ≤ k → slice_get xs k ≡ None
nth_past_drop [] i k e h = refl
nth_past_drop (x ∷ xs) zero k e h = absurd (let z : ◌≡◌ {A = ℕ} 0 1 = cc in omega arith)
nth_past_drop (x ∷ xs) (suc i) zero e h = absurd (omega arith)
nth_past_drop (x ∷ xs) (suc i) (suc k) e h = nth_past_drop xs i k e (omega arith)

-- the members are in the set, and every module of the set is a member
all_below : (w n : ℕ) → AllByRecursion (λ k. (k < n) × (has w k ≡ true)) (members_below w n)
unfolding members_below
all_below w zero = tt
all_below w (suc n) =
    All-append (λ k. (k < suc n) × (has w k ≡ true)) (members_below w n) (one n (has w n))
    (All-weaker (λ k. (k < n) × (has w k ≡ true)) (λ k. (k < suc n) × (has w k ≡ true)) (λ k h. (omega arith, h.1)) (members_below w n) (all_below w n))
    (last (has w n) refl)
  where
    last : (b : Bool) → has w n ≡ b → AllByRecursion (λ k. (k < suc n) × (has w k ≡ true)) (one n b)
    last true e = ((omega arith, e), tt)
    last false e = tt

has_below : (w n k : ℕ) → k < n → has w k ≡ true → Has (members_below w n) k
unfolding members_below
has_below w zero k l e = absurd (omega arith)
has_below w (suc n) k l e =
    ⊎_elim
    (λ h. has_append_left (members_below w n) (one n (has w n)) k (has_below w n k h e))
    (λ h.
    let s : n ≡ k = omega arith in
    has_append_right (members_below w n) (one n (has w n)) k (subst (λ b. Has (one n b) k) (sym (ap (has w) s ∙ e)) (0, omega arith, λ d. s)))
    (cases_lt k n)

pub member_has : (w i : ℕ) → i < length (members w) → (get_or (members w) i 0 < 64) × (has w (get_or (members w) i 0) ≡ true)
unfolding members
member_has w i h = All-get_or (λ k. (k < 64) × (has w k ≡ true)) (members_below w 64) i 0 h (all_below w 64)

pub has_member : (w k : ℕ) → has w k ≡ true → (i : ℕ) × (i < length (members w)) × (get_or (members w) i 0 ≡ k)
unfolding members
has_member w k e =
    let r = has_below w 64 k (⊎_elim (λ h. h) (λ h. absurd (both_ways (has w k) (has_past w k h) e)) (cases_lt k 64)) e in
    (r.0, r.1, r.2 0)

-- a number after lower ones is the greatest
rise_last : (xs : List ℕ) (n : ℕ) (b : Bool) (i j : ℕ) → AllByRecursion (λ k. k < n) xs → i < j → length xs ≤ j → j < length (xs ++ one n b) → get_or (xs ++ one n b) i 0 < get_or (xs ++ one n b) j 0
rise_last xs n true i j f l q h =
    let e : j ≡ length xs = omega (arith, length-append xs (n ∷ [])) in
    omega (arith, get_or_append_left xs (n ∷ []) 0 i (omega arith), get_or_at xs n [] 0 j (sym e), All-get_or (λ k. k < n) xs i 0 (omega arith) f)
rise_last xs n false i j f l q h = absurd (omega (arith, length-append xs []))

-- the members rise
rise_below : (w n i j : ℕ) → i < j → j < length (members_below w n) → get_or (members_below w n) i 0 < get_or (members_below w n) j 0
unfolding members_below
rise_below w zero i j l h = absurd (omega arith)
rise_below w (suc n) i j l h =
    let xs : List ℕ = members_below w n in
    let ys : List ℕ = one n (has w n) in
    ⊎_elim
    (λ q. omega (arith, rise_below w n i j l q, get_or_append_left xs ys 0 i (omega arith), get_or_append_left xs ys 0 j q))
    (λ q. rise_last xs n (has w n) i j (All-weaker (λ k. (k < n) × (has w k ≡ true)) (λ k. k < n) (λ k t. t.0) xs (all_below w n)) l q h)
    (cases_lt j (length xs))

pub members_rise : (w i j : ℕ) → i < j → j < length (members w) → get_or (members w) i 0 < get_or (members w) j 0
unfolding members
members_rise w i j l h = rise_below w 64 i j l h

nth_some : (xs : List ℕ) (i v : ℕ) → Some v ≡ slice_get xs i → (i < length xs) × (get_or xs i 0 ≡ v)
nth_some [] i v e = absurd (let z : ◌≡◌ {A = ℕ} 0 1 = cc in omega arith)
nth_some (x ∷ xs) zero v e = (omega arith, cc)
nth_some (x ∷ xs) (suc i) v e = let r = nth_some xs i v e in (omega arith, r.1)

-- the first of the members is the lowest module
pub lowest_nth : (w v : ℕ) → Some v ≡ slice_get (members w) 0 → Lowest w v
lowest_nth w v e =
    let r = nth_some (members w) 0 v e in
    let m = member_has w 0 r.0 in
    record {
      small = omega (arith, m.0, r.1);
      is_there = ap (has w) (sym r.1) ∙ m.1;
      before = λ k l. ⊎_elim (λ t. absurd (too_low k l (has_member w k t) r.1)) (λ f. f) (cases_Bool (has w k));
    }
  where
    too_low : (k : ℕ) → k < v → (i : ℕ) × (i < length (members w)) × (get_or (members w) i 0 ≡ k) → get_or (members w) 0 0 ≡ v → ⊥
    too_low k l (zero, h, q) f = omega arith
    too_low k l (suc i, h, q) f = omega (arith, members_rise w 0 (suc i) (omega arith) h)

few_below : (w n : ℕ) → length (members_below w n) ≤ n
unfolding members_below
few_below w zero = omega arith
few_below w (suc n) = omega (arith, few_below w n, length-append (members_below w n) (one n (has w n)), at_most_one n (has w n))
  where
    at_most_one : (n : ℕ) (b : Bool) → length (one n b) ≤ 1
    at_most_one n true = omega arith
    at_most_one n false = omega arith

pub few_members : (w : ℕ) → length (members w) ≤ 64
unfolding members
few_members w = few_below w 64

lone_is : (xs : List ℕ) (v : ℕ) → Some v ≡ lone xs → xs ≡ v ∷ []
lone_is [] v e = cc
lone_is (x ∷ []) v e = cc
lone_is (x ∷ y ∷ ys) v e = cc

-- a set of one module has that one alone
pub lone_has : (w v : ℕ) → Some v ≡ lone (members w) → (k : ℕ) → has w k ≡ eqb k v
lone_has w v e k = ⊎_elim (λ q. here q) (λ q. other q) (cases_eq k v)
  where
    l : members w ≡ v ∷ []
    l = lone_is (members w) v e

    here : k ≡ v → has w k ≡ eqb k v
    here q = ap (has w) (q ∙ sym (ap (λ xs. get_or xs 0 0) l)) ∙ (member_has w 0 (omega (arith, ap length l))).1 ∙ sym (eq-eqb k v q)

    other : (k ≡ v → ⊥) → has w k ≡ eqb k v
    other q =
        ⊎_elim
        (λ t. absurd (let r = has_member w k t in q (sym r.2 ∙ ap (λ (i : ℕ). get_or (members w) i 0) (omega (arith, r.1, ap length l)) ∙ ap (λ xs. get_or xs 0 0) l)))
        (λ f. f ∙ sym (ne_eqb k v q))
        (cases_Bool (has w k))

cases_le : (m n : ℕ) → (m ≤ n) ⊎ (n < m)
cases_le m n = ⊎_elim inr inl (cases_lt n m)

-- the members below m come first
front_below : (w m n : ℕ) → m ≤ n → (rest : List ℕ) × (members_below w n ≡ members_below w m ++ rest) × AllByRecursion (λ k. m ≤ k) rest
unfolding members_below
front_below w m zero h = ([], (let e : 0 ≡ m = omega arith in ap (members_below w) e ∙ sym (append-nil (members_below w m))), tt)
front_below w m (suc n) h = ⊎_elim (λ l. later (front_below w m n l) l) (λ l. ([], here l, tt)) (cases_le m n)
  where
    here : n < m → members_below w (suc n) ≡ members_below w m ++ []
    here l = let e : suc n ≡ m = omega arith in ap (members_below w) e ∙ sym (append-nil (members_below w m))

    later : (rest : List ℕ) × (members_below w n ≡ members_below w m ++ rest) × AllByRecursion (λ k. m ≤ k) rest → m ≤ n
        → (rest : List ℕ) × (members_below w n ++ one n (has w n) ≡ members_below w m ++ rest) × AllByRecursion (λ k. m ≤ k) rest
    later (rest, e, f) l = (
      rest ++ one n (has w n),
      ap (λ xs. xs ++ one n (has w n)) e ∙ append_assoc (members_below w m) rest (one n (has w n)),
      All-append (λ k. m ≤ k) rest (one n (has w n)) f (last (has w n) l),
    )
      where
        last : (b : Bool) → m ≤ n → AllByRecursion (λ k. m ≤ k) (one n b)
        last true q = (q, tt)
        last false q = tt

-- w' is what w has below m
module _ (w w' m : ℕ) (small : m ≤ 64) (front : (k : ℕ) → k < 64 → has w' k ≡ (has w k && not (leb m k))) where
  same_below : (n : ℕ) → n ≤ m → members_below w' n ≡ members_below w n
  unfolding members_below
  same_below zero h = refl
  same_below (suc n) h =
      ap₂ (λ xs b. xs ++ one n b) (same_below n (omega arith))
      (front n (omega arith) ∙ ap (λ b. has w n && not b) (lt-leb m n (omega arith)) ∙ and_true (has w n))

  none_past : (n : ℕ) → m ≤ n → n ≤ 64 → members_below w' n ≡ members_below w m
  unfolding members_below
  none_past zero h l = let e : 0 ≡ m = omega arith in ap (members_below w) e
  none_past (suc n) h l =
      ⊎_elim
      (λ q. ap₂ (λ xs b. xs ++ one n b) (none_past n q (omega arith)) (front n (omega arith) ∙ and_right (has w n) _ (ap not (le-leb m n q))) ∙ append-nil (members_below w m))
      (λ q. let e : suc n ≡ m = omega arith in same_below (suc n) (omega arith) ∙ ap (members_below w) e)
      (cases_le m n)

  pub members_front : (rest : List ℕ) × (members w ≡ members w' ++ rest) × AllByRecursion (λ k. k < m) (members w') × AllByRecursion (λ k. m ≤ k) rest
  unfolding members
  members_front =
      let r = front_below w m 64 small in
      let e : members_below w' 64 ≡ members_below w m = none_past 64 small (lit≤ tt) in (
        r.0,
        r.1 ∙ ap (λ xs. xs ++ r.0) (sym e),
        subst (AllByRecursion (λ k. k < m)) (sym e) (All-weaker (λ k. (k < m) × (has w k ≡ true)) (λ k. k < m) (λ k t. t.0) (members_below w m) (all_below w m)),
        r.2,
      )
