-- A net's pins as a set, and the module at which the net pulls.
use Rattle.std.proofs.Common.{◌≡◌, ℕ, zero, suc, ◌+◌, ◌-◌, ◌<◌, ◌≤◌, true, false, not, ◌&&◌, ◌||◌, eqb, List, [], ◌∷◌, ◌++◌, map, length, get_or, take, drop, replicate, set, IfSome, Some, None, Option, sym, refl, ap, ◌∙◌, subst, ⊎_elim, arith}
use Rattle.std.specs.List.{slice_get, AllByRecursion}
use Rattle.std.proofs.lemmas.List.{take_all, get_or-set_same, get_or-set_other, get_or_append_left, get_or-append_right, get_or-replicate, drop-replicate, get_or-map, length-replicate, map-set, map-append, length-map}
use Rattle.std.proofs.Math.Bool.{or-false, or_assoc}
use Rattle.std.proofs.lemmas.Bool.{both_ways, not-true, eqb-true, eq-eqb, cases_Bool, cases_lt, and_parts, and_from, or_cases, or_left, or_right}
use Rattle.moduleset.specs.Words.{has as is_in, members, lone}
use Rattle.moduleset.proofs.Sets.{has_past}
use Rattle.moduleset.proofs.Members.{lone_has, member_has, has_member, members_rise}
use Rattle.netlist.specs.Nets.{Net, OnPins, pin_at}
use Rattle.cut.specs.Cuts.{has, pulls}
use Rattle.cut.proofs.Members.{Member, any_member, member_any, every_member, members_every, all_member, same_tests, pulls_parts, pulls_from}
use Rattle.grouping.specs.Masks.{pins_of, SetOf, MasksOf, AlsoHas, names}
use Rattle.grouping.proofs.Nth.{nth_past, nth_next}

-- a set that has one module alone
one_member : (w v : ℕ) → v < 64 → ((u : ℕ) → is_in w u ≡ eqb u v) → lone (members w) ≡ Some v
one_member w v h f = go (members w) (λ i b. eqb-true _ v (sym (f _) ∙ (member_has w i b).1)) (λ i j. members_rise w i j) (has_member w v (f v ∙ eq-eqb v v refl))
  where
    go : (xs : List ℕ) → ((i : ℕ) → i < length xs → get_or xs i 0 ≡ v) → ((i j : ℕ) → i < j → j < length xs → get_or xs i 0 < get_or xs j 0)
        → (i : ℕ) × (i < length xs) × (get_or xs i 0 ≡ v) → lone xs ≡ Some v
    go [] f g r = absurd (omega (arith, r.1))
    go (x ∷ []) f g r = ap Some (f 0 (omega arith))
    go (x ∷ y ∷ xs) f g r = absurd (omega (arith, g 0 1 (omega arith) (omega arith), f 0 (omega arith), f 1 (omega arith)))

module _ (mask taken : ℕ) (pins : List ℕ) (s : SetOf mask pins) where
  pub apart_pulls_none : (((v : ℕ) × (is_in mask v ≡ true) × (is_in taken v ≡ true)) → ⊥) → (v : ℕ) → false ≡ pulls v (is_in taken) pins
  apart_pulls_none apart v =
      ⊎_elim
      (λ e. (let q : Member pins (λ p. is_in taken p ≡ true) = any_member (is_in taken) pins (pulls_parts v (is_in taken) pins e).1 in
      absurd (apart (q.0, s q.0 ∙ q.1, q.2))))
      (λ e. sym e)
      (cases_Bool (pulls v (is_in taken) pins))

  module _ (rest : ℕ) (r : (v : ℕ) → is_in rest v ≡ (is_in mask v && not (is_in taken v))) (meet : (v : ℕ) × (is_in mask v ≡ true) × (is_in taken v ≡ true)) where
    -- what a pull says of the pins that are not taken
    only_there : (v : ℕ) → is_in taken v ≡ false → pulls v (is_in taken) pins ≡ true → (u : ℕ) → is_in rest u ≡ eqb u v
    only_there v o e u =
        let a = pulls_parts v (is_in taken) pins e in
        same_tests (is_in rest u) (eqb u v)
        (λ q.
        let b : (is_in mask u ≡ true) × (not (is_in taken u) ≡ true) = and_parts (is_in mask u) (not (is_in taken u)) (sym (r u) ∙ q) in
        ⊎_elim (λ y. y) (λ y. absurd (both_ways (is_in taken u) (not-true (is_in taken u) b.1) y))
        (or_cases (eqb u v) (is_in taken u) (every_member (λ p. eqb p v || is_in taken p) pins u a.2 (sym (s u) ∙ b.0))))
        (λ q.
        let w : u ≡ v = eqb-true u v q in
        r u ∙ and_from (is_in mask u) (not (is_in taken u)) (ap (is_in mask) w ∙ s v ∙ a.0) (ap (λ x. not (is_in taken x)) w ∙ ap not o))

    one_pulls : (u v : ℕ) → ((w : ℕ) → is_in rest w ≡ eqb w u) → v ≡ u → pulls v (is_in taken) pins ≡ true
    one_pulls u v f e =
        let b : (is_in mask u ≡ true) × (not (is_in taken u) ≡ true) = and_parts (is_in mask u) (not (is_in taken u)) (sym (r u) ∙ f u ∙ eq-eqb u u refl) in
        pulls_from v (is_in taken) pins (sym (s v) ∙ ap (is_in mask) e ∙ b.0)
        (member_any (is_in taken) pins meet.0 (sym (s meet.0) ∙ meet.1) meet.2)
        (members_every (λ p. eqb p v || is_in taken p) pins (λ p i.
        ⊎_elim (λ y. or_right (eqb p v) (is_in taken p) y)
        (λ y. or_left (eqb p v) (is_in taken p) (ap (eqb p) e ∙ sym (f p) ∙ r p ∙ and_from (is_in mask p) (not (is_in taken p)) (s p ∙ i) (ap not y)))
        (cases_Bool (is_in taken p))))

    pub only_pulls : (answer : Option ℕ) → answer ≡ lone (members rest) → (v : ℕ) → is_in taken v ≡ false → names answer v ≡ pulls v (is_in taken) pins
    only_pulls None e v o =
        ⊎_elim
        (λ y. absurd (let differ = e ∙ one_member rest v (small y) (only_there v o y) in cc))
        (λ y. sym y)
        (cases_Bool (pulls v (is_in taken) pins))
      where
        small : pulls v (is_in taken) pins ≡ true → v < 64
        small y =
            ⊎_elim (λ h. h)
            (λ h. absurd (both_ways (is_in mask v) (has_past mask v h) (s v ∙ (pulls_parts v (is_in taken) pins y).0)))
            (cases_lt v 64)
    only_pulls (Some u) e v o =
        same_tests (eqb v u) (pulls v (is_in taken) pins)
        (λ y. one_pulls u v (lone_has rest u e) (eqb-true v u y))
        (λ y. sym (lone_has rest u e v) ∙ only_there v o y v ∙ eq-eqb v v refl)

-- an answer is not taken
pub only_waits : (mask taken rest : ℕ) → ((v : ℕ) → is_in rest v ≡ (is_in mask v && not (is_in taken v))) → (answer : Option ℕ) → answer ≡ lone (members rest)
    → IfSome answer (λ v. (v < 64) × (is_in taken v ≡ false))
only_waits mask taken rest r None e = tt
only_waits mask taken rest r (Some v) e =
    let there : is_in rest v ≡ true = lone_has rest v e v ∙ eq-eqb v v refl in (
      ⊎_elim (λ h. h) (λ h. absurd (both_ways (is_in rest v) (has_past rest v h) there)) (cases_lt v 64),
      not-true (is_in taken v) (and_parts (is_in mask v) (not (is_in taken v)) (sym (r v) ∙ there)).1,
    )

pub has_next : (xs : List ℕ) (v p : ℕ) → has (xs ++ v ∷ []) p ≡ (has xs p || eqb p v)
has_next [] v p = or-false (eqb p v)
has_next (x ∷ xs) v p = ap (λ b. eqb p x || b) (has_next xs v p) ∙ sym (or_assoc (eqb p x) (has xs p) (eqb p v))

module _ {P : Type 0} (nets : List (Net P)) where
  pin_nth : (xs : List (Net P)) (i k : ℕ) → pin_at xs i k ≡ slice_get (pins_of xs i) k
  pin_nth [] i k = refl
  pin_nth (net ∷ xs) zero k = refl
  pin_nth (net ∷ xs) (suc i) k = pin_nth xs i k

  pins_on : (A : List ℕ → Type 0) (xs : List (Net P)) (i : ℕ) → A [] → OnPins A xs → A (pins_of xs i)
  pins_on A [] i z o = z
  pins_on A (net ∷ xs) zero z o = o.0
  pins_on A (net ∷ xs) (suc i) z o = pins_on A xs i z o.1

  -- the set of the first k pins of net i
  abbrev pub FirstPins : ℕ → ℕ → ℕ → Type 0
  FirstPins i k mask = (v : ℕ) → v < 64 → is_in mask v ≡ has (take k (pins_of nets i)) v

  pub pins_more : (i k p mask mask' : ℕ) → Some p ≡ pin_at nets i k → AlsoHas mask mask' p → FirstPins i k mask → FirstPins i (k + 1) mask'
  pins_more i k p mask mask' e f g v h =
      f v h ∙ ap (λ b. b || eqb v p) (g v h) ∙ sym (has_next (take k (pins_of nets i)) p v)
      ∙ ap (λ xs. has xs v) (sym (nth_next (pins_of nets i) k p (e ∙ pin_nth nets i k)))

  module _ (m i k mask : ℕ) (few : m ≤ 64) (there : OnPins (AllByRecursion (λ pin. pin < m)) nets) where
    all_pins : length (pins_of nets i) ≤ k → FirstPins i k mask → SetOf mask (pins_of nets i)
    all_pins h g v =
        ⊎_elim
        (λ b. g v b ∙ ap (λ xs. has xs v) (take_all k (pins_of nets i) h))
        (λ b. has_past mask v b ∙ sym (⊎_elim (λ y. absurd (too_great b y)) (λ y. y) (cases_Bool (has (pins_of nets i) v))))
        (cases_lt v 64)
      where
        too_great : 64 ≤ v → has (pins_of nets i) v ≡ true → ⊥
        too_great b y = omega (arith, few, all_member (λ pin. pin < m) (pins_of nets i) v (pins_on (AllByRecursion (λ pin. pin < m)) nets i tt there) y)

    pub pins_ended : None ≡ pin_at nets i k → FirstPins i k mask → SetOf mask (pins_of nets i)
    pins_ended e = all_pins (nth_past (pins_of nets i) k (e ∙ pin_nth nets i k))

    pub pins_full : OnPins (λ pins. length pins ≤ 64) nets → 64 ≤ k → FirstPins i k mask → SetOf mask (pins_of nets i)
    pins_full o h = all_pins (let s : length (pins_of nets i) ≤ 64 = pins_on (λ pins. length pins ≤ 64) nets i (omega arith) o in omega arith)

net_nth : {P : Type 0} (nets : List (Net P)) (i : ℕ) (net : Net P) → slice_get nets i ≡ Some net → (i < length nets) × (net.pins ≡ pins_of nets i)
net_nth [] i net e = absurd cc
net_nth {P} (x ∷ nets) zero net e = (omega arith, let q : ◌≡◌ {A = Net P} x net = cc in sym (ap (λ (y : Net P). y.pins) q))
net_nth (x ∷ nets) (suc i) net e = let h = net_nth nets i net e in (omega (arith, h.0), h.1)

-- the words of the first n nets
abbrev pub FirstMasks : {P : Type 0} → List (Net P) → ℕ → List ℕ → Type 0
FirstMasks nets n words = (i : ℕ) → i < n → SetOf (get_or words i 0) (pins_of nets i)

masks_more : {P : Type 0} (nets : List (Net P)) (words : List ℕ) (n word : ℕ) → n < length words → SetOf word (pins_of nets n) → FirstMasks nets n words
    → FirstMasks nets (n + 1) (set words n word)
masks_more nets words n word h f g i l v =
    ⊎_elim (λ q. ap (λ (x : ℕ). is_in x v) (get_or-set_other words n i word 0 (λ e. omega arith)) ∙ g i q v)
    (λ q. (let e : n ≡ i = omega arith in
    subst (λ (x : ℕ). is_in (get_or (set words n word) x 0) v ≡ has (pins_of nets x) v) e (ap (λ (x : ℕ). is_in x v) (get_or-set_same words n word 0 h) ∙ f v)))
    (cases_lt i n)

-- of elements that each have a word
pub masks_set : {P X : Type 0} (word : X → ℕ) (nets : List (Net P)) (masks : List X) (n : ℕ) (mask : X) → n < length masks → SetOf (word mask) (pins_of nets n)
    → FirstMasks nets n (map word masks) → FirstMasks nets (n + 1) (map word (set masks n mask))
masks_set word nets masks n mask h f g =
    subst (FirstMasks nets (n + 1)) (sym (map-set word masks n mask)) (masks_more nets (map word masks) n (word mask) (omega (arith, h, length-map masks word)) f g)

-- whatever elements follow those of the nets
pub masks_all : {P X : Type 0} (word : X → ℕ) (nets : List (Net P)) (masks rest : List X) (n : ℕ) → length nets ≤ n → n ≤ length masks → FirstMasks nets n (map word masks)
    → MasksOf (map word (masks ++ rest)) nets
masks_all word nets masks rest n all long g i net e v =
    let h = net_nth nets i net e in
    let inside : i < length (map word masks) = omega (arith, h.0, length-map masks word) in
    ap (λ (x : ℕ). is_in x v) (ap (λ words. get_or words i 0) (map-append word masks rest) ∙ get_or_append_left (map word masks) (map word rest) 0 i inside)
    ∙ g i (omega (arith, h.0)) v ∙ ap (λ xs. has xs v) (sym h.1)

-- where only empty sets follow the elements of the nets
pub rest_empty : {X : Type 0} (word : X → ℕ) (masks : List X) (none : X) (n long : ℕ) → ((v : ℕ) → is_in (word none) v ≡ false) → length masks ≡ n
    → (i v : ℕ) → n ≤ i → i < long → is_in (get_or (map word (masks ++ drop n (replicate long none))) i 0) v ≡ false
rest_empty word masks none n long e all i v past inside =
    let rest = drop n (replicate long none) in
    ap (λ (x : ℕ). is_in x v)
    (ap (λ words. get_or words i 0) (map-append word masks rest)
    ∙ get_or-append_right (map word masks) (map word rest) n i 0 (length-map masks word ∙ all) past
    ∙ ap (λ xs. get_or (map word xs) (i - n) 0) (drop-replicate n long none)
    ∙ get_or-map word (replicate (long - n) none) (i - n) none 0 (omega (arith, length-replicate (long - n) none))
    ∙ ap word (get_or-replicate (long - n) (i - n) none none (omega arith)))
    ∙ e v
