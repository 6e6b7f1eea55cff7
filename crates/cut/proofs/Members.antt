-- What `any`, `every`, `has`, `crosses` and `pulls` say of the members of a list.
use Rattle.std.proofs.Common.{◌≡◌, ℕ, Bool, true, false, not, ◌&&◌, ◌||◌, eqb, ◌⊎◌, List, [], ◌∷◌, map, sym, refl, ap, ◌∙◌, subst, ap₂, inl, inr, ⊎_elim}
use Rattle.std.specs.List.{AllByRecursion}
use Rattle.std.proofs.lemmas.Bool.{true≢false, false≢true, not-true, eqb-true, eq-eqb, cases_Bool, and_parts, and_from, and_cases, or_cases, or_left, or_right, not_from_false}
use Rattle.cut.specs.Cuts.{has, crosses, pulls}
use Rattle.std.specs.List.{list_any, list_all}

pub has_head : (v : ℕ) (vs : List ℕ) → has (v ∷ vs) v ≡ true
has_head v vs = or_left (eqb v v) (has vs v) (eq-eqb v v refl)

pub has_tail : (v : ℕ) (vs : List ℕ) (p : ℕ) → has vs p ≡ true → has (v ∷ vs) p ≡ true
has_tail v vs p h = or_right (eqb p v) (has vs p) h

pub has_at_head : (v : ℕ) (vs : List ℕ) (p : ℕ) → p ≡ v → has (v ∷ vs) p ≡ true
has_at_head v vs p e = subst (λ z. has (v ∷ vs) z ≡ true) (sym e) (has_head v vs)

pub has_cases : (v : ℕ) (vs : List ℕ) (p : ℕ) → has (v ∷ vs) p ≡ true → (p ≡ v) ⊎ (has vs p ≡ true)
has_cases v vs p h = ⊎_elim (λ e. inl (eqb-true p v e)) inr (or_cases (eqb p v) (has vs p) h)

pub has_one : (v p : ℕ) → has (v ∷ []) p ≡ true → p ≡ v
has_one v p h = ⊎_elim (λ e. e) (λ e. absurd (false≢true e)) (has_cases v [] p h)

-- a member that passes, from `any`, and the other way
abbrev pub Member : List ℕ → (ℕ → Type 0) → Type 0
Member list A = (p : ℕ) × (has list p ≡ true) × A p

member_tail : (x : ℕ) (xs : List ℕ) (A : ℕ → Type 0) → Member xs A → Member (x ∷ xs) A
member_tail x xs A m = (m.0, has_tail x xs m.0 m.1, m.2)

pub any_member : (test : ℕ → Bool) (xs : List ℕ) → list_any test xs ≡ true → Member xs (λ p. test p ≡ true)
any_member test [] h = absurd (false≢true h)
any_member test (x ∷ xs) h =
    ⊎_elim (λ e. (x, has_head x xs, e)) (λ e. member_tail x xs (λ p. test p ≡ true) (any_member test xs e)) (or_cases (test x) (list_any test xs) h)

pub member_any : (test : ℕ → Bool) (xs : List ℕ) (p : ℕ) → has xs p ≡ true → test p ≡ true → list_any test xs ≡ true
member_any test [] p h e = absurd (false≢true h)
member_any test (x ∷ xs) p h e =
    ⊎_elim
    (λ q. or_left (test x) (list_any test xs) (subst (λ z. test z ≡ true) q e))
    (λ q. or_right (test x) (list_any test xs) (member_any test xs p q e))
    (has_cases x xs p h)

pub every_member : (test : ℕ → Bool) (xs : List ℕ) (p : ℕ) → list_all test xs ≡ true → has xs p ≡ true → test p ≡ true
every_member test [] p h e = absurd (false≢true e)
every_member test (x ∷ xs) p h e =
    ⊎_elim
    (λ q. subst (λ z. test z ≡ true) (sym q) (and_parts (test x) (list_all test xs) h).0)
    (λ q. every_member test xs p (and_parts (test x) (list_all test xs) h).1 q)
    (has_cases x xs p e)

pub members_every : (test : ℕ → Bool) (xs : List ℕ) → ((p : ℕ) → has xs p ≡ true → test p ≡ true) → list_all test xs ≡ true
members_every test [] h = refl
members_every test (x ∷ xs) h =
    and_from (test x) (list_all test xs) (h x (has_head x xs)) (members_every test xs (λ p e. h p (has_tail x xs p e)))

pub not_every_member : (test : ℕ → Bool) (xs : List ℕ) → list_all test xs ≡ false → Member xs (λ p. test p ≡ false)
not_every_member test [] h = absurd (true≢false h)
not_every_member test (x ∷ xs) h =
    ⊎_elim (λ e. (x, has_head x xs, e)) (λ e. member_tail x xs (λ p. test p ≡ false) (not_every_member test xs e)) (and_cases (test x) (list_all test xs) h)

pub all_member : (A : ℕ → Type 0) (xs : List ℕ) (p : ℕ) → AllByRecursion A xs → has xs p ≡ true → A p
all_member A [] p a h = absurd (false≢true h)
all_member A (x ∷ xs) p a h = ⊎_elim (λ e. subst A (sym e) a.0) (λ e. all_member A xs p a.1 e) (has_cases x xs p h)

pub members_all : (A : ℕ → Type 0) (xs : List ℕ) → ((p : ℕ) → has xs p ≡ true → A p) → AllByRecursion A xs
members_all A [] h = tt
members_all A (x ∷ xs) h = (h x (has_head x xs), members_all A xs (λ p e. h p (has_tail x xs p e)))

pub map_member : (f : ℕ → ℕ) (xs : List ℕ) (p : ℕ) → has xs p ≡ true → has (map f xs) (f p) ≡ true
map_member f [] p h = h
map_member f (x ∷ xs) p h =
    ⊎_elim (λ e. has_at_head (f x) (map f xs) (f p) (ap f e)) (λ e. has_tail (f x) (map f xs) (f p) (map_member f xs p e)) (has_cases x xs p h)

pub member_of_map : (f : ℕ → ℕ) (xs : List ℕ) (q : ℕ) → has (map f xs) q ≡ true → Member xs (λ p. q ≡ f p)
member_of_map f [] q h = absurd (false≢true h)
member_of_map f (x ∷ xs) q h =
    ⊎_elim (λ e. (x, has_head x xs, e)) (λ e. member_tail x xs (λ p. q ≡ f p) (member_of_map f xs q e)) (has_cases (f x) (map f xs) q h)

-- two tests that imply each other are one
pub same_tests : (a b : Bool) → (a ≡ true → b ≡ true) → (b ≡ true → a ≡ true) → a ≡ b
same_tests true b f g = sym (f refl)
same_tests false true f g = g refl
same_tests false false f g = refl

pub same_side : (a b : Bool) → (a ≡ b) ⊎ (a ≡ b → ⊥)
same_side true true = inl refl
same_side true false = inr true≢false
same_side false true = inr false≢true
same_side false false = inl refl

-- two pins on different sides
pub crosses_by : (side : ℕ → Bool) (ps : List ℕ) (p q : ℕ) → has ps p ≡ true → has ps q ≡ true → (side p ≡ side q → ⊥) → crosses side ps ≡ true
crosses_by side ps p q hp hq d =
    ⊎_elim
    (λ a. ⊎_elim (λ b. absurd (d (a ∙ sym b))) (λ b. from p q hp hq a b) (cases_Bool (side q)))
    (λ a. ⊎_elim (λ b. from q p hq hp b a) (λ b. absurd (d (a ∙ sym b))) (cases_Bool (side q)))
    (cases_Bool (side p))
  where
    from : (x y : ℕ) → has ps x ≡ true → has ps y ≡ true → side x ≡ true → side y ≡ false → crosses side ps ≡ true
    from x y hx hy a b =
        and_from (list_any side ps) (list_any (λ z. not (side z)) ps) (member_any side ps x hx a) (member_any (λ z. not (side z)) ps y hy (not_from_false (side y) b))

pub crossing_pins : (side : ℕ → Bool) (ps : List ℕ) → crosses side ps ≡ true → Member ps (λ p. side p ≡ true) × Member ps (λ q. side q ≡ false)
crossing_pins side ps h =
    let e = and_parts (list_any side ps) (list_any (λ z. not (side z)) ps) h in
    let b : Member ps (λ q. not (side q) ≡ true) = any_member (λ z. not (side z)) ps e.1 in
    (any_member side ps e.0, (b.0, b.1, not-true (side b.0) b.2))

pub any_like : (c d : ℕ → Bool) (ps : List ℕ) → ((p : ℕ) → has ps p ≡ true → c p ≡ d p) → list_any c ps ≡ list_any d ps
any_like c d [] h = refl
any_like c d (p ∷ ps) h = ap₂ (λ a b. a || b) (h p (has_head p ps)) (any_like c d ps (λ q e. h q (has_tail p ps q e)))

pub every_like : (c d : ℕ → Bool) (ps : List ℕ) → ((p : ℕ) → has ps p ≡ true → c p ≡ d p) → list_all c ps ≡ list_all d ps
every_like c d [] h = refl
every_like c d (p ∷ ps) h = ap₂ (λ a b. a && b) (h p (has_head p ps)) (every_like c d ps (λ q e. h q (has_tail p ps q e)))

pub crosses_like : (c d : ℕ → Bool) (ps : List ℕ) → ((p : ℕ) → has ps p ≡ true → c p ≡ d p) → crosses c ps ≡ crosses d ps
crosses_like c d ps h = ap₂ (λ a b. a && b) (any_like c d ps h) (any_like (λ p. not (c p)) (λ p. not (d p)) ps (λ p e. ap not (h p e)))

any_map : (test : ℕ → Bool) (f : ℕ → ℕ) (ps : List ℕ) → list_any test (map f ps) ≡ list_any (λ p. test (f p)) ps
any_map test f [] = refl
any_map test f (p ∷ ps) = ap (λ z. test (f p) || z) (any_map test f ps)

pub crosses_map : (side : ℕ → Bool) (f : ℕ → ℕ) (ps : List ℕ) → crosses side (map f ps) ≡ crosses (λ p. side (f p)) ps
crosses_map side f ps = ap₂ (λ a b. a && b) (any_map side f ps) (any_map (λ p. not (side p)) f ps)

-- the three parts of a pull: a pin at v, one in the set, none elsewhere
pub pulls_parts : (v : ℕ) (among : ℕ → Bool) (ps : List ℕ) → pulls v among ps ≡ true
    → (has ps v ≡ true) × (list_any among ps ≡ true) × (list_all (λ p. eqb p v || among p) ps ≡ true)
pulls_parts v among ps h =
    let a = and_parts (has ps v) (list_any among ps && list_all (λ p. eqb p v || among p) ps) h in
    let b = and_parts (list_any among ps) (list_all (λ p. eqb p v || among p) ps) a.1 in
    (a.0, b.0, b.1)

pub pulls_from : (v : ℕ) (among : ℕ → Bool) (ps : List ℕ) → has ps v ≡ true → list_any among ps ≡ true → list_all (λ p. eqb p v || among p) ps ≡ true → pulls v among ps ≡ true
pulls_from v among ps a b c =
    and_from (has ps v) (list_any among ps && list_all (λ p. eqb p v || among p) ps) a (and_from (list_any among ps) (list_all (λ p. eqb p v || among p) ps) b c)
