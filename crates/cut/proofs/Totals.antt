-- Prices compared and joined, and totals over nets: monotone in the test, and joined over disjoint tests.
use Rattle.std.proofs.Common.{◌≡◌, ℕ, Bool, true, false, cond, not, ◌&&◌, ◌⊎◌, List, [], ◌∷◌, ◌++◌, sym, refl, ap, ◌∙◌, subst, inl, inr, ⊎_elim}
use Rattle.std.proofs.lemmas.Bool.{false≢true, both_ways, cases_Bool, and_parts, and_from}
use Rattle.price.specs.Kind.{Kind, NotGreater, Laws}
use Rattle.netlist.specs.Nets.{Net, OnPins}
use Rattle.cut.specs.Cuts.{total}

pub on_pins_map : {P : Type 0} (A B : List ℕ → Type 0) (nets : List (Net P)) → ((ps : List ℕ) → A ps → B ps) → OnPins A nets → OnPins B nets
on_pins_map A B [] f o = tt
on_pins_map A B (net ∷ nets) f o = (f net.pins o.0, on_pins_map A B nets f o.1)

module _ {P : Type 0} (k : Kind P) (l : Laws k) where
  pub le_refl : (p : P) → NotGreater k p p
  le_refl p = l.irreflexive p

  pub le_trans : (p q r : P) → NotGreater k p q → NotGreater k q r → NotGreater k p r
  le_trans p q r a b = go (k.less p q) refl (k.less r p) refl
    where
      go : (t : Bool) → k.less p q ≡ t → (s : Bool) → k.less r p ≡ s → NotGreater k p r
      go t e false f = f
      go true e true f = absurd (both_ways (k.less r q) b (l.transitive r p q f e))
      go false e true f = subst (λ z. NotGreater k z r) (sym (l.connected p q e a)) b

  pub less_le : (p q : P) → k.less p q ≡ true → NotGreater k p q
  less_le p q e = ⊎_elim (λ f. absurd (both_ways (k.less p p) (l.irreflexive p) (l.transitive p q p e f))) (λ f. f) (cases_Bool (k.less q p))

  pub less_le_less : (p q r : P) → k.less p q ≡ true → NotGreater k q r → k.less p r ≡ true
  less_le_less p q r a b = ⊎_elim (λ e. l.transitive p q r a e) (λ e. subst (λ z. k.less p z ≡ true) (l.connected q r e b) a) (cases_Bool (k.less q r))

  pub le_less_less : (p q r : P) → NotGreater k p q → k.less q r ≡ true → k.less p r ≡ true
  le_less_less p q r a b =
      ⊎_elim (λ e. l.transitive p q r e b) (λ e. subst (λ z. k.less z r ≡ true) (sym (l.connected p q e a)) b) (cases_Bool (k.less p q))

  pub join_le : (p q r s : P) → NotGreater k p q → NotGreater k r s → NotGreater k (k.join p r) (k.join q s)
  join_le p q r s a b =
      le_trans (k.join p r) (k.join q r) (k.join q s) (l.join_monotone p q r a)
      (subst (λ z. NotGreater k z (k.join q s)) (l.commutative r q) (subst (λ z. NotGreater k (k.join r q) z) (l.commutative s q) (l.join_monotone r s q b)))

  le_join : (p q : P) → NotGreater k q (k.join p q)
  le_join p q = subst (λ z. NotGreater k z (k.join p q)) (l.neutral q) (l.join_monotone k.zero p q (l.zero_least p))

  -- one net more
  abbrev put : Bool → P → P → P
  put b p q = cond b (k.join p q) q

  put_le : (a b : Bool) (p q r : P) → (a ≡ true → b ≡ true) → NotGreater k q r → NotGreater k (put a p q) (put b p r)
  put_le true true p q r h e = join_le p p q r (le_refl p) e
  put_le true false p q r h e = absurd (false≢true (h refl))
  put_le false true p q r h e = le_trans q r (k.join p r) e (le_join p r)
  put_le false false p q r h e = e

  pub total_le : (f g : List ℕ → Bool) (nets : List (Net P)) → ((ps : List ℕ) → f ps ≡ true → g ps ≡ true) → NotGreater k (total k f nets) (total k g nets)
  total_le f g [] h = le_refl k.zero
  total_le f g (net ∷ nets) h = put_le (f net.pins) (g net.pins) net.price (total k f nets) (total k g nets) (h net.pins) (total_le f g nets h)

  join_swap : (p q r : P) → k.join p (k.join q r) ≡ k.join q (k.join p r)
  join_swap p q r = sym (l.associative p q r) ∙ (ap (λ z. k.join z r) (l.commutative p q) ∙ l.associative q p r)

  put_parts : (h f : Bool) (p q r : P) → put h p (k.join q r) ≡ k.join (put (h && f) p q) (put (h && not f) p r)
  put_parts true true p q r = sym (l.associative p q r)
  put_parts true false p q r = join_swap p q r
  put_parts false f p q r = refl

  -- the nets that pass h are those that pass f as well and those that do not
  pub total_parts : (h f : List ℕ → Bool) (nets : List (Net P))
      → total k h nets ≡ k.join (total k (λ ps. h ps && f ps) nets) (total k (λ ps. h ps && not (f ps)) nets)
  total_parts h f [] = sym (l.neutral k.zero)
  total_parts h f (net ∷ nets) =
      ap (λ z. put (h net.pins) net.price z) (total_parts h f nets)
      ∙ put_parts (h net.pins) (f net.pins) net.price (total k (λ ps. h ps && f ps) nets) (total k (λ ps. h ps && not (f ps)) nets)

  -- what passes h passes f or g
  pub total_cover : (h f g : List ℕ → Bool) (nets : List (Net P)) → ((ps : List ℕ) → h ps ≡ true → (f ps ≡ true) ⊎ (g ps ≡ true))
      → NotGreater k (total k h nets) (k.join (total k f nets) (total k g nets))
  total_cover h f g nets c =
      subst (λ z. NotGreater k z (k.join (total k f nets) (total k g nets))) (sym (total_parts h f nets))
      (join_le (total k (λ ps. h ps && f ps) nets) (total k f nets) (total k (λ ps. h ps && not (f ps)) nets) (total k g nets)
      (total_le (λ ps. h ps && f ps) f nets (λ ps e. (and_parts (h ps) (f ps) e).1))
      (total_le (λ ps. h ps && not (f ps)) g nets
      (λ ps e. rest (f ps) (g ps) (and_parts (h ps) (not (f ps)) e).1 (c ps (and_parts (h ps) (not (f ps)) e).0))))
    where
      rest : (a b : Bool) → not a ≡ true → (a ≡ true) ⊎ (b ≡ true) → b ≡ true
      rest true b e o = absurd (false≢true e)
      rest false b e (inl o) = absurd (false≢true o)
      rest false b e (inr o) = o

  -- what passes f or g passes h, and nothing passes both
  pub total_apart : (h f g : List ℕ → Bool) (nets : List (Net P)) → ((ps : List ℕ) → f ps ≡ true → h ps ≡ true) → ((ps : List ℕ) → g ps ≡ true → (h ps ≡ true) × (f ps ≡ false))
      → NotGreater k (k.join (total k f nets) (total k g nets)) (total k h nets)
  total_apart h f g nets c d =
      subst (λ z. NotGreater k (k.join (total k f nets) (total k g nets)) z) (sym (total_parts h f nets))
      (join_le (total k f nets) (total k (λ ps. h ps && f ps) nets) (total k g nets) (total k (λ ps. h ps && not (f ps)) nets)
      (total_le f (λ ps. h ps && f ps) nets (λ ps e. and_from (h ps) (f ps) (c ps e) e))
      (total_le g (λ ps. h ps && not (f ps)) nets (λ ps e. and_from (h ps) (not (f ps)) (d ps e).0 (ap not (d ps e).1))))

  pub total_none : (f : List ℕ → Bool) (nets : List (Net P)) → ((ps : List ℕ) → f ps ≡ false) → total k f nets ≡ k.zero
  total_none f [] h = refl
  total_none f (net ∷ nets) h = ap (λ z. put z net.price (total k f nets)) (h net.pins) ∙ total_none f nets h

  pub total_like : (f g : List ℕ → Bool) (nets : List (Net P)) → OnPins (λ ps. f ps ≡ g ps) nets → total k f nets ≡ total k g nets
  total_like f g [] h = refl
  total_like f g (net ∷ nets) h =
      ap (λ z. put z net.price (total k f nets)) h.0 ∙ ap (λ z. put (g net.pins) net.price z) (total_like f g nets h.1)

  -- the nets of one list and then of another
  pub total_append : (f : List ℕ → Bool) (xs ys : List (Net P)) → total k f (xs ++ ys) ≡ k.join (total k f xs) (total k f ys)
  total_append f [] ys = sym (l.neutral (total k f ys))
  total_append f (net ∷ xs) ys = ap (λ z. put (f net.pins) net.price z) (total_append f xs ys) ∙ put_join (f net.pins) net.price (total k f xs) (total k f ys)
    where
      put_join : (b : Bool) (p q r : P) → put b p (k.join q r) ≡ k.join (put b p q) r
      put_join true p q r = sym (l.associative p q r)
      put_join false p q r = refl
