-- Keys after one net more, and what a step takes.
use Rattle.std.proofs.Common.{◌≡◌, ℕ, zero, suc, ◌+◌, ◌<◌, ◌≤◌, Bool, true, false, cond, eqb, List, [], ◌∷◌, length, replicate, take, set, Some, None, sym, refl, ap, ◌∙◌, ap₂, ⊎_elim, arith}
use Rattle.std.specs.List.{slice_get}
use Rattle.std.proofs.lemmas.List.{take_all, get_or-set_same, get_or-set_other}
use Rattle.std.proofs.lemmas.Bool.{both_ways, eqb-true, eq-eqb, cases_Bool}
use Rattle.moduleset.specs.Words.{has as is_in}
use Rattle.price.specs.Kind.{Kind, Laws}
use Rattle.netlist.specs.Nets.{Net, price_at}
use Rattle.cut.specs.Cuts.{total, pulls}
use Rattle.cut.proofs.Totals.{total_append}
use Rattle.grouping.proofs.Nth.{nth_next}
use Rattle.grouping.specs.Masks.{SetOf}
use Rattle.partition.specs.Pulls.{pulled, key_in, KeysArePulls}

-- the price is joined onto the key of the waiting module at which a net with these pins pulls, and onto no other
abbrev pub NetJoined : {P : Type 0} → Kind P → ℕ → List ℕ → P → List P → List P → Type 0
NetJoined k taken pins price cells cells' =
    (v : ℕ) → is_in taken v ≡ false → key_in k cells' v ≡ cond (pulls v (is_in taken) pins) (k.join (key_in k cells v) price) (key_in k cells v)

module _ {P : Type 0} (k : Kind P) where
  module _ (l : Laws k) where
    join_zero : (p : P) → k.join p k.zero ≡ p
    join_zero p = l.commutative p k.zero ∙ l.neutral p

    total_one : (test : List ℕ → Bool) (net : Net P) (q : P) → k.join q (total k test (net ∷ [])) ≡ cond (test net.pins) (k.join q net.price) q
    total_one test net q = go (test net.pins)
      where
        go : (b : Bool) → k.join q (cond b (k.join net.price k.zero) k.zero) ≡ cond b (k.join q net.price) q
        go true = ap (k.join q) (join_zero net.price)
        go false = join_zero q

    total_more : (test : List ℕ → Bool) (nets : List (Net P)) (i : ℕ) (net : Net P) → slice_get nets i ≡ Some net
        → cond (test net.pins) (k.join (total k test (take i nets)) net.price) (total k test (take i nets)) ≡ total k test (take (i + 1) nets)
    total_more test nets i net e =
        sym (total_one test net (total k test (take i nets)))
        ∙ sym (total_append k l test (take i nets) (net ∷ []))
        ∙ ap (total k test) (sym (nth_next nets i net (sym e)))

  -- the net that a price is of
  priced_net : (nets : List (Net P)) (i : ℕ) (p : P) → Some p ≡ price_at nets i → (net : Net P) × (slice_get nets i ≡ Some net) × (net.price ≡ p)
  priced_net [] i p e = absurd cc
  priced_net (x ∷ nets) zero p e = (x, refl, cc)
  priced_net (x ∷ nets) (suc i) p e = priced_net nets i p e

  pub no_price : (nets : List (Net P)) (i : ℕ) → None ≡ price_at nets i → length nets ≤ i
  no_price [] i e = omega arith
  no_price (x ∷ nets) zero e = absurd cc
  no_price (x ∷ nets) (suc i) e = omega (arith, no_price nets i e)

  zero_key : (n v : ℕ) → key_in k (replicate n k.zero) v ≡ k.zero
  zero_key zero v = refl
  zero_key (suc n) zero = refl
  zero_key (suc n) (suc v) = zero_key n v

  pub keys_start : (nets : List (Net P)) (taken n : ℕ) (cells : List P) → cells ≡ replicate n k.zero → KeysArePulls k (take 0 nets) taken cells
  unfolding pulled
  keys_start nets taken n cells e v h o = ap (λ xs. key_in k xs v) e ∙ zero_key n v

  pub keys_more : Laws k → (nets : List (Net P)) (taken i mask : ℕ) (p : P) (cells cells' : List P) → ((net : Net P) → slice_get nets i ≡ Some net → SetOf mask net.pins)
      → Some p ≡ price_at nets i → ((pins : List ℕ) → SetOf mask pins → NetJoined k taken pins p cells cells') → KeysArePulls k (take i nets) taken cells
      → KeysArePulls k (take (i + 1) nets) taken cells'
  unfolding pulled
  keys_more l nets taken i mask p cells cells' masks e joined keys v h o =
      let r : (net : Net P) × (slice_get nets i ≡ Some net) × (net.price ≡ p) = priced_net nets i p e in
      joined r.0.pins (masks r.0 r.1) v o
      ∙ ap₂ (λ x y. cond (pulls v (is_in taken) r.0.pins) (k.join x y) x) (keys v h o) (sym r.2)
      ∙ total_more l (pulls v (is_in taken)) nets i r.0 r.1

  price_there : (nets : List (Net P)) (i : ℕ) → i < length nets → (p : P) × (Some p ≡ price_at nets i)
  price_there [] i h = absurd (omega arith)
  price_there (x ∷ nets) zero h = (x.price, refl)
  price_there (x ∷ nets) (suc i) h = price_there nets i (omega arith)

  -- where the net pulls nowhere, the keys stay
  pub keys_stay : Laws k → (nets : List (Net P)) (taken i mask : ℕ) (cells : List P) → i < length nets → ((net : Net P) → slice_get nets i ≡ Some net → SetOf mask net.pins)
      → ((pins : List ℕ) → SetOf mask pins → (u : ℕ) → is_in taken u ≡ false → false ≡ pulls u (is_in taken) pins) → KeysArePulls k (take i nets) taken cells
      → KeysArePulls k (take (i + 1) nets) taken cells
  keys_stay l nets taken i mask cells there masks none keys =
      let p = price_there nets i there in
      keys_more l nets taken i mask p.0 cells cells masks p.1
      (λ pins s u o. ap (λ b. cond b (k.join (key_in k cells u) p.0) (key_in k cells u)) (none pins s u o)) keys

  -- where it pulls at v, its price is joined onto the key of v
  pub joined_at : (taken : ℕ) (pins : List ℕ) (p : P) (cells cells' : List P) (v : ℕ) → v < length cells → cells' ≡ set cells v (k.join (key_in k cells v) p)
      → ((u : ℕ) → is_in taken u ≡ false → eqb u v ≡ pulls u (is_in taken) pins) → NetJoined k taken pins p cells cells'
  joined_at taken pins p cells cells' v h e at u o =
      let joined = k.join (key_in k cells v) p in
      ap (λ xs. key_in k xs u) e
      ∙ ⊎_elim
      (λ t. (let same : u ≡ v = eqb-true u v t in
      ap (key_in k (set cells v joined)) same ∙ get_or-set_same cells v joined k.zero h ∙ ap (λ (x : ℕ). k.join (key_in k cells x) p) (sym same)
      ∙ ap (λ b. cond b (k.join (key_in k cells u) p) (key_in k cells u)) (sym t)))
      (λ t. get_or-set_other cells v u joined k.zero (λ q. both_ways (eqb u v) t (eq-eqb u v q))
      ∙ ap (λ b. cond b (k.join (key_in k cells u) p) (key_in k cells u)) (sym t))
      (cases_Bool (eqb u v))
      ∙ ap (λ b. cond b (k.join (key_in k cells u) p) (key_in k cells u)) (at u o)

  pub keys_all : (nets : List (Net P)) (taken i : ℕ) (cells : List P) → length nets ≤ i → KeysArePulls k (take i nets) taken cells → KeysArePulls k nets taken cells
  keys_all nets taken i cells h keys v b o = keys v b o ∙ ap (λ xs. pulled k xs taken v) (take_all i nets h)
