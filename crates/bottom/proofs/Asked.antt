-- What the questions about a bottom answer, over plain values.
use Rattle.std.proofs.Common.{◌≡◌, ℕ, zero, suc, ◌+◌, ◌<◌, ◌≤◌, max, ltb, false, Bor, Option, List, [], ◌∷◌, map, length, get_or, replicate, Some, None, sym, refl, ap, ◌∙◌, ap₂, add-zero, zero-add, arith}
use Rattle.std.specs.List.{range_with_len as counting, slice_get, HoldsAt}
use Rattle.std.specs.Option.{option_map, option_and_then, option_copied, is_some, IfSome, MatchOption}
use Rattle.std.proofs.lemmas.List.FromFn.{length-range_with_len, get_or-range_with_len}
use Rattle.std.proofs.lemmas.Option.{slice_get-get_or, slice_get_past, slice_get_read}
use Rattle.std.proofs.lemmas.Bool.{ltb-true, ltb-false}
use Rattle.price.specs.Kind.{Kind}
use Rattle.netlist.specs.Nets.{Net, pin_count_at, pin_at, price_at}
use Rattle.netlist.specs.Places.{place, groups, placed}
use Rattle.netlist.specs.Meaning.{zero_muted, own_nets}
use Rattle.bottom.specs.BottomMeaning.{nets_from, bottom_meaning}
use Rattle.bottom.specs.Fitting.{PinsThere, length_nets}

-- places
groups_from : (a n : ℕ) → max a (groups (counting a n)) ≡ a + n
groups_from a zero = omega arith
groups_from a (suc n) = let e = groups_from (a + 1) n in omega arith

pub groups_counting : (n : ℕ) → groups (counting 0 n) ≡ n
groups_counting n = let e = groups_from 0 n in omega arith

pub place_asked : (n home : ℕ) (r : Option ℕ) → is_some r ≡ ltb home n → IfSome r (λ x. x ≡ home) → r ≡ slice_get (counting 0 n) home
place_asked n home None e h = sym (slice_get_past (counting 0 n) home (let l = length-range_with_len 0 n in let past = ltb-false home n (sym e) in omega arith))
place_asked n home (Some x) e h =
    let l = length-range_with_len 0 n in
    let there = ltb-true home n (sym e) in
    sym (slice_get-get_or (counting 0 n) home 0 (omega arith) ∙ ap Some (get_or-range_with_len 0 n home 0 there ∙ zero-add home ∙ sym h))

-- placing by k ↦ k leaves pins below the count
pub placed_same : (n : ℕ) (pins : List ℕ) → ((i : ℕ) → i < length pins → get_or pins i 0 < n) → map (place (counting 0 n)) pins ≡ pins
placed_same n [] f = refl
placed_same n (p ∷ ps) f =
    ap₂ (λ (q : ℕ) qs. q ∷ qs) (get_or-range_with_len 0 n p 0 (f 0 (omega arith)) ∙ zero-add p) (placed_same n ps (λ i h. f (suc i) (omega arith)))

-- a list read at an index, and the value copied
pub read : {X : Type 0} (xs : List X) (i : ℕ) (o : Option (Bor X)) → MatchOption o (length xs ≤ i) (λ x. (i < length xs) × HoldsAt (λ y. x.now ≡ y) xs i)
    → option_copied o ≡ slice_get xs i
read xs i None h = sym (slice_get_past xs i h)
read xs i (Some x) h = sym (slice_get_read xs (length xs) i x.now refl h.0 (h.1 x.now))

-- nets
net_there : {P : Type 0} (pins : ℕ → List ℕ) (a : ℕ) (xs : List P) (i : ℕ) → i < length xs → (x : P) × (slice_get (nets_from pins a xs) i ≡ Some (record { price = x; pins = pins (a + i) }))
net_there pins a [] i h = absurd (omega arith)
net_there pins a (x ∷ xs) zero h = (x, ap (λ (j : ℕ). Some (record { price = x; pins = pins j })) (sym (add-zero a)))
net_there pins a (x ∷ xs) (suc i) h =
    let r = net_there pins (a + 1) xs i (omega arith) in
    (r.0, r.1 ∙ ap (λ (j : ℕ). Some (record { price = r.0; pins = pins j })) (omega arith))

price_from : {P : Type 0} (pins : ℕ → List ℕ) (a : ℕ) (xs : List P) (i : ℕ) → option_map (λ net. net.price) (slice_get (nets_from pins a xs) i) ≡ slice_get xs i
price_from pins a [] i = refl
price_from pins a (x ∷ xs) zero = refl
price_from pins a (x ∷ xs) (suc i) = price_from pins (a + 1) xs i

module _ {P : Type 0} (k : Kind P) (modules : ℕ) (pins : ℕ → List ℕ) (prices : List P) (there : PinsThere modules pins (length prices)) where
  own_from : (i : ℕ) (xs : List P) → i + length xs ≤ length prices
      → placed (counting 0 modules) (zero_muted k (nets_from pins i xs) (replicate (length xs) false)) ≡ nets_from pins i xs
  own_from i [] h = refl
  own_from i (x ∷ xs) h =
      ap₂ (λ (ps : List ℕ) (nets : List (Net P)). record { price = x; pins = ps } ∷ nets) (placed_same modules (pins i) (λ j l. there i j (omega arith) l)) (own_from (i + 1) xs (omega arith))

  -- a bottom's own nets are its home nets
  pub own_same : own_nets k (bottom_meaning modules pins prices) ≡ nets_from pins 0 prices
  unfolding own_nets
  own_same = own_from 0 prices (omega arith)

  pub price_asked : (net : ℕ) → price_at (own_nets k (bottom_meaning modules pins prices)) net ≡ slice_get prices net
  price_asked net = ap (λ nets. price_at nets net) own_same ∙ price_from pins 0 prices net

  -- what a read of the prices gives
  pub price_read : (net : ℕ) (o : Option (Bor P)) → MatchOption o (length prices ≤ net) (λ x. (net < length prices) × HoldsAt (λ y. x.now ≡ y) prices net)
      → option_copied o ≡ price_at (own_nets k (bottom_meaning modules pins prices)) net
  price_read net o h = read prices net o h ∙ sym (price_asked net)

  at_net : (net : ℕ) → net < length prices → (x : P) × (slice_get (own_nets k (bottom_meaning modules pins prices)) net ≡ Some (record { price = x; pins = pins net }))
  at_net net h =
      let r = net_there pins 0 prices net h in
      (r.0, ap (λ nets. slice_get nets net) own_same ∙ r.1 ∙ ap (λ (j : ℕ). Some (record { price = r.0; pins = pins j })) (zero-add net))

  no_net : (net : ℕ) → length prices ≤ net → slice_get (own_nets k (bottom_meaning modules pins prices)) net ≡ None
  no_net net h = ap (λ nets. slice_get nets net) own_same ∙ slice_get_past (nets_from pins 0 prices) net (let e = length_nets pins 0 prices in omega arith)

  pub count_asked : (net : ℕ) → net < length prices → pin_count_at (own_nets k (bottom_meaning modules pins prices)) net ≡ Some (length (pins net))
  count_asked net h = ap (option_map (λ n. length n.pins)) (at_net net h).1

  pub count_absent : (net : ℕ) → length prices ≤ net → pin_count_at (own_nets k (bottom_meaning modules pins prices)) net ≡ None
  count_absent net h = ap (option_map (λ n. length n.pins)) (no_net net h)

  pub pin_asked : (net position : ℕ) → net < length prices → pin_at (own_nets k (bottom_meaning modules pins prices)) net position ≡ slice_get (pins net) position
  pin_asked net position h = ap (option_and_then (λ n. slice_get n.pins position)) (at_net net h).1

  pub pin_absent : (net position : ℕ) → length prices ≤ net → pin_at (own_nets k (bottom_meaning modules pins prices)) net position ≡ None
  pin_absent net position h = ap (option_and_then (λ n. slice_get n.pins position)) (no_net net h)

-- what each question about a bottom asks
pub ruleset asked = (groups_counting, length-range_with_len, length_nets, price_read, read, count_asked, count_absent, pin_asked, pin_absent)
