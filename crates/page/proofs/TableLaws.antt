-- Laws of the tables that the first nets of a page fill.
use Rattle.std.proofs.Common.{◌≡◌, ℕ, zero, suc, ◌+◌, ◌*◌, ◌<◌, ◌≤◌, ◌^◌, ◌-◌, List, [], ◌∷◌, ◌++◌, length, drop, set, sym, refl, ap, ◌∙◌, inl, inr, add-one, arith}
use Rattle.std.proofs.lemmas.List.{append_assoc, length-append, set_at, drop_more, length_push, take_at, drop_at, drop-drop, drop_all, append-nil}
use Rattle.std.proofs.lemmas.Bool.{cases_lt}
use Rattle.price.specs.Kind.{Kind}
use borrow.Rule.Slice.PartMut.{put_mid}
use Rattle.page.specs.Unpacking.{Holds, Extends, TablesStay}
use Rattle.page.specs.Layout.{pin, pin_count, price_field, net_end, net_bit, net_pins, pins_table, starts_table, prices_table}

-- one more entry written after those of xs, over a table
pub put_more : {X : Type 0} (xs table : List X) (n : ℕ) (v : X) → length xs ≡ n → n < length table → set (xs ++ drop n table) n v ≡ (xs ++ v ∷ []) ++ drop (n + 1) table
put_more xs table n v e h =
    rw (drop_more table n v h) (set_at xs _ (drop (n + 1) table) v n e ∙ sym (append_assoc xs (v ∷ []) (drop (n + 1) table)))

-- a table that is written to its end
pub written : {X : Type 0} (xs table : List X) (n : ℕ) → length table ≤ n → xs ++ drop n table ≡ xs
written xs table n h = rw drop_all (append-nil xs)

-- tables that nothing was written to
pub unwritten : {P : Type 0} (s p : List ℕ) (c : List P) → TablesStay s s p p c c
unwritten s p c = record { starts_stay = refl; pins_stay = refl; prices_stay = refl }

-- a table whose first entries are written
pub extends : {X : Type 0} (xs new table : List X) (n : ℕ) → new ≡ xs → length xs ≡ n → Extends xs table (new ++ drop n table)
extends xs new table n e long = rw (e, long) refl

-- what does not fall from step to step does not fall
rises : (f : ℕ → ℕ) → ((i : ℕ) → f i ≤ f (i + 1)) → (i n : ℕ) → i ≤ n → f i ≤ f n
rises f h i zero l = let e : i ≡ 0 = omega arith in rw e (omega arith)
rises f h i (suc n) l =
    elim (cases_lt n i) [
      | inl k ↦ let e : i ≡ suc n = omega arith in rw e (omega arith)
      | inr k ↦ omega (arith, rises f h i n k, rw (add-one n) at (h n))
    ]

module _ (bytes : List ℕ) where
  pub bit_more : (i : ℕ) → net_bit bytes (i + 1) ≡ net_end bytes (net_bit bytes i)
  unfolding net_bit
  bit_more i = rw add-one

  pub length_net_pins : (at n : ℕ) → length (net_pins bytes at n) ≡ n
  unfolding net_pins
  length_net_pins at zero = refl
  length_net_pins at (suc n) = length_push (net_pins bytes at n) _ ∙ ap (λ (k : ℕ). k + 1) (length_net_pins at n) ∙ add-one n

  pub pins_more : (i : ℕ) → pins_table bytes (i + 1) ≡ pins_table bytes i ++ net_pins bytes (net_bit bytes i) (pin_count bytes (net_bit bytes i))
  unfolding pins_table
  pins_more i = rw add-one

  pub count_more : (i : ℕ) → length (pins_table bytes (i + 1)) ≡ length (pins_table bytes i) + pin_count bytes (net_bit bytes i)
  count_more i =
      ap length (pins_more i)
      ∙ length-append (pins_table bytes i) _
      ∙ ap (λ (n : ℕ). length (pins_table bytes i) + n) (length_net_pins (net_bit bytes i) (pin_count bytes (net_bit bytes i)))

  -- six bits a pin
  pub pins_fit : (i : ℕ) → 6 * length (pins_table bytes i) ≤ net_bit bytes i
  unfolding net_bit pins_table
  pins_fit zero = omega arith
  pins_fit (suc i) = omega (arith, pins_fit i, rw (add-one i) at (count_more i))

  -- later nets stand later, and have more pins before them
  pub bit_rises : (i n : ℕ) → i ≤ n → net_bit bytes i ≤ net_bit bytes n
  bit_rises = rises (net_bit bytes) (λ i. omega (arith, bit_more i))

  pub pins_rise : (i n : ℕ) → i ≤ n → length (pins_table bytes i) ≤ length (pins_table bytes n)
  pins_rise = rises (λ i. length (pins_table bytes i)) (λ i. omega (arith, count_more i))

  -- one more pin of a net over a table
  net_pins_more : (at k : ℕ) → net_pins bytes at (k + 1) ≡ net_pins bytes at k ++ (pin bytes at k ∷ [])
  unfolding net_pins
  net_pins_more at k = rw add-one

  pub net_pins_put : (at k : ℕ) (table : List ℕ) → k < length table
      → set (net_pins bytes at k ++ drop k table) k (pin bytes at k) ≡ net_pins bytes at (k + 1) ++ drop (k + 1) table
  net_pins_put at k table h = put_more (net_pins bytes at k) table k _ (length_net_pins at k) h ∙ rw (net_pins_more at k)

  pub length_starts : (i : ℕ) → length (starts_table bytes i) ≡ i + 1
  unfolding starts_table
  length_starts zero = refl
  length_starts (suc i) = length_push (starts_table bytes i) _ ∙ ap (λ (n : ℕ). n + 1) (length_starts i ∙ add-one i)

  pub length_prices : {P : Type 0} (k : Kind P) (i : ℕ) → length (prices_table bytes k i) ≡ i
  unfolding prices_table
  length_prices k zero = refl
  length_prices k (suc i) = length_push (prices_table bytes k i) _ ∙ ap (λ (n : ℕ). n + 1) (length_prices k i) ∙ add-one i

  pub starts_none : (table : List ℕ) → 0 < length table → set table 0 0 ≡ starts_table bytes 0 ++ drop 1 (set table 0 0)
  unfolding starts_table
  starts_none [] h = absurd (omega arith)
  starts_none (x ∷ xs) h = refl

  -- One more net written into each table.
  pub starts_put : (i : ℕ) (table : List ℕ) → i + 1 < length table
      → set (starts_table bytes i ++ drop (i + 1) table) (i + 1) (length (pins_table bytes (i + 1))) ≡ starts_table bytes (i + 1) ++ drop (i + 1 + 1) table
  unfolding starts_table
  starts_put i table h = put_more (starts_table bytes i) table (i + 1) _ (length_starts i) h ∙ rw (add-one i)

  pub prices_put : {P : Type 0} (k : Kind P) (i : ℕ) (table : List P) → i < length table
      → set (prices_table bytes k i ++ drop i table) i (k.field (price_field bytes (net_bit bytes i))) ≡ prices_table bytes k (i + 1) ++ drop (i + 1) table
  unfolding prices_table
  prices_put k i table h = put_more (prices_table bytes k i) table i _ (length_prices k i) h ∙ rw (add-one i)

  -- the pins of net i written over a table that has those of the nets before
  pub pins_put : (i n k : ℕ) (table : List ℕ) → n ≡ length (pins_table bytes i) → k ≡ pin_count bytes (net_bit bytes i)
      → put_mid n (n + k - n) (pins_table bytes i ++ drop n table) (net_pins bytes (net_bit bytes i) k) ≡ pins_table bytes (i + 1) ++ drop (n + k) table
  pins_put i n k table e count =
      let own = pins_table bytes i in
      let added : n + k - n ≡ k = omega arith in
      rw (take_at own (drop n table) n (sym e), drop_at own (drop n table) n (sym e), added, drop-drop k n table, pins_more i, ← count, append_assoc own (net_pins bytes (net_bit bytes i) k) (drop (n + k) table))

  -- A net that is among the first nets, which the page holds: what the fill asks of it.
  pub held : (nets : ℕ) → Holds bytes nets → (i at total : ℕ) → i < nets → at ≡ net_bit bytes i → total ≡ length (pins_table bytes i)
      → (at < 2 ^ 30) × (net_end bytes at ≤ 8 * length bytes) × (total + pin_count bytes at ≤ length (pins_table bytes nets)) × (total + pin_count bytes at < 2 ^ 30)
  held nets h i at total l at_is total_is =
      let bit = bit_more i in
      let count = count_more i in
      let rises = bit_rises (i + 1) nets (omega arith) in
      let fits = pins_fit nets in
      let more = pins_rise (i + 1) nets (omega arith) in
      rw (at_is, total_is) (omega arith, omega arith, omega arith, omega arith)
