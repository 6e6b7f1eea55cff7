-- The tables of an accepted page have no fault, and mean the page's netlist.
use Rattle.std.proofs.Common.{◌≡◌, ℕ, ◌+◌, ◌-◌, ◌<◌, ◌≤◌, false, eqb, List, [], ◌∷◌, ◌++◌, length, get_or, take, drop, replicate, Some, None, ◌⊎◌, inl, inr, Ok, Err, Option, Result, sym, refl, ap, ◌∙◌, subst, ap₂, arith}
use Rattle.std.specs.List.{range_with_len}
use Rattle.std.proofs.lemmas.List.{take_at, drop_at, length-append, length-take-le}
use Rattle.std.proofs.lemmas.Bool.{lt-ltb, le-ltb, eq-eqb, ne_eqb}
use Rattle.refusal.specs.declared.Fault.{Fault}
use Rattle.refusal.specs.declared.Fault.TheVariants.{TooShort}
use Rattle.refusal.proofs.CheckLaws.{some_of_none, first_of_none, or_none, option_or_none, then_some_false}
use Rattle.price.specs.Kind.{Kind}
use Rattle.netlist.specs.Meaning.{Meaning}
use Rattle.bottom.specs.BottomMeaning.{nets_from}
use Rattle.bottom.specs.LoadFaults.{counts_fault, few_fault, net_fault, pins_fault, Loads}
use Rattle.bottom.proofs.FirstFaults.{pin_fine}
use Rattle.pin_tables.specs.Tables.{net_pins as owned, disagree, few, tables_fault, tables_meaning}
use Rattle.page.specs.Layout.{modules_field, nets_field, pin_count, net_bit, net_pins, pins_table, starts_table, prices_table}
use Rattle.page.specs.declared.counts.Counts.{Counts}
use Rattle.page.specs.Faults.{page_fault, room_fault, unpack_fault}
use Rattle.page.specs.Unpacking.{Extends, Filled}
use Rattle.loading.specs.Loading.{counted_fault, counted_meaning, page_meaning, LoadsPages}
use Rattle.page.proofs.TableLaws.{count_more, length_net_pins, length_starts, length_prices}
use Rattle.page.proofs.Accepted.{few_modules, few_nets, two_pins, pin_there, pin_new, net_pin_at, start_at, net_within}

module _ (bytes : List ℕ) where
  -- the pins that the tables give to net i are the page's
  pub owned_same : (n i : ℕ) → i < n
      → owned (starts_table bytes n) (pins_table bytes n) i ≡ net_pins bytes (net_bit bytes i) (pin_count bytes (net_bit bytes i))
  owned_same n i h =
      let from = start_at bytes n i (omega arith) in
      let to = start_at bytes n (i + 1) (omega arith) in
      let more = count_more bytes i in
      let w = net_within bytes n i h in
      let ps = net_pins bytes (net_bit bytes i) (pin_count bytes (net_bit bytes i)) in
      let long : get_or (starts_table bytes n) (i + 1) 0 - get_or (starts_table bytes n) i 0 ≡ length ps =
      omega (arith, length_net_pins bytes (net_bit bytes i) (pin_count bytes (net_bit bytes i))) in
      let rest : drop (get_or (starts_table bytes n) i 0) (pins_table bytes n) ≡ ps ++ w.0 =
      ap (λ (x : ℕ). drop x (pins_table bytes n)) from ∙ ap (drop (length (pins_table bytes i))) w.1 ∙ drop_at (pins_table bytes i) (ps ++ w.0) _ refl in
      ap (λ xs. take (get_or (starts_table bytes n) (i + 1) 0 - get_or (starts_table bytes n) i 0) xs) rest
      ∙ ap (λ (x : ℕ). take x (ps ++ w.0)) long
      ∙ take_at ps w.0 _ refl

  none_yet : length (pins_table bytes 0) ≡ 0
  unfolding pins_table
  none_yet = refl

  module _ (kind : ℕ) (fine : page_fault bytes kind ≡ None) where
    -- no pin of a net has a fault
    net_loads : (i : ℕ) → i < nets_field bytes → net_fault (modules_field bytes) i (net_pins bytes (net_bit bytes i) (pin_count bytes (net_bit bytes i))) ≡ None
    net_loads i h =
        let at = net_bit bytes i in
        let count = pin_count bytes at in
        let ps = net_pins bytes at count in
        let long = length_net_pins bytes at count in
        first_of_none _ (length ps) (λ j l.
        let m : j < count = omega arith in
        let e = net_pin_at bytes at count j m in
        pin_fine (modules_field bytes) i ps j
        (let t = pin_there bytes kind fine i h j m in omega arith)
        (some_of_none (λ earlier. eqb (get_or ps j 0) (get_or ps earlier 0)) j (λ earlier before.
        ne_eqb (get_or ps j 0) (get_or ps earlier 0) (λ same.
        pin_new bytes kind fine i h j m earlier before
        (sym (net_pin_at bytes at count earlier (omega arith)) ∙ sym same ∙ e)))))

    pub counts_fine : counts_fault (modules_field bytes) (nets_field bytes) ≡ None
    counts_fine = rw (le-ltb 64 (modules_field bytes) (few_modules bytes kind fine), le-ltb 1024 (nets_field bytes) (few_nets bytes kind fine))

    -- the tables of the page's nets, as pin tables find them
    pub no_fault : tables_fault (modules_field bytes) (starts_table bytes (nets_field bytes)) (pins_table bytes (nets_field bytes)) (nets_field bytes) ≡ None
    no_fault =
        let m = modules_field bytes in
        let n = nets_field bytes in
        let starts = starts_table bytes n in
        let pins = pins_table bytes n in
        let agree : disagree starts (length pins) n ≡ false =
        rw (eq-eqb (length starts) (n + 1) (length_starts bytes n), eq-eqb (get_or starts 0 0) 0 (start_at bytes n 0 (omega arith) ∙ none_yet), eq-eqb (get_or starts n 0) (length pins) (start_at bytes n n (omega arith))) in
        let enough : few_fault (few starts) n ≡ None = first_of_none _ n (λ i h. then_some_false _ _ (le-ltb (get_or starts (i + 1) 0) (get_or starts i 0 + 2)
        (let a = start_at bytes n i (omega arith) in let b = start_at bytes n (i + 1) (omega arith) in let c = count_more bytes i in let d = two_pins bytes kind fine i h in omega arith))) in
        let there : pins_fault m (owned starts pins) n ≡ None = first_of_none _ n (λ i h. ap (net_fault m i) (owned_same n i h) ∙ net_loads i h) in
        rw (counts_fine, agree, enough, there)

  -- the nets of the tables are the page's
  nets_same : {P : Type 0} (n i : ℕ) (prices : List P) → i + length prices ≤ n
      → nets_from (owned (starts_table bytes n) (pins_table bytes n)) i prices
      ≡ nets_from (λ j. net_pins bytes (net_bit bytes j) (pin_count bytes (net_bit bytes j))) i prices
  nets_same n i [] h = refl
  nets_same n i (x ∷ xs) h =
      ap₂ (λ ps nets. record { price = x; pins = ps } ∷ nets) (owned_same n i (omega arith)) (nets_same n (i + 1) xs (omega arith))

  pub meaning_same : {P : Type 0} (k : Kind P)
      → tables_meaning (modules_field bytes) (starts_table bytes (nets_field bytes)) (pins_table bytes (nets_field bytes)) (prices_table bytes k (nets_field bytes))
      ≡ page_meaning k bytes
  meaning_same k =
      ap (λ nets. record { places = range_with_len 0 (modules_field bytes); nets = nets; muted = replicate (length (prices_table bytes k (nets_field bytes))) false })
      (nets_same (nets_field bytes) 0 (prices_table bytes k (nets_field bytes)) (let e = length_prices bytes k (nets_field bytes) in omega arith))

-- Loading tables that unpacking a page has filled.
module _ {P : Type 0} (k : Kind P) (bytes s starts p pins : List ℕ) (c prices : List P) (n : Counts) (filled : Filled k bytes s starts p pins c prices n) where
  front : {X : Type 0} (written before after : List X) (m : ℕ) → length written ≡ m → Extends written before after → take m after ≡ written
  front written before after m long e = ap (take m) e ∙ take_at written _ m long

  as_long : {X : Type 0} (written before after : List X) (m : ℕ) → length written ≡ m → Extends written before after → m ≤ length after
  as_long written before after m long e = omega (arith, ap length e, length-append written (drop (length written) before))

  starts_long : length (starts_table bytes (nets_field bytes)) ≡ n.nets + 1
  starts_long = length_starts bytes (nets_field bytes) ∙ ap (λ (x : ℕ). x + 1) (sym filled.counted.nets_are)

  prices_long : length (prices_table bytes k (nets_field bytes)) ≡ n.nets
  prices_long = length_prices bytes k (nets_field bytes) ∙ sym filled.counted.nets_are

  starts_front : take (n.nets + 1) starts ≡ starts_table bytes (nets_field bytes)
  starts_front = front _ s starts (n.nets + 1) starts_long filled.written.starts_are

  pins_front : take n.pins pins ≡ pins_table bytes (nets_field bytes)
  pins_front = front _ p pins n.pins (sym filled.counted.pins_are) filled.written.pins_are

  prices_front : take n.nets prices ≡ prices_table bytes k (nets_field bytes)
  prices_front = front _ c prices n.nets prices_long filled.written.prices_are

  room : room_fault n.nets n.pins (length starts) (length pins) (length prices) ≡ None
  room =
      rw (
        le-ltb (length starts) (n.nets + 1) (as_long _ s starts (n.nets + 1) starts_long filled.written.starts_are),
        le-ltb (length pins) n.pins (as_long _ p pins n.pins (sym filled.counted.pins_are) filled.written.pins_are),
        le-ltb (length prices) n.nets (as_long _ c prices n.nets prices_long filled.written.prices_are),
      )

  no_page_fault : page_fault bytes k.number ≡ None
  unfolding unpack_fault
  no_page_fault = (option_or_none (page_fault bytes k.number) _ filled.no_fault).0

  counts : counts_fault n.modules n.nets ≡ None
  counts = ap₂ counts_fault filled.counted.modules_are filled.counted.nets_are ∙ counts_fine bytes k.number no_page_fault

  pub filled_fault : counted_fault n starts pins prices ≡ None
  filled_fault =
      or_none _ counts
      ∙ or_none _ room
      ∙ ap (λ (x : ℕ). tables_fault x (take (n.nets + 1) starts) (take n.pins pins) n.nets) filled.counted.modules_are
      ∙ ap (λ xs. tables_fault (modules_field bytes) xs (take n.pins pins) n.nets) starts_front
      ∙ ap (λ xs. tables_fault (modules_field bytes) (starts_table bytes (nets_field bytes)) xs n.nets) pins_front
      ∙ ap (λ (x : ℕ). tables_fault (modules_field bytes) (starts_table bytes (nets_field bytes)) (pins_table bytes (nets_field bytes)) x) filled.counted.nets_are
      ∙ no_fault bytes k.number no_page_fault

  pub filled_meaning : counted_meaning n starts pins prices ≡ page_meaning k bytes
  filled_meaning =
      ap (λ (x : ℕ). tables_meaning x (take (n.nets + 1) starts) (take n.pins pins) (take n.nets prices)) filled.counted.modules_are
      ∙ ap (λ xs. tables_meaning (modules_field bytes) xs (take n.pins pins) (take n.nets prices)) starts_front
      ∙ ap (λ xs. tables_meaning (modules_field bytes) (starts_table bytes (nets_field bytes)) xs (take n.nets prices)) pins_front
      ∙ ap (λ xs. tables_meaning (modules_field bytes) (starts_table bytes (nets_field bytes)) (pins_table bytes (nets_field bytes)) xs) prices_front
      ∙ meaning_same bytes k

-- a load without a fault is accepted, and means what it should
pub loads_filled : {S P : Type 0} (means : S → Meaning P) (fault : Option Fault) (meant : Meaning P) (old new : S) (r : Result (Unit {0}) Fault)
    → Loads means fault meant old new r → fault ≡ None → (r ≡ Ok tt) × (means new ≡ meant)
loads_filled means fault meant old new (Ok tt) h e = (refl, h.1)
loads_filled means fault meant old new (Err f) h e = absurd (let a = h.0 in let z : ◌≡◌ {A = ℕ} 0 1 = cc in omega arith)

-- what loading answers, it answers of the tables of pages too
pub pages_load : {S P : Type 0} (k : Kind P) (means : S → Meaning P) (n : Counts) (starts pins : List ℕ) (prices : List P) (old new : S) (r : Result (Unit {0}) Fault)
    → Loads means (counted_fault n starts pins prices) (counted_meaning n starts pins prices) old new r → LoadsPages k n starts pins prices (means new) r
pages_load k means n starts pins prices old new r loads bytes s p c filled =
    let l = loads_filled means (counted_fault n starts pins prices) (counted_meaning n starts pins prices) old new r loads (filled_fault k bytes s starts p pins c prices n filled) in
    (l.0, l.1 ∙ filled_meaning k bytes s starts p pins c prices n filled)

-- What loading the first entries of tables tells.
module _ {P : Type 0} (n : Counts) (starts pins : List ℕ) (prices : List P) where
  -- the first fault, and the tables that were loaded before stay
  pub fault_told : {S : Type 0} (k : Kind P) (means : S → Meaning P) (old : S) (r : Result (Unit {0}) Fault) (fault : Fault)
      → counted_fault n starts pins prices ≡ Some fault → r ≡ Err fault
      → Loads means (counted_fault n starts pins prices) (counted_meaning n starts pins prices) old old r × LoadsPages k n starts pins prices (means old) r
  fault_told k means old r fault found told =
      let loads : Loads means (counted_fault n starts pins prices) (counted_meaning n starts pins prices) old old r = rw told (found, refl) in
      (loads, pages_load k means n starts pins prices old old r loads)

-- What it tells where there are not too many modules or nets.
module _ {P : Type 0} (n : Counts) (starts pins : List ℕ) (prices : List P) (counts : counts_fault n.modules n.nets ≡ None) where
  -- the first table that is too short
  pub starts_short : length starts < n.nets + 1 → counted_fault n starts pins prices ≡ Some (TooShort 1)
  starts_short h = rw (counts, lt-ltb (length starts) (n.nets + 1) h)

  pub pins_short : n.nets + 1 ≤ length starts → length pins < n.pins → counted_fault n starts pins prices ≡ Some (TooShort 2)
  pins_short h i = rw (counts, le-ltb (length starts) (n.nets + 1) h, lt-ltb (length pins) n.pins i)

  pub prices_short : n.nets + 1 ≤ length starts → n.pins ≤ length pins → length prices < n.nets → counted_fault n starts pins prices ≡ Some (TooShort 3)
  prices_short h i j = rw (counts, le-ltb (length starts) (n.nets + 1) h, le-ltb (length pins) n.pins i, lt-ltb (length prices) n.nets j)

  -- tables long enough: loading their first entries has the fault of those entries, and means them
  pub counted_loads : {S : Type 0} (means : S → Meaning P) (old new : S) (r : Result (Unit {0}) Fault) (s p : List ℕ) (c : List P)
      → n.nets + 1 ≤ length starts → n.pins ≤ length pins → n.nets ≤ length prices
      → s ≡ take (n.nets + 1) starts → p ≡ take n.pins pins → c ≡ take n.nets prices
      → Loads means (tables_fault n.modules s p (length c)) (tables_meaning n.modules s p c) old new r
      → Loads means (counted_fault n starts pins prices) (counted_meaning n starts pins prices) old new r
  counted_loads means old new r s p c h i j s_is p_is c_is loads =
      let long : length (take n.nets prices) ≡ n.nets = length-take-le n.nets prices j in
      let s' = take (n.nets + 1) starts in
      let p' = take n.pins pins in
      let room : room_fault n.nets n.pins (length starts) (length pins) (length prices) ≡ None =
      rw (le-ltb (length starts) (n.nets + 1) h, le-ltb (length pins) n.pins i, le-ltb (length prices) n.nets j) in
      let moved =
      subst (λ (x : ℕ). Loads means (tables_fault n.modules s' p' x) (counted_meaning n starts pins prices) old new r) long
      (subst (λ xs. Loads means (tables_fault n.modules s' p' (length xs)) (tables_meaning n.modules s' p' xs) old new r) c_is
      (subst (λ xs. Loads means (tables_fault n.modules s' xs (length c)) (tables_meaning n.modules s' xs c) old new r) p_is
      (subst (λ xs. Loads means (tables_fault n.modules xs p (length c)) (tables_meaning n.modules xs p c) old new r) s_is loads))) in
      subst (λ f. Loads means f (counted_meaning n starts pins prices) old new r) (sym (or_none _ counts ∙ or_none _ room)) moved

-- what a part's end past the table says
pub past_end : {m long : ℕ} → (m < 0) ⊎ (long < m) → long < m
past_end (inl h) = absurd (omega arith)
past_end (inr h) = h
