-- Nets muted by a mute layer's row, and what is asked of them.
use Rattle.std.proofs.Common.{◌≡◌, ℕ, zero, suc, ◌<◌, Bool, true, false, cond, ◌||◌, List, [], ◌∷◌, map, length, get_or, set, replicate, Some, None, Option, sym, refl, ap, ◌∙◌, ap₂, arith}
use Rattle.std.specs.Option.{option_map}
use Rattle.std.specs.List.{slice_get}
use Rattle.std.proofs.Math.Bool.{or-false}
use Rattle.std.proofs.lemmas.Option.{none-some}
use Rattle.price.specs.Kind.{Kind}
use Rattle.netlist.specs.Nets.{Net, pin_count_at, pin_at, price_at}
use Rattle.netlist.specs.Places.{place, placed}
use Rattle.netlist.specs.Meaning.{Meaning, Sound, zero_muted, own_nets}
use Rattle.layers.specs.declared.mute.MuteLayer.{MuteLayer}
use Rattle.layers.specs.Layered.{muted_by_either, mute_meaning}

or_true : (a : Bool) → (a || true) ≡ true
or_true true = refl
or_true false = refl

or_nothing : (o : Option Bool) → o ≡ option_map (λ mark. mark || false) o
or_nothing None = refl
or_nothing (Some mark) = ap Some (sym (or-false mark))

nth_either : (marks row : List Bool) (n : ℕ) → slice_get (muted_by_either marks row) n ≡ option_map (λ mark. mark || get_or row n false) (slice_get marks n)
nth_either [] row n = refl
nth_either (mark ∷ marks) [] zero = ap Some (sym (or-false mark))
nth_either (mark ∷ marks) [] (suc n) = or_nothing (slice_get marks n)
nth_either (mark ∷ marks) (own ∷ row) zero = refl
nth_either (mark ∷ marks) (own ∷ row) (suc n) = nth_either marks row n

pub none_by_row : (marks : List Bool) (n : ℕ) → muted_by_either marks (replicate n false) ≡ marks
none_by_row [] n = refl
none_by_row (mark ∷ marks) zero = refl
none_by_row (mark ∷ marks) (suc n) = ap₂ ◌∷◌ (or-false mark) (none_by_row marks n)

pub one_more_by_row : (marks row : List Bool) (n : ℕ) → n < length row → muted_by_either marks (set row n true) ≡ set (muted_by_either marks row) n true
one_more_by_row [] row n h = refl
one_more_by_row (mark ∷ marks) [] n h = absurd (omega arith)
one_more_by_row (mark ∷ marks) (own ∷ row) zero h = ap (λ m. m ∷ muted_by_either marks row) (or_true mark)
one_more_by_row (mark ∷ marks) (own ∷ row) (suc n) h = ap (λ ms. (mark || own) ∷ ms) (one_more_by_row marks row n (omega arith))

module _ {P : Type 0} (k : Kind P) where
  none_zeroed : (nets : List (Net P)) → zero_muted k nets [] ≡ nets
  none_zeroed [] = refl
  none_zeroed (net ∷ nets) = ap (λ ns. net ∷ ns) (none_zeroed nets)

  zeroed_by_either : (mark own : Bool) (p : P) → cond (mark || own) k.zero p ≡ cond own k.zero (cond mark k.zero p)
  zeroed_by_either true true p = refl
  zeroed_by_either true false p = refl
  zeroed_by_either false true p = refl
  zeroed_by_either false false p = refl

  zeroed_twice : (nets : List (Net P)) (marks row : List Bool) → length marks ≡ length nets
      → zero_muted k nets (muted_by_either marks row) ≡ zero_muted k (zero_muted k nets marks) row
  zeroed_twice [] marks row l = refl
  zeroed_twice (net ∷ nets) [] row l = absurd (omega arith)
  zeroed_twice (net ∷ nets) (mark ∷ marks) [] l = ap (λ ns. record { price = cond mark k.zero net.price; pins = net.pins } ∷ ns) (sym (none_zeroed (zero_muted k nets marks)))
  zeroed_twice (net ∷ nets) (mark ∷ marks) (own ∷ row) l =
      ap₂ (λ p ns. record { price = p; pins = net.pins } ∷ ns) (zeroed_by_either mark own net.price) (zeroed_twice nets marks row (omega arith))

  placed_zeroed : (places : List ℕ) (nets : List (Net P)) (marks : List Bool) → placed places (zero_muted k nets marks) ≡ zero_muted k (placed places nets) marks
  placed_zeroed places [] marks = refl
  placed_zeroed places (net ∷ nets) [] = ap (λ ns. record { price = net.price; pins = map (place places) net.pins } ∷ ns) (placed_zeroed places nets [])
  placed_zeroed places (net ∷ nets) (mark ∷ marks) =
      ap (λ ns. record { price = cond mark k.zero net.price; pins = map (place places) net.pins } ∷ ns) (placed_zeroed places nets marks)

  zeroed_pin_count : (nets : List (Net P)) (marks : List Bool) (n : ℕ) → pin_count_at (zero_muted k nets marks) n ≡ pin_count_at nets n
  zeroed_pin_count [] marks n = refl
  zeroed_pin_count (net ∷ nets) [] zero = refl
  zeroed_pin_count (net ∷ nets) [] (suc n) = zeroed_pin_count nets [] n
  zeroed_pin_count (net ∷ nets) (mark ∷ marks) zero = refl
  zeroed_pin_count (net ∷ nets) (mark ∷ marks) (suc n) = zeroed_pin_count nets marks n

  zeroed_pin : (nets : List (Net P)) (marks : List Bool) (n j : ℕ) → pin_at (zero_muted k nets marks) n j ≡ pin_at nets n j
  zeroed_pin [] marks n j = refl
  zeroed_pin (net ∷ nets) [] zero j = refl
  zeroed_pin (net ∷ nets) [] (suc n) j = zeroed_pin nets [] n j
  zeroed_pin (net ∷ nets) (mark ∷ marks) zero j = refl
  zeroed_pin (net ∷ nets) (mark ∷ marks) (suc n) j = zeroed_pin nets marks n j

  kept : (o : Option P) → o ≡ option_map (λ p. p) o
  kept None = refl
  kept (Some p) = refl

  zeroed_price : (nets : List (Net P)) (marks : List Bool) (n : ℕ) → price_at (zero_muted k nets marks) n ≡ option_map (λ p. cond (get_or marks n false) k.zero p) (price_at nets n)
  zeroed_price [] marks n = refl
  zeroed_price (net ∷ nets) [] zero = refl
  zeroed_price (net ∷ nets) [] (suc n) = ap (λ ns. price_at ns n) (none_zeroed nets) ∙ kept (price_at nets n)
  zeroed_price (net ∷ nets) (mark ∷ marks) zero = refl
  zeroed_price (net ∷ nets) (mark ∷ marks) (suc n) = zeroed_price nets marks n

-- what a mute layer answers, by the answer below
module _ {P N : Type 0} (below : N → Meaning P) (sound : (n : N) → Sound (below n)) (k : Kind P) (layer : MuteLayer N) where
  pub mute_mark : (n : ℕ) (mark : Option Bool) → mark ≡ slice_get (below layer.below).muted n
      → option_map (λ m. m || get_or layer.row n false) mark ≡ slice_get (mute_meaning below layer).muted n
  mute_mark n mark e = ap (option_map (λ m. m || get_or layer.row n false)) e ∙ sym (nth_either (below layer.below).muted layer.row n)

  -- its nets are the nets below at price zero where the row mutes them
  mute_nets : own_nets k (mute_meaning below layer) ≡ zero_muted k (own_nets k (below layer.below)) layer.row
  unfolding own_nets
  mute_nets =
      let m = below layer.below in
      ap (placed m.places) (zeroed_twice k m.nets m.muted layer.row (sound layer.below).all_marked)
      ∙ placed_zeroed k m.places (zero_muted k m.nets m.muted) layer.row

  pub mute_pin_count : (n : ℕ) (count : Option ℕ) → count ≡ pin_count_at (own_nets k (below layer.below)) n
      → count ≡ pin_count_at (own_nets k (mute_meaning below layer)) n
  mute_pin_count n count e = e ∙ sym (ap (λ nets. pin_count_at nets n) mute_nets ∙ zeroed_pin_count k (own_nets k (below layer.below)) layer.row n)

  pub mute_pin : (n j : ℕ) (pin : Option ℕ) → pin ≡ pin_at (own_nets k (below layer.below)) n j
      → pin ≡ pin_at (own_nets k (mute_meaning below layer)) n j
  mute_pin n j pin e = e ∙ sym (ap (λ nets. pin_at nets n j) mute_nets ∙ zeroed_pin k (own_nets k (below layer.below)) layer.row n j)

  pub mute_price : (n : ℕ) (price : Option P) → price ≡ price_at (own_nets k (below layer.below)) n
      → option_map (λ p. cond (get_or layer.row n false) k.zero p) price ≡ price_at (own_nets k (mute_meaning below layer)) n
  mute_price n price e =
      ap (option_map (λ p. cond (get_or layer.row n false) k.zero p)) e
      ∙ sym (ap (λ nets. price_at nets n) mute_nets ∙ zeroed_price k (own_nets k (below layer.below)) layer.row n)

  -- by whether the row mutes the net
  pub mute_price_marked : (n : ℕ) (price nothing : P) → get_or layer.row n false ≡ true → nothing ≡ k.zero → Some price ≡ price_at (own_nets k (below layer.below)) n
      → Some nothing ≡ price_at (own_nets k (mute_meaning below layer)) n
  mute_price_marked n price nothing mark is_zero e =
      ap Some is_zero ∙ ap (λ m. Some (cond m k.zero price)) (sym mark) ∙ mute_price n (Some price) e

  pub mute_price_unmarked : (n : ℕ) (price : P) → get_or layer.row n false ≡ false → Some price ≡ price_at (own_nets k (below layer.below)) n
      → Some price ≡ price_at (own_nets k (mute_meaning below layer)) n
  mute_price_unmarked n price mark e = ap (λ m. Some (cond m k.zero price)) (sym mark) ∙ mute_price n (Some price) e

-- a net whose price is asked for and there is one of at most 1,024
module _ {P : Type 0} (m : Meaning P) (sound : Sound m) where
  length_zeroed : (k : Kind P) (nets : List (Net P)) (marks : List Bool) → length (zero_muted k nets marks) ≡ length nets
  length_zeroed k [] marks = refl
  length_zeroed k (net ∷ nets) [] = ap suc (length_zeroed k nets [])
  length_zeroed k (net ∷ nets) (mark ∷ marks) = ap suc (length_zeroed k nets marks)

  length_placed : (nets : List (Net P)) → length (placed m.places nets) ≡ length nets
  length_placed [] = refl
  length_placed (net ∷ nets) = ap suc (length_placed nets)

  priced_there : (nets : List (Net P)) (n : ℕ) (p : P) → Some p ≡ price_at nets n → n < length nets
  priced_there [] n p e = absurd (none-some p (sym e))
  priced_there (net ∷ nets) zero p e = omega arith
  priced_there (net ∷ nets) (suc n) p e = omega (arith, priced_there nets n p e)

  pub net_low : (k : Kind P) (n : ℕ) (p : P) → Some p ≡ price_at (own_nets k m) n → n < 1024
  unfolding own_nets
  net_low k n p e =
      let nets = zero_muted k m.nets m.muted in
      omega (arith, priced_there (placed m.places nets) n p e, length_placed nets, length_zeroed k m.nets m.muted, sound.few_nets)
