-- Pins that fit: a bottom with such pins is sound.
use Rattle.std.specs.Prelude.{◌≡◌, ℕ, zero, suc, ◌+◌, ◌<◌, ◌≤◌, max, List, [], ◌∷◌, length, slice_index, refl}
use Rattle.std.proofs.Common.{sym, ap, subst, ◌∙◌, arith}
use Rattle.std.proofs.lemmas.List.{length-replicate}
use Rattle.std.specs.List.{range_with_len, AllByRecursion}
use Rattle.std.proofs.lemmas.List.FromFn.{length-range_with_len}
use Rattle.std.proofs.ByRecursion.{All-from_get_or}
use Rattle.netlist.specs.Nets.{OnPins}
use Rattle.netlist.specs.Places.{Numbered}
use Rattle.netlist.specs.Meaning.{Sound}
use Rattle.bottom.specs.BottomMeaning.{nets_from, bottom_meaning}

-- none of the nets has more than 64 pins
abbrev pub FewPins : (ℕ → List ℕ) → ℕ → Type 0
FewPins pins nets = (net : ℕ) → net < nets → length (pins net) ≤ 64

-- the pins of the nets are modules below the count
abbrev pub PinsThere : ℕ → (ℕ → List ℕ) → ℕ → Type 0
PinsThere modules pins nets = (net position : ℕ) → net < nets → position < length (pins net) → slice_index (pins net) position < modules

pub length_nets : {P : Type 0} (pins : ℕ → List ℕ) (i : ℕ) (xs : List P) → length (nets_from pins i xs) ≡ length xs
length_nets pins i [] = refl
length_nets pins i (x ∷ xs) = ap suc (length_nets pins (i + 1) xs)

numbered_from : (a n : ℕ) → Numbered a (range_with_len a n)
numbered_from a zero = tt
numbered_from a (suc n) =
    (omega arith, (let e : a + 1 ≡ max (suc a) a = omega arith in subst (λ t. Numbered t (range_with_len (a + 1) n)) e (numbered_from (a + 1) n)))

module _ {P : Type 0} (modules : ℕ) (pins : ℕ → List ℕ) (prices : List P) where
  few_from : FewPins pins (length prices) → (i : ℕ) (xs : List P) → i + length xs ≤ length prices → OnPins (λ ps. length ps ≤ 64) (nets_from pins i xs)
  few_from f i [] h = tt
  few_from f i (x ∷ xs) h = (f i (omega arith), few_from f (i + 1) xs (omega arith))

  there_from : PinsThere modules pins (length prices) → (i : ℕ) (xs : List P) → i + length xs ≤ length prices
      → OnPins (AllByRecursion (λ pin. pin < length (range_with_len 0 modules))) (nets_from pins i xs)
  there_from f i [] h = tt
  there_from f i (x ∷ xs) h = (
    All-from_get_or (λ pin. pin < length (range_with_len 0 modules)) (pins i) 0 (λ k l. let e = length-range_with_len 0 modules in let b = f i k (omega arith) l in omega arith),
    there_from f (i + 1) xs (omega arith),
  )

  pub bottom_sound : modules ≤ 64 → length prices ≤ 1024 → FewPins pins (length prices) → PinsThere modules pins (length prices) → Sound (bottom_meaning modules pins prices)
  bottom_sound few_modules few_nets few there = record {
    few_homes = let e = length-range_with_len 0 modules in omega arith;
    numbered = numbered_from 0 modules;
    few_nets = let e = length_nets pins 0 prices in omega arith;
    all_marked = length-replicate _ _ ∙ sym (length_nets pins 0 prices);
    few_pins = few_from few 0 prices (omega arith);
    pins_there = there_from there 0 prices (omega arith);
  }
