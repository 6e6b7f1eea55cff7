-- Nets, and what is asked of a list of them.
use Rattle.std.specs.Prelude.{ℕ, List, length, Option}
use Rattle.std.specs.List.{slice_get, AllByRecursion}
use Rattle.std.specs.Option.{option_map, option_and_then}

-- A net: a price, and its pins, which are module numbers.
pub record Net (P : Type 0) : Type 0 where
  pub price : P
  pub pins : List ℕ

abbrev pub pin_count_at : {P : Type 0} → List (Net P) → ℕ → Option ℕ
pin_count_at nets n = option_map (λ net. length net.pins) (slice_get nets n)

abbrev pub pin_at : {P : Type 0} → List (Net P) → ℕ → ℕ → Option ℕ
pin_at nets n k = option_and_then (λ net. slice_get net.pins k) (slice_get nets n)

abbrev pub price_at : {P : Type 0} → List (Net P) → ℕ → Option P
price_at nets n = option_map (λ net. net.price) (slice_get nets n)

-- every net's pins pass the test
abbrev pub OnPins : {P : Type 0} → (List ℕ → Type 0) → List (Net P) → Type 0
OnPins test nets = AllByRecursion (λ net. test net.pins) nets
