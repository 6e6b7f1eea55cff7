-- What the questions about a chain answer.
use Rattle.std.proofs.Common.{◌≡◌, ℕ, ◌-◌, length, replicate, ltb, Some, sym, ap, ◌∙◌, inl, inr, arith}
use Rattle.std.specs.Bool.{then_some}
use Rattle.std.specs.List.{slice_get}
use Rattle.std.proofs.lemmas.Bool.{cases_lt, lt-ltb, le-ltb}
use Rattle.std.proofs.lemmas.Option.{slice_get-get_or, slice_get_past}
use Rattle.std.proofs.lemmas.List.{length-replicate, get_or-replicate}
use Rattle.price.specs.Wires.{wires_of}
use Rattle.bottom.specs.Fitting.{length_nets}
use Rattle.chain.specs.Chains.{chain_pins, chain_prices, chain_meaning}

pub nets_are : (n : ℕ) → length (chain_prices n) ≡ n - 1
nets_are n = length-replicate (n - 1) (wires_of 1)

pub net_count : (n : ℕ) → length (chain_meaning n).nets ≡ n - 1
net_count n = length_nets chain_pins 0 (chain_prices n) ∙ nets_are n

-- one value for each of so many
pub same_for_each : {X : Type 0} (n : ℕ) (x : X) (k count : ℕ) → count ≡ n → then_some (ltb k count) x ≡ slice_get (replicate n x) k
same_for_each n x k count e =
    elim (cases_lt k n) [
      | inl h ↦
          rw (e, lt-ltb k n h) (sym (slice_get-get_or (replicate n x) k x (omega (arith, length-replicate n x)) ∙ ap Some (get_or-replicate n k x x h)))
      | inr h ↦ rw (e, le-ltb k n h) (sym (slice_get_past (replicate n x) k (omega (arith, length-replicate n x))))
    ]
