-- Kind 2: timers and wires, compared by timers and on equal timers by wires.
use Rattle.std.specs.Prelude.{ℕ, ◌+◌, ◌-◌, ◌*◌, ◌/◌, ◌%◌, ◌^◌, ◌<◌, min, Bool, true, false, cond, ◌&&◌, ◌||◌, ◌==◌, nat_lt}
use Rattle.std.proofs.Common.{arith}
use Rattle.price.specs.declared.values.TimersFirst.{TimersFirst}
use Rattle.price.specs.Kind.{Kind}

-- the greatest number of 32 bits
abbrev pub greatest : ℕ
greatest = 2 ^ 32 - 1

-- two sums as a price: a wires sum above the greatest becomes the greatest, a timers sum above it makes both parts the greatest
abbrev pub stopped_wires : ℕ → ℕ → ℕ
stopped_wires timers wires = cond (nat_lt greatest timers) greatest (min wires greatest)

cond_below : (b : Bool) (x y n : ℕ) → x < n → y < n → cond b x y < n
cond_below true x y n h k = h
cond_below false x y n h k = k

pub stopped_wires_bounded : (timers wires : ℕ) → stopped_wires timers wires < 2 ^ 32
stopped_wires_bounded timers wires = cond_below (nat_lt greatest timers) _ _ (2 ^ 32) (omega arith) (omega arith)

abbrev pub sums : ℕ → ℕ → TimersFirst
sums timers wires = record {
  timers = min timers greatest;
  wires = stopped_wires timers wires;
  bounded = (omega arith, stopped_wires_bounded timers wires);
}

abbrev pub timers_first : Kind TimersFirst
timers_first = record {
  zero = sums 0 0;
  join = λ a b. sums (a.timers + b.timers) (a.wires + b.wires);
  less = λ a b. nat_lt a.timers b.timers || (a.timers == b.timers && nat_lt a.wires b.wires);
  field = λ bits. sums (bits / 2 ^ 16) (bits % 2 ^ 16);
  word = λ a. a.timers * 2 ^ 32 + a.wires;
  number = 2;
}
