-- Kind 1: a number of wires, joined by an addition that stops at 2^64 - 1.
use Rattle.std.specs.Prelude.{ℕ, ◌+◌, ◌-◌, ◌^◌, min, nat_lt}
use Rattle.std.proofs.Common.{arith}
use Rattle.price.specs.declared.values.Wires.{Wires}
use Rattle.price.specs.Kind.{Kind}

-- a number below 2^64 as wires; a greater one stops there
abbrev pub wires_of : ℕ → Wires
wires_of n = record { count = min n (2 ^ 64 - 1); bounded = omega arith }

abbrev pub wires : Kind Wires
wires = record {
  zero = wires_of 0;
  join = λ a b. wires_of (a.count + b.count);
  less = λ a b. nat_lt a.count b.count;
  field = wires_of;
  word = λ a. a.count;
  number = 1;
}
