-- Kind 3: the width of the widest net, joined by taking the greater.
use Rattle.std.specs.Prelude.{ℕ, ◌-◌, ◌^◌, min, max, nat_lt}
use Rattle.std.proofs.Common.{arith}
use Rattle.price.specs.declared.values.Widest.{Widest}
use Rattle.price.specs.Kind.{Kind}

-- a number below 2^64 as a width; a greater one stops there
abbrev pub width_of : ℕ → Widest
width_of n = record { width = min n (2 ^ 64 - 1); bounded = omega arith }

abbrev pub wider : Widest → Widest → Widest
wider a b = record { width = max a.width b.width; bounded = let h = a.bounded in let k = b.bounded in omega arith }

abbrev pub widest : Kind Widest
widest = record {
  zero = width_of 0;
  join = wider;
  less = λ a b. nat_lt a.width b.width;
  field = width_of;
  word = λ a. a.width;
  number = 3;
}
