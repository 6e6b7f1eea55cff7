-- The laws of the three kinds. Two values of a kind are equal when their numbers are.
use Rattle.std.specs.Prelude.{◌≡◌, ◌^◌, ◌<◌}
use mathlib.Core.HLevel.{is_prop→PathP}
use Rattle.std.proofs.Common.{arith}
use Rattle.std.proofs.Math.Bridge.{le_prop}
use Rattle.std.proofs.lemmas.Bool.Decides.{nat_tests}
use Rattle.price.specs.Kind.{Laws}
use Rattle.price.specs.Wires.{wires}
use Rattle.price.specs.TimersFirst.{timers_first}
use Rattle.price.specs.Widest.{widest}
use Rattle.price.specs.declared.values.Wires.{Wires}
use Rattle.price.specs.declared.values.TimersFirst.{TimersFirst}
use Rattle.price.specs.declared.values.Widest.{Widest}

pub same_wires : (a b : Wires) → a.count ≡ b.count → a ≡ b
same_wires a b p = λ i. record { count = p i; bounded = is_prop→PathP (λ j. p j < 2 ^ 64) (λ j. le_prop) a.bounded b.bounded i }

pub same_widest : (a b : Widest) → a.width ≡ b.width → a ≡ b
same_widest a b p = λ i. record { width = p i; bounded = is_prop→PathP (λ j. p j < 2 ^ 64) (λ j. le_prop) a.bounded b.bounded i }

pub same_timers_first : (a b : TimersFirst) → a.timers ≡ b.timers → a.wires ≡ b.wires → a ≡ b
same_timers_first a b p q = λ i. record {
  timers = p i;
  wires = q i;
  bounded = (
    is_prop→PathP (λ j. p j < 2 ^ 32) (λ j. le_prop) a.bounded.0 b.bounded.0 i,
    is_prop→PathP (λ j. q j < 2 ^ 32) (λ j. le_prop) a.bounded.1 b.bounded.1 i,
  );
}

pub wires_laws : Laws wires
wires_laws = record {
  associative = λ p q r. same_wires _ _ (omega arith);
  commutative = λ p q. same_wires _ _ (omega arith);
  neutral = λ p. same_wires _ _ (omega arith);
  transitive = λ p q r h k. grind (arith, nat_tests);
  irreflexive = λ p. grind (arith, nat_tests);
  connected = λ p q h k. same_wires _ _ (grind (arith, nat_tests));
  zero_least = λ p. grind (arith, nat_tests);
  join_monotone = λ p q r h. grind (arith, nat_tests);
}

pub widest_laws : Laws widest
widest_laws = record {
  associative = λ p q r. same_widest _ _ (omega arith);
  commutative = λ p q. same_widest _ _ (omega arith);
  neutral = λ p. same_widest _ _ (omega arith);
  transitive = λ p q r h k. grind (arith, nat_tests);
  irreflexive = λ p. grind (arith, nat_tests);
  connected = λ p q h k. same_widest _ _ (grind (arith, nat_tests));
  zero_least = λ p. grind (arith, nat_tests);
  join_monotone = λ p q r h. grind (arith, nat_tests);
}

pub timers_first_laws : Laws timers_first
timers_first_laws = record {
  associative = λ p q r. same_timers_first _ _ (omega arith) (grind (arith, nat_tests));
  commutative = λ p q. same_timers_first _ _ (omega arith) (grind (arith, nat_tests));
  neutral = λ p. same_timers_first _ _ (omega arith) (grind (arith, nat_tests));
  transitive = λ p q r h k. grind (arith, nat_tests);
  irreflexive = λ p. grind (arith, nat_tests);
  connected = λ p q h k. same_timers_first _ _ (grind (arith, nat_tests)) (grind (arith, nat_tests));
  zero_least = λ p. grind (arith, nat_tests);
  join_monotone = λ p q r h. grind (arith, nat_tests);
}
