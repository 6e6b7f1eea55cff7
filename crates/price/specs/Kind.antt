-- What a price kind is, and the laws that it keeps.
use Rattle.std.specs.Prelude.{◌≡◌, ℕ, Bool, true, false}

-- A kind of price: its zero, its joining, whether one price is less, the price in a 32-bit field, the 64-bit print word, and its number on a page.
pub record Kind (P : Type 0) : Type 0 where
  pub zero : P
  pub join : P → P → P
  pub less : P → P → Bool
  pub field : ℕ → P
  pub word : P → ℕ
  pub number : ℕ

-- p is not greater than q
abbrev pub NotGreater : {P : Type 0} → Kind P → P → P → Type 0
NotGreater k p q = k.less q p ≡ false

pub record Laws {P : Type 0} (k : Kind P) : Type 0 where
  pub associative : (p q r : P) → k.join (k.join p q) r ≡ k.join p (k.join q r)
  pub commutative : (p q : P) → k.join p q ≡ k.join q p
  pub neutral : (p : P) → k.join k.zero p ≡ p
  pub transitive : (p q r : P) → k.less p q ≡ true → k.less q r ≡ true → k.less p r ≡ true
  pub irreflexive : (p : P) → k.less p p ≡ false
  -- with the two above: of two different prices exactly one is less
  pub connected : (p q : P) → k.less p q ≡ false → k.less q p ≡ false → p ≡ q
  pub zero_least : (p : P) → NotGreater k k.zero p
  pub join_monotone : (p q r : P) → NotGreater k p q → NotGreater k (k.join p r) (k.join q r)
