-- A 64-bit word as a set of modules below 64, module 0 the most significant bit.
use Rattle.std.specs.Prelude.{ℕ, zero, suc, ◌-◌, ◌/◌, ◌%◌, ◌^◌, Bool, cond, ◌&&◌, List, [], ◌∷◌, ◌++◌, Some, None, Option, ◌==◌, nat_lt}

-- digit j of a number is 1, the lowest digit first
unfoldable pub digit : ℕ → ℕ → Bool
digit n j = n / 2 ^ j % 2 == 1

-- module k is in the set
unfoldable pub has : ℕ → ℕ → Bool
has word k = nat_lt k 64 && digit word (63 - k)

-- the modules below n that are in the set, rising
unfoldable pub members_below : ℕ → ℕ → List ℕ
members_below word zero = []
members_below word (suc n) = members_below word n ++ cond (has word n) (n ∷ []) []

-- the modules in the set, rising
unfoldable pub members : ℕ → List ℕ
members word = members_below word 64

-- the element of a list of one
abbrev pub lone : List ℕ → Option ℕ
lone [] = None
lone (v ∷ []) = Some v
lone (v ∷ w ∷ ws) = None

-- the module that has number k once module n is taken out and the later ones are numbered one lower
abbrev pub opened_at : ℕ → ℕ → ℕ
opened_at n k = cond (nat_lt k n) k (suc k)
