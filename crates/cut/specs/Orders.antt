-- The order of the modules: it begins with module 0 and always takes the module most pulled by those taken.
use Rattle.std.specs.Prelude.{◌≡◌, ℕ, zero, suc, ◌<◌, true, false, cond, not, ◌⊎◌, List, [], ◌∷◌, filter, ◌==◌}
use Rattle.std.specs.List.{range_with_len}
use Rattle.price.specs.Kind.{Kind}
use Rattle.netlist.specs.Nets.{Net}
use Rattle.cut.specs.Cuts.{has, pull}

-- Of the modules below m that are not taken, v is the one most pulled by those taken, on equal pulls the one with the lowest number.
pub record MostPulled {P : Type 0} (k : Kind P) (nets : List (Net P)) (m : ℕ) (taken : List ℕ) (v : ℕ) : Type 0 where
  pub there : v < m
  pub waits : has taken v ≡ false
  pub first : (w : ℕ) → w < m → has taken w ≡ false
      → (w ≡ v)
      ⊎ ((k.less (pull k nets w (has taken)) (pull k nets v (has taken)) ≡ true)
      ⊎ ((pull k nets w (has taken) ≡ pull k nets v (has taken)) × (v < w)))

-- after those taken, the modules below m are taken as listed, until none waits
abbrev pub TakenAsListed : {P : Type 0} → Kind P → List (Net P) → ℕ → List ℕ → List ℕ → Type 0
TakenAsListed k nets m taken [] = (w : ℕ) → w < m → has taken w ≡ true
TakenAsListed k nets m taken (v ∷ rest) = MostPulled k nets m taken v × TakenAsListed k nets m (v ∷ taken) rest

-- the rule: the list is an order of the modules below m
abbrev pub IsOrder : {P : Type 0} → Kind P → List (Net P) → ℕ → List ℕ → Type 0
IsOrder k nets m [] = m ≡ 0
IsOrder k nets m (v ∷ rest) = (0 < m) × (v ≡ 0) × TakenAsListed k nets m (0 ∷ []) rest

-- of v and those of a list, the one most pulled by those taken, the first on equal pulls
abbrev pub most_pulled : {P : Type 0} → Kind P → List (Net P) → List ℕ → ℕ → List ℕ → ℕ
most_pulled k nets taken v [] = v
most_pulled k nets taken v (w ∷ ws) = most_pulled k nets taken (cond (k.less (pull k nets v (has taken)) (pull k nets w (has taken))) w v) ws

-- the next n modules that are taken of those that wait
abbrev pub next_taken : {P : Type 0} → Kind P → List (Net P) → ℕ → List ℕ → List ℕ → List ℕ
next_taken k nets zero taken waiting = []
next_taken k nets (suc n) taken [] = []
next_taken k nets (suc n) taken (w ∷ ws) =
    let v = most_pulled k nets taken w ws in
    v ∷ next_taken k nets n (v ∷ taken) (filter (λ x. not (x == v)) (w ∷ ws))

unfoldable pub order : {P : Type 0} → Kind P → List (Net P) → ℕ → List ℕ
order k nets zero = []
order k nets (suc n) = 0 ∷ next_taken k nets n (0 ∷ []) (range_with_len 1 n)

-- The end of an order: its last two, and what was taken before them, the latest first.
pub record Ending : Type 0 where
  pub before : List ℕ
  pub next_to_last : ℕ
  pub last : ℕ

abbrev pub ending_after : List ℕ → ℕ → ℕ → List ℕ → Ending
ending_after before u v [] = record { before = before; next_to_last = u; last = v }
ending_after before u v (w ∷ ws) = ending_after (u ∷ before) v w ws

-- of a list of two or more; of a shorter one it says nothing of use
abbrev pub ending : List ℕ → Ending
ending [] = record { before = []; next_to_last = 0; last = 0 }
ending (u ∷ []) = record { before = []; next_to_last = u; last = u }
ending (u ∷ v ∷ vs) = ending_after [] u v vs
