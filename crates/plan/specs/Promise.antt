-- The promise over whole runs of calls on a new plan, in terms of the netlist's meaning, the calls and their answers.
use Rattle.std.specs.Prelude.{◌≡◌, ℕ, ◌-◌, ◌/◌, ◌%◌, ◌^◌, ◌<◌, ◌≤◌, Bool, true, false, ◌⊎◌, List, [], ◌∷◌, length, take, Some, None, ◌==◌, ◌≢◌, slice_set}
use Rattle.std.specs.List.{slice_get}
use Rattle.refusal.specs.declared.Fault.{Fault}
use Rattle.price.specs.Kind.{Kind, NotGreater}
use Rattle.netlist.specs.Places.{place}
use Rattle.netlist.specs.Meaning.{Meaning, homes}
use Rattle.netlist.specs.Strapping.{KeepsGroups}
use Rattle.cut.specs.Cuts.{split_price}
use Rattle.cut.specs.Lawful.{unmarked}
use Rattle.cut.specs.declared.found.FoundSplit.{FoundSplit}
use Rattle.standing.specs.declared.change.Change.{Change}
use Rattle.standing.specs.declared.change.Change.TheVariants.{Strapped, Muted}
use Rattle.plan.specs.declared.calls.Answer.{Answer}
use Rattle.plan.specs.declared.calls.Answer.TheVariants.{Done, Refused, Found, Absent}
use Rattle.standing.specs.Standing.{applied}
use Rattle.plan.specs.Reckoning.{Call, split, look, refusal, stand}

-- both ends of each standing strap are on one board
abbrev pub StrapsKept : List Change → (ℕ → Bool) → Type 0
StrapsKept [] side = Unit {0}
StrapsKept (Strapped a b ∷ cs) side = (side a ≡ side b) × StrapsKept cs side
StrapsKept (Muted n ∷ cs) side = StrapsKept cs side

-- A lawful split of the home modules where these changes stand: each board has a home module,
-- and each group of the netlist and both ends of each standing strap are on one board.
pub record LawfulSplit {P : Type 0} (m : Meaning P) (cs : List Change) (side : ℕ → Bool) : Type 0 where
  pub some_on_a : (i : ℕ) × (i < homes m) × (side i ≡ false)
  pub some_on_b : (i : ℕ) × (i < homes m) × (side i ≡ true)
  pub groups_kept : KeepsGroups m.places side
  pub straps_kept : StrapsKept cs side

-- the marks of muted nets, with those of the standing mutes
abbrev pub marked : List Bool → List Change → List Bool
marked marks [] = marks
marked marks (Strapped a b ∷ cs) = marked marks cs
marked marks (Muted n ∷ cs) = slice_set (marked marks cs) n true

-- a split's price over the home nets that are muted neither in the netlist nor by a standing mute
abbrev pub true_price : {P : Type 0} → Kind P → Meaning P → List Change → (ℕ → Bool) → P
true_price k m cs side = split_price k side (unmarked m.nets (marked m.muted cs))

-- the board of home module i by a sides word: 64 bits, home module 0 the most significant, 1 for board B
abbrev pub side_of : ℕ → ℕ → Bool
side_of word i = word / 2 ^ (63 - i) % 2 == 1

-- A lawful split at its true price, and no lawful split is cheaper. Home module 0 is on board A.
pub record Truthful {P : Type 0} (k : Kind P) (m : Meaning P) (cs : List Change) (s : FoundSplit P) : Type 0 where
  pub lawful : LawfulSplit m cs (side_of s.sides)
  pub price_true : s.price ≡ true_price k m cs (side_of s.sides)
  pub none_cheaper : (side : ℕ → Bool) → LawfulSplit m cs side → NotGreater k s.price (true_price k m cs side)
  pub first_on_a : side_of s.sides 0 ≡ false

-- Call number h changes nothing: it is refused, or it is a look.
abbrev pub Idle : {P : Type 0} → Meaning P → List Call → ℕ → Type 0
Idle m calls h = (call : Call) → slice_get calls h ≡ Some call → refusal m (stand m (take h calls)) call ≡ None → call ≡ look

-- s is the answer of the latest accepted split before call number i, and no change or take back was accepted after it.
pub record Latest {P : Type 0} (m : Meaning P) (calls : List Call) (answers : List (Answer P)) (i : ℕ) (s : FoundSplit P) : Type 0 where
  pub at : ℕ
  pub before : at < i
  pub cells : ℕ
  pub is_split : slice_get calls at ≡ Some (split cells)
  pub result : slice_get answers at ≡ Some (Found s)
  pub quiet : (h : ℕ) → at < h → h < i → Idle m calls h

-- a division of the home modules, perhaps with an empty board, that keeps each group and strap
pub record KeepsAll {P : Type 0} (m : Meaning P) (cs : List Change) (side : ℕ → Bool) : Type 0 where
  pub groups_kept : KeepsGroups m.places side
  pub straps_kept : StrapsKept cs side

-- What stands, without numbered places: two home modules are in one group exactly when no division that keeps all parts them,
-- and a net is muted exactly when the netlist or a standing mute says so.
pub record StandingRight {P : Type 0} (m : Meaning P) (cs : List Change) : Type 0 where
  pub one_group : (a b : ℕ) → a < homes m → b < homes m → place (applied m cs).places a ≡ place (applied m cs).places b → (side : ℕ → Bool) → KeepsAll m cs side → side a ≡ side b
  pub not_parted : (a b : ℕ) → a < homes m → b < homes m → ((side : ℕ → Bool) → KeepsAll m cs side → side a ≡ side b) → place (applied m cs).places a ≡ place (applied m cs).places b
  pub mutes : (applied m cs).muted ≡ marked m.muted cs

-- The promise, of a list of calls on a new plan over m and of their answers.
pub record Promise {P : Type 0} (k : Kind P) (m : Meaning P) (calls : List Call) (answers : List (Answer P)) : Type 0 where
  pub all_answered : length answers ≡ length calls
  -- A look never shows a split that is unlawful, bears another than its true price, or is dearer than some lawful split.
  pub looks_truthful : (i : ℕ) (s : FoundSplit P) → slice_get calls i ≡ Some look → slice_get answers i ≡ Some (Found s) → Truthful k m (stand m (take i calls)) s
  -- A split is refused exactly when its cells are fewer than the home modules or no lawful split exists; accepted, its answer is truthful.
  pub split_refused : (i cells : ℕ) (fault : Fault) → slice_get calls i ≡ Some (split cells) → slice_get answers i ≡ Some (Refused fault)
      → (cells < homes m) ⊎ ((side : ℕ → Bool) → LawfulSplit m (stand m (take i calls)) side → ⊥)
  pub split_accepted : (i cells : ℕ) → slice_get calls i ≡ Some (split cells) → ((fault : Fault) → slice_get answers i ≢ Some (Refused fault))
      → (homes m ≤ cells) × ((s : FoundSplit P) × (slice_get answers i ≡ Some (Found s)) × Truthful k m (stand m (take i calls)) s)
  -- A look answers the latest accepted split exactly when no change or take back was accepted after it, and otherwise that it is absent.
  pub look_shows : (i : ℕ) (s : FoundSplit P) → slice_get calls i ≡ Some look → Latest m calls answers i s → slice_get answers i ≡ Some (Found s)
  pub look_else : (i : ℕ) → slice_get calls i ≡ Some look → ((s : FoundSplit P) → Latest m calls answers i s → ⊥) → slice_get answers i ≡ Some Absent
  -- Every refusal is the call's first for what stands, and any other change or take back is done.
  pub refused_first : (i : ℕ) (call : Call) (fault : Fault) → slice_get calls i ≡ Some call → refusal m (stand m (take i calls)) call ≡ Some fault → slice_get answers i ≡ Some (Refused fault)
  pub change_done : (i : ℕ) (call : Call) → slice_get calls i ≡ Some call → refusal m (stand m (take i calls)) call ≡ None → (call ≢ look) → ((cells : ℕ) → call ≢ split cells) → slice_get answers i ≡ Some Done
  pub standing_right : (i : ℕ) → StandingRight m (stand m (take i calls))
