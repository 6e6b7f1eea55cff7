-- Worked lines: what is asked of small netlists, and what the definitions answer.
use Rattle.std.specs.Prelude.{◌≡◌, ℕ, ◌+◌, ◌*◌, ◌^◌, false, List, [], ◌∷◌, map, Some, None, Option}
use Rattle.std.specs.List.{range_with_len, AllByRecursion}
use Rattle.price.specs.Kind.{Kind}
use Rattle.price.specs.Wires.{wires}
use Rattle.price.specs.TimersFirst.{timers_first}
use Rattle.price.specs.Widest.{widest}
use Rattle.netlist.specs.Nets.{Net}
use Rattle.netlist.specs.Meaning.{Meaning, homes, modules, own_nets}
use Rattle.netlist.specs.Changes.{strapped, muted_also}
use Rattle.cut.specs.Cuts.{split_price, alone}
use Rattle.cut.specs.Lawful.{Split}
use Rattle.cut.specs.Orders.{order, ending}
use Rattle.cut.specs.Rounds.{split_of}
use Rattle.cut.specs.SidesWord.{sides_word}

pub data PriceKind : Type 0 where
  in_wires : PriceKind
  in_timers_first : PriceKind
  in_widest : PriceKind

pub data Change : Type 0 where
  strap : ℕ → ℕ → Change
  mute : ℕ → Change

pub data Question : Type 0 where
  which_order : Question
  which_split : Question

-- A price is answered as its print word.
pub data Answer : Type 0 where
  -- the modules in order, and the price of parting off the last alone
  in_order : List ℕ → ℕ → Answer
  -- a sides word and its price
  split_at : ℕ → ℕ → Answer
  -- fewer than two groups are left
  no_split : Answer

-- A line: a number of home modules, nets whose prices are given as fields of a page, changes, the first first, a question and its answer.
pub record Line : Type 0 where
  pub kind : PriceKind
  pub home_count : ℕ
  pub nets : List (Net ℕ)
  pub changes : List Change
  pub asked : Question
  pub expected : Answer

module _ {P : Type 0} (k : Kind P) where
  -- each home module a group of its own, and nothing muted
  abbrev pub unchanged : ℕ → List (Net ℕ) → Meaning P
  unchanged count nets = record {
    places = range_with_len 0 count;
    nets = map (λ net. record { price = k.field net.price; pins = net.pins }) nets;
    muted = map (λ _. false) nets;
  }

  abbrev pub changed : Meaning P → List Change → Meaning P
  changed m [] = m
  changed m (strap i j ∷ rest) = changed (strapped i j m) rest
  changed m (mute n ∷ rest) = changed (muted_also n m) rest

  abbrev pub shown : ℕ → Option (Split P) → Answer
  shown count None = no_split
  shown count (Some split) = split_at (sides_word count split.side) (k.word split.price)

  abbrev pub answer : Meaning P → Question → Answer
  answer m which_order =
      let list = order k (own_nets k m) (modules m) in
      in_order list (k.word (split_price k (alone (ending list).last) (own_nets k m)))
  answer m which_split = shown (homes m) (split_of k m)

  abbrev pub answer_to : Line → Answer
  answer_to line = answer (changed (unchanged line.home_count line.nets) line.changes) line.asked

abbrev pub by_kind : PriceKind → Line → Answer
by_kind in_wires line = answer_to wires line
by_kind in_timers_first line = answer_to timers_first line
by_kind in_widest line = answer_to widest line

abbrev pub Holds : Line → Type 0
Holds line = by_kind line.kind line ≡ line.expected

abbrev pub net : ℕ → List ℕ → Net ℕ
net field pins = record { price = field; pins = pins }

-- timers and wires as the field of a page, and as a print word
abbrev pub timers_field : ℕ → ℕ → ℕ
timers_field timers wires_count = timers * 2 ^ 16 + wires_count

abbrev pub timers_word : ℕ → ℕ → ℕ
timers_word timers wires_count = timers * 2 ^ 32 + wires_count

-- five nets with these prices
abbrev pub five_nets : ℕ → ℕ → ℕ → ℕ → ℕ → List (Net ℕ)
five_nets a b c d e = net a (0 ∷ 1 ∷ []) ∷ net b (0 ∷ 2 ∷ []) ∷ net c (1 ∷ 2 ∷ 3 ∷ []) ∷ net d (3 ∷ 4 ∷ []) ∷ net e (2 ∷ 4 ∷ []) ∷ []

abbrev pub plain_nets : List (Net ℕ)
plain_nets = five_nets 3 2 2 4 1

abbrev pub timed_nets : List (Net ℕ)
timed_nets = five_nets (timers_field 0 3) (timers_field 1 2) (timers_field 0 2) (timers_field 0 4) (timers_field 1 1)

abbrev pub five : PriceKind → List (Net ℕ) → List Change → Question → Answer → Line
five kind nets changes asked expected = record { kind = kind; home_count = 5; nets = nets; changes = changes; asked = asked; expected = expected }

-- no nets and nothing changed
abbrev pub bare : ℕ → Answer → Line
bare count expected = record { kind = in_wires; home_count = count; nets = []; changes = []; asked = which_split; expected = expected }

abbrev pub worked_lines : List Line
worked_lines =
    five in_wires plain_nets [] which_order (in_order (0 ∷ 1 ∷ 2 ∷ 3 ∷ 4 ∷ []) 5)
    ∷ five in_wires plain_nets [] which_split (split_at 0x1800000000000000 3)
    ∷ five in_wires plain_nets (strap 2 4 ∷ []) which_split (split_at 0x3800000000000000 4)
    ∷ five in_wires plain_nets (strap 2 4 ∷ mute 0 ∷ []) which_split (split_at 0x4000000000000000 2)
    ∷ five in_widest plain_nets [] which_split (split_at 0x1800000000000000 2)
    ∷ five in_timers_first timed_nets [] which_split (split_at 0x4000000000000000 (timers_word 0 5))
    ∷ bare 3 (split_at 0x2000000000000000 0)
    ∷ bare 1 no_split
    ∷ []

abbrev pub WorkedLinesHold : Type 0
WorkedLinesHold = AllByRecursion Holds worked_lines
