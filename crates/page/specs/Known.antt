-- The price kinds that a page can name.
use Rattle.std.specs.Prelude.{◌≡◌, ℕ, Bool, false, not, ◌||◌, List, Option, Result, MatchResult, ◌==◌}
use Rattle.std.specs.Option.{option_or}
use Rattle.std.specs.Bool.{then_some}
use Rattle.refusal.specs.declared.Fault.{Fault}
use Rattle.refusal.specs.declared.Fault.TheVariants.{OtherKind}
use Rattle.price.specs.Wires as first
use Rattle.price.specs.TimersFirst as second
use Rattle.price.specs.Widest as third
use Rattle.page.specs.declared.known.KnownKind.{KnownKind}
use Rattle.page.specs.declared.known.UnknownKind.{UnknownKind}
use Rattle.page.specs.declared.known.KnownKind.TheVariants.{Wires, TimersFirst, Widest}
use Rattle.page.specs.Layout.{kind_field}
use Rattle.page.specs.Faults.{ends, page_fault}

abbrev pub known_number : KnownKind → ℕ
known_number Wires = (first.wires).number
known_number TimersFirst = (second.timers_first).number
known_number Widest = (third.widest).number

abbrev pub is_known : ℕ → Bool
is_known n = n == known_number Wires || (n == known_number TimersFirst || n == known_number Widest)

-- a number's kind, or that none of the kinds has it
abbrev pub Names : ℕ → Result KnownKind UnknownKind → Type 0
Names n r = MatchResult r (λ k. n ≡ known_number k) (λ e. is_known n ≡ false)

-- an unknown kind is refused at the page's first bit
abbrev pub Refuses : UnknownKind → Fault → Type 0
Refuses e f = f ≡ OtherKind 0

-- the page ends inside its kind, or names no known one
abbrev pub known_fault : List ℕ → Option Fault
known_fault bytes = option_or (ends bytes 0 4) (then_some (not (is_known (kind_field bytes))) (OtherKind 0))

-- the page's own first fault, in the kind that it names
abbrev pub own_fault : List ℕ → Option Fault
own_fault bytes = option_or (known_fault bytes) (page_fault bytes (kind_field bytes))
