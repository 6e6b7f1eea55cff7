-- The number and the place of each refusal.
use Rattle.std.specs.Prelude.{ℕ}
use Rattle.refusal.specs.declared.Place.{Place}
use Rattle.refusal.specs.declared.Place.TheVariants.{Call, Bit, Net, Pin, Table}
use Rattle.refusal.specs.declared.Fault.{Fault}
use Rattle.refusal.specs.declared.Fault.TheVariants.{PageEnds, OtherKind, TooManyModules, TooManyNets, TablesDisagree, TooFewPins, NoSuchModule, RepeatedPin, AfterLastNet, TooShort, NoSuchHomeModule, AlreadyTogether, NoSuchNet, AlreadyMuted, PlanFull, NothingToTakeBack, TooFewGroups, LineNotUnderstood}

abbrev pub number : Fault → ℕ
number (PageEnds bit) = 1
number (OtherKind bit) = 2
number (TooManyModules at) = 3
number (TooManyNets at) = 4
number TablesDisagree = 5
number (TooFewPins at) = 6
number (NoSuchModule at) = 7
number (RepeatedPin at) = 8
number (AfterLastNet bit) = 9
number (TooShort table) = 10
number NoSuchHomeModule = 11
number AlreadyTogether = 12
number NoSuchNet = 13
number AlreadyMuted = 14
number PlanFull = 15
number NothingToTakeBack = 16
number TooFewGroups = 17
number LineNotUnderstood = 18

abbrev pub place : Fault → Place
place (PageEnds bit) = Bit bit
place (OtherKind bit) = Bit bit
place (TooManyModules at) = at
place (TooManyNets at) = at
place TablesDisagree = Call
place (TooFewPins at) = at
place (NoSuchModule at) = at
place (RepeatedPin at) = at
place (AfterLastNet bit) = Bit bit
place (TooShort table) = Table table
place NoSuchHomeModule = Call
place AlreadyTogether = Call
place NoSuchNet = Call
place AlreadyMuted = Call
place PlanFull = Call
place NothingToTakeBack = Call
place TooFewGroups = Call
place LineNotUnderstood = Call

-- a place as one number: of a pin its net, of the call as a whole 0
abbrev pub place_number : Place → ℕ
place_number Call = 0
place_number (Bit bit) = bit
place_number (Net net) = net
place_number (Pin net position) = net
place_number (Table table) = table
