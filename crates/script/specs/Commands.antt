-- The lines that say a command.
use Rattle.std.specs.Prelude.{◌≡◌, ℕ, ◌<◌, List, ◌++◌, Some, codes, decimal, Option}
use Rattle.script.specs.declared.commands.Command.{Command}
use Rattle.script.specs.declared.commands.Command.TheVariants.{Strap, Mute, TakeBack, Split}

-- a command as a line, without byte 0x0A; `decimal` writes no leading zeros
abbrev pub spelled : Command → List ℕ
spelled (Strap a b) = codes "s " ++ decimal a ++ codes " " ++ decimal b
spelled (Mute n) = codes "m " ++ decimal n
spelled TakeBack = codes "b"
spelled Split = codes "p"

-- its numbers have at most 4 digits
abbrev pub FourDigits : Command → Type 0
FourDigits (Strap a b) = (a < 10000) × (b < 10000)
FourDigits (Mute n) = n < 10000
FourDigits TakeBack = Unit {0}
FourDigits Split = Unit {0}

-- the line says the command
pub record Says (line : List ℕ) (command : Command) : Type 0 where
  pub short : FourDigits command
  pub bytes : line ≡ spelled command

-- the answer is the command that the line says, and absent where it says none
pub record Understood (line : List ℕ) (answer : Option Command) : Type 0 where
  pub said : (command : Command) → Says line command → answer ≡ Some command
  pub only : (command : Command) → answer ≡ Some command → Says line command
