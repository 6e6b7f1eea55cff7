-- The lines that the program writes into a caller's buffer.
use Rattle.std.specs.Prelude.{◌≡◌, ℕ, zero, suc, ◌+◌, ◌/◌, ◌%◌, ◌<◌, ◌≤◌, cond, List, [], ◌∷◌, ◌++◌, length, take, drop, Ok, Err, codes, decimal, Result, nat_lt}
use Rattle.refusal.specs.declared.Fault.{Fault}
use Rattle.refusal.specs.declared.Fault.TheVariants.{TooShort}
use Rattle.refusal.specs.Faults.{number, place, place_number}
use Rattle.lines.specs.declared.writing.Line.{Line}
use Rattle.lines.specs.declared.writing.Line.TheVariants.{Accepted, Found, Refused, PageRefused, ScriptTooLong}

-- `after` is `before` with the bytes at position `at`, and `next` is the position after them.
pub record Put (at : ℕ) (bytes before after : List ℕ) (next : ℕ) : Type 0 where
  pub next_is : next ≡ at + length bytes
  pub after_is : after ≡ take at before ++ bytes ++ drop next before

-- every line ends with byte 0x0A
abbrev pub newline : List ℕ
newline = 10 ∷ []

-- `after` is `before` with the line, but for its byte 0x0A, at the front, and `end` is that byte's position: there is room for it in any buffer for a line.
pub record Unended (line before after : List ℕ) (end : ℕ) : Type 0 where
  pub body : List ℕ
  pub whole : body ++ newline ≡ line
  pub put : Put 0 body before after end
  pub room : end < 37

-- 0 to 9, then a to f
abbrev pub hex_digit : ℕ → ℕ
hex_digit d = cond (nat_lt d 10) (48 + d) (87 + d)

-- the last `count` hexadecimal digits of a number
unfoldable pub hex_digits : ℕ → ℕ → List ℕ
hex_digits zero n = []
hex_digits (suc count) n = hex_digits count (n / 16) ++ (hex_digit (n % 16) ∷ [])

-- a call that is accepted
abbrev pub accepted_line : List ℕ
accepted_line = codes "ok" ++ newline

-- a split that is found: its sides word and the print word of its price, 16 digits each
abbrev pub found_line : ℕ → ℕ → List ℕ
found_line sides word = codes "ok " ++ hex_digits 16 sides ++ codes " " ++ hex_digits 16 word ++ newline

-- a call that is refused: the fault's number
abbrev pub refused_line : Fault → List ℕ
refused_line fault = codes "no " ++ decimal (number fault) ++ newline

-- a refused page: the fault's number, and its place as a number
abbrev pub page_line : Fault → List ℕ
page_line fault = codes "page no " ++ decimal (number fault) ++ codes " at " ++ decimal (place_number (place fault)) ++ newline

-- a script that is too long
abbrev pub script_line : List ℕ
script_line = codes "script no 10" ++ newline

abbrev pub line_bytes : Line → List ℕ
line_bytes Accepted = accepted_line
line_bytes (Found sides word) = found_line sides word
line_bytes (Refused fault) = refused_line fault
line_bytes (PageRefused fault) = page_line fault
line_bytes ScriptTooLong = script_line

-- A buffer of fewer than 37 bytes is refused and stays. Any other begins with the line, and its later bytes stay.
abbrev pub Written : List ℕ → List ℕ → List ℕ → Result ℕ Fault → Type 0
Written line before after (Ok count) = (37 ≤ length before) × (count ≡ length line) × (after ≡ line ++ drop count before)
Written line before after (Err fault) = (length before < 37) × (fault ≡ TooShort 1) × (after ≡ before)
