-- How many first bytes of a page and of a script decide what is printed.
use Rattle.std.specs.Prelude.{ℕ, List, take}
use Rattle.printing.specs.Printed.{Printed}

-- What is printed of so many first bytes of a page and of a script is what is printed of the whole page and the whole script.
unfoldable pub FirstBytesDecide : ℕ → ℕ → Type 0
FirstBytesDecide of_page of_script = (page script bytes : List ℕ) → Printed (take of_page page) (take of_script script) bytes → Printed page script bytes
