-- Which error is told of a reader or a writer.
use Rattle.std.specs.Prelude.{◌≡◌}
use Rattle.std_io.specs.declared.io.error.Error.{Error}
use Rattle.streams.specs.declared.reading.ReadError.{ReadError}
use Rattle.streams.specs.declared.reading.ReadError.TheVariants.{Memory, Reader}

-- From some state the reader or writer may answer this error and be left as it is now.
-- A call that is proved for all readers or writers at once knows that only of the one that just did so.
abbrev pub Answered : {R : Type 0} → (R → R → Error → Type 0) → R → Error → Type 0
Answered {R} fails after error = (before : R) × fails before after error

-- The reader answered the error; or memory ran out, and nothing was read.
abbrev pub ReadErrorOf : {R : Type 0} → (R → R → Error → Type 0) → R → R → ReadError → Type 0
ReadErrorOf fails before after (Memory _) = after ≡ before
ReadErrorOf fails before after (Reader error) = Answered fails after error
