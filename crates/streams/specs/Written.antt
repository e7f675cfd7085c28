-- What was written of a text, where the writer's bytes are known.
use Rattle.std.specs.Prelude.{ℕ, List, take, Option}
use Rattle.std.specs.Io.KnownBytes.{Appends}

-- the text's start: all of it, some or nothing
abbrev pub WritesStart : Option (List ℕ) → Option (List ℕ) → List ℕ → Type 0
WritesStart old new text = (n : ℕ) × Appends old new (take n text)
