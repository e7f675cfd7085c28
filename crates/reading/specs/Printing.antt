-- What prints a file: where its reading stands, which writer it was lent, and what was written so far.
use Rattle.std.specs.Prelude.{ℕ, ◌≡◌, List, Option}
use Rattle.std.specs.Io.KnownBytes.{Appends}
use Rattle.streams.specs.Written.{WritesStart}
use Rattle.units.specs.declared.kinds.Family.{Family}
use Rattle.reading.specs.declared.turns.Progress.{Progress}
use Rattle.reading.specs.Turns.{Standing, standing_at, Takes}
use Rattle.reading.specs.Printed.{handed_from, printed_from}

pub record Printing : Type 0 where
  pub family : Family
  pub standing : Standing
  pub writer : ℕ
  pub written : Option (List ℕ)

abbrev pub printing : Family → List ℕ → Progress → List ℕ → ℕ → Option (List ℕ) → Printing
printing f room g text writer written = record { family = f; standing = standing_at room g text; writer = writer; written = written }

abbrev pub PrintsTo : Printing → Printing → Type 0
PrintsTo p q = q.writer ≡ p.writer

-- these bytes were taken, and what they hand over was written
abbrev pub PrintsPart : Printing → List ℕ → Printing → Type 0
PrintsPart p bytes q =
    let s = p.standing in
    let t = q.standing in
    (p.family ≡ q.family) × (Takes p.family s.room s.progress bytes s.text t.progress t.room t.text) × Appends p.written q.written (handed_from p.family s bytes)

-- these bytes and the file's end after them were taken, and what they hand over was written
abbrev pub PrintsAll : Printing → List ℕ → Printing → Type 0
PrintsAll p bytes q = Appends p.written q.written (printed_from p.family p.standing bytes)

-- it broke off in these bytes or at the file's end after them: what was written is the start of what they and that end hand over
abbrev pub PrintsStart : Printing → List ℕ → Printing → Type 0
PrintsStart p bytes q = WritesStart p.written q.written (printed_from p.family p.standing bytes)
