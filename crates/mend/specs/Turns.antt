-- A listing read byte by byte: the line that comes in is kept, and mended when it has ended.
use Rattle.std.specs.Prelude.{ℕ, ◌+◌, min, ◌≡◌, cond, List, [], ◌∷◌, eqb, length, take, replicate}
use Rattle.figures.specs.Rooms.{put_at, Puts}
use Rattle.files.specs.Counting.{more_of}
use Rattle.pieces.specs.Pieces.{is_joined}
use Rattle.pieces.specs.declared.Mark.TheVariants.{Open}
use Rattle.units.specs.declared.kinds.Family.{Family}
use Rattle.errata.specs.Errata.{block_of, told_of, fate_of, tally_text}
use Rattle.errata.specs.declared.Fate.{Fate}
use Rattle.errata.specs.declared.Fate.TheVariants.{Refused, Unchanged, Mended}
use Rattle.mend.specs.Lines.{line_after}
use Rattle.mend.specs.declared.turns.Counts.{Counts}
use Rattle.mend.specs.declared.turns.Progress.{Progress}
use Rattle.mend.specs.declared.turns.Turn.{Turn}
use Rattle.mend.specs.declared.turns.Last.{Last}

abbrev pub no_counts : Counts
no_counts = record { lines = 0; unchanged = 0; mended = 0; refused = 0 }

-- a line more, by what became of it; `more` is the next number
abbrev pub counted : (ℕ → ℕ) → Counts → Fate → Counts
counted more c Refused = record { lines = more c.lines; unchanged = c.unchanged; mended = c.mended; refused = more c.refused }
counted more c Unchanged = record { lines = more c.lines; unchanged = more c.unchanged; mended = c.mended; refused = c.refused }
counted more c Mended = record { lines = more c.lines; unchanged = c.unchanged; mended = more c.mended; refused = c.refused }

abbrev pub started : Progress
started = record { mark = Open; kept = 0; counts = no_counts }

-- the line's next byte comes in, and is kept where there is a place for it
abbrev pub joined : ℕ → Progress → ℕ → Progress
joined size g b = record { mark = line_after g.mark b; kept = min (g.kept + 1) size; counts = g.counts }

-- the line that is kept has ended; its number is one more than those before it
abbrev pub line_in : List ℕ → Progress → List ℕ
line_in room g = take g.kept room

abbrev pub told_in : Family → List ℕ → Progress → List ℕ
told_in f room g = told_of f (more_of g.counts.lines) (line_in room g)

abbrev pub ended : Family → List ℕ → Progress → Progress
ended f room g = record { mark = Open; kept = 0; counts = counted more_of g.counts (fate_of f (line_in room g)) }

abbrev pub tells : Family → List ℕ → Progress → ℕ → ℕ → Turn
tells f room g outN textN = record {
  progress = ended f room g;
  bytes = min (length (block_of f (line_in room g))) outN;
  count = min (length (told_in f room g)) textN;
}

abbrev pub block_put : Family → List ℕ → Progress → List ℕ → List ℕ
block_put f room g out = put_at out 0 (block_of f (line_in room g))

abbrev pub told_put : Family → List ℕ → Progress → List ℕ → List ℕ
told_put f room g text = put_at text 0 (told_in f room g)

-- what a byte leaves: how far the listing is read, the bytes kept, the block and what is told
pub record Fed : Type 0 where
  pub turn : Turn
  pub room : List ℕ
  pub out : List ℕ
  pub text : List ℕ

-- the byte belongs to the line
abbrev pub goes_on : List ℕ → Progress → ℕ → List ℕ → List ℕ → Fed
goes_on room g b out text = record {
  turn = record { progress = joined (length room) g b; bytes = 0; count = 0 };
  room = put_at room g.kept (b ∷ []);
  out = out;
  text = text;
}

-- the byte starts the next line
abbrev pub starts_next : Family → List ℕ → Progress → ℕ → List ℕ → List ℕ → Fed
starts_next f room g b out text =
    let t = tells f room g (length out) (length text) in
    record {
      turn = record { progress = joined (length room) t.progress b; bytes = t.bytes; count = t.count };
      room = put_at room 0 (b ∷ []);
      out = block_put f room g out;
      text = told_put f room g text;
    }

abbrev pub fed : Family → List ℕ → Progress → ℕ → List ℕ → List ℕ → Fed
fed f room g b out text = cond (is_joined g.mark b) (goes_on room g b out text) (starts_next f room g b out text)

abbrev pub Feeds : Family → List ℕ → Progress → ℕ → List ℕ → List ℕ → Turn → List ℕ → List ℕ → List ℕ → Type 0
Feeds f room g b out text r room' out' text' =
    let t = fed f room g b out text in (r ≡ t.turn) × ((room' ≡ t.room) × ((out' ≡ t.out) × (text' ≡ t.text)))

abbrev pub last_line : Counts → List ℕ
last_line c = tally_text c.lines c.unchanged c.mended c.refused

-- at the listing's end: a last line without CR or LF
abbrev pub finished : Family → List ℕ → Progress → ℕ → ℕ → Turn
finished f room g outN textN = cond (eqb g.kept 0) (record { progress = g; bytes = 0; count = 0 }) (tells f room g outN textN)

abbrev pub finished_out : Family → List ℕ → Progress → List ℕ → List ℕ
finished_out f room g out = cond (eqb g.kept 0) out (block_put f room g out)

abbrev pub finished_text : Family → List ℕ → Progress → List ℕ → List ℕ
finished_text f room g text = cond (eqb g.kept 0) text (told_put f room g text)

-- and after what is told of it the counts
abbrev pub Closes : Family → List ℕ → Progress → List ℕ → List ℕ → Last → List ℕ → List ℕ → Type 0
Closes f room g out text r out' text' =
    let t = finished f room g (length out) (length text) in
    (r.bytes ≡ t.bytes) × ((out' ≡ finished_out f room g out)
    × Puts (finished_text f room g text) t.count (last_line t.progress.counts) r.count text')

-- where the reading stands: how far it has got, what is kept of the line, the block and what is told
pub record Standing : Type 0 where
  pub progress : Progress
  pub room : List ℕ
  pub out : List ℕ
  pub text : List ℕ

abbrev pub fed_at : Family → Standing → ℕ → Fed
fed_at f s b = fed f s.room s.progress b s.out s.text

abbrev pub next : Family → Standing → ℕ → Standing
next f s b = let t = fed_at f s b in record { progress = t.turn.progress; room = t.room; out = t.out; text = t.text }

-- after so many bytes
unfoldable pub after_bytes : Family → Standing → List ℕ → Standing
after_bytes f s [] = s
after_bytes f s (b ∷ l) = after_bytes f (next f s b) l

-- at the start nothing is kept of a line, and nothing is put
unfoldable pub begun : Standing
begun = record { progress = started; room = replicate 800 0; out = replicate 771 0; text = replicate 3920 0 }

abbrev pub standing : List ℕ → Progress → List ℕ → List ℕ → Standing
standing room g out text = record { progress = g; room = room; out = out; text = text }

-- where the code stands, some listing's bytes after the start
abbrev pub Reached : Family → List ℕ → Progress → List ℕ → List ℕ → Type 0
Reached f room g out text = (file : List ℕ) × (after_bytes f begun file ≡ standing room g out text)

-- all of these bytes were taken
abbrev pub Takes : Family → List ℕ → Progress → List ℕ → List ℕ → List ℕ → Progress → List ℕ → List ℕ → List ℕ → Type 0
Takes f room g bytes out text g' room' out' text' = after_bytes f (standing room g out text) bytes ≡ standing room' g' out' text'
