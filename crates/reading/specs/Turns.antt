-- A file read byte by byte: the piece that comes in is kept, and reported when it has ended.
use Rattle.std.specs.Prelude.{ℕ, ◌+◌, min, ◌≡◌, Bool, cond, List, [], ◌∷◌, eqb, length, take, replicate}
use Rattle.blocks.specs.Judging.{judged}
use Rattle.pieces.specs.Pieces.{is_joined, mark_after}
use Rattle.units.specs.declared.kinds.Family.{Family}
use Rattle.pieces.specs.declared.Mark.TheVariants.{Open}
use Rattle.figures.specs.Rooms.{put_at, Puts}
use Rattle.files.specs.Counting.{more_of}
use Rattle.reports.specs.Piece.{report_of, is_read, tally_text}
use Rattle.reading.specs.declared.turns.Progress.{Progress}
use Rattle.reading.specs.declared.turns.Turn.{Turn}

abbrev pub is_taken : Family → List ℕ → Bool
is_taken f piece = is_read (judged f piece 32).answer

abbrev pub started : Progress
started = record { mark = Open; kept = 0; place = 0; next = 0; blocks = 0; accepted = 0; refused = 0 }

-- how far the file is read, and how many bytes of report there are
abbrev pub turn_of : Progress → ℕ → Turn
turn_of g n = record { progress = g; count = n }

-- the piece's next byte comes in, and is kept where there is a place for it
abbrev pub joined : ℕ → Progress → ℕ → Progress
joined size g b = record {
  mark = mark_after g.mark b;
  kept = min (g.kept + 1) size;
  place = g.place;
  next = more_of g.next;
  blocks = g.blocks;
  accepted = g.accepted;
  refused = g.refused;
}

-- the piece has ended
abbrev pub ended : Progress → Bool → Progress
ended g is = record {
  mark = Open;
  kept = 0;
  place = g.next;
  next = g.next;
  blocks = more_of g.blocks;
  accepted = cond is (more_of g.accepted) g.accepted;
  refused = cond is g.refused (more_of g.refused);
}

abbrev pub reported : Family → List ℕ → Progress → ℕ → Turn
reported f room g size =
    let piece = take g.kept room in
    record { progress = ended g (is_taken f piece); count = min (length (report_of f (more_of g.blocks) g.place piece)) size }

abbrev pub told_text : Family → List ℕ → Progress → List ℕ → List ℕ
told_text f room g text = put_at text 0 (report_of f (more_of g.blocks) g.place (take g.kept room))

-- what a byte leaves: how far the file is read, the bytes kept, and the text
pub record Fed : Type 0 where
  pub turn : Turn
  pub room : List ℕ
  pub text : List ℕ

-- the byte belongs to the piece
abbrev pub goes_on : List ℕ → Progress → ℕ → List ℕ → Fed
goes_on room g b text = record {
  turn = record { progress = joined (length room) g b; count = 0 };
  room = put_at room g.kept (b ∷ []);
  text = text;
}

-- the byte starts the next piece
abbrev pub starts_next : Family → List ℕ → Progress → ℕ → List ℕ → Fed
starts_next f room g b text =
    let t = reported f room g (length text) in
    record {
      turn = record { progress = joined (length room) t.progress b; count = t.count };
      room = put_at room 0 (b ∷ []);
      text = told_text f room g text;
    }

abbrev pub fed : Family → List ℕ → Progress → ℕ → List ℕ → Fed
fed f room g b text = cond (is_joined g.mark b) (goes_on room g b text) (starts_next f room g b text)

abbrev pub Feeds : Family → List ℕ → Progress → ℕ → List ℕ → Turn → List ℕ → List ℕ → Type 0
Feeds f room g b text r room' text' =
    let t = fed f room g b text in (r ≡ t.turn) × ((room' ≡ t.room) × (text' ≡ t.text))

abbrev pub last_line : Progress → List ℕ
last_line g = tally_text g.blocks g.accepted g.refused

-- at the file's end: a last piece without CR
abbrev pub finished : Family → List ℕ → Progress → ℕ → Turn
finished f room g size = cond (eqb g.kept 0) (record { progress = g; count = 0 }) (reported f room g size)

abbrev pub finished_text : Family → List ℕ → Progress → List ℕ → List ℕ
finished_text f room g text = cond (eqb g.kept 0) text (told_text f room g text)

-- and after it the last line
abbrev pub Closes : Family → List ℕ → Progress → List ℕ → ℕ → List ℕ → Type 0
Closes f room g text r text' =
    let t = finished f room g (length text) in Puts (finished_text f room g text) t.count (last_line t.progress) r text'

-- where the reading stands: how far it has got, what is kept of the piece, and the text
pub record Standing : Type 0 where
  pub progress : Progress
  pub room : List ℕ
  pub text : List ℕ

abbrev pub standing_at : List ℕ → Progress → List ℕ → Standing
standing_at room g text = record { progress = g; room = room; text = text }

abbrev pub fed_at : Family → Standing → ℕ → Fed
fed_at f s b = fed f s.room s.progress b s.text

abbrev pub next : Family → Standing → ℕ → Standing
next f s b = let t = fed_at f s b in record { progress = t.turn.progress; room = t.room; text = t.text }

-- after so many bytes
unfoldable pub after_bytes : Family → Standing → List ℕ → Standing
after_bytes f s [] = s
after_bytes f s (b ∷ l) = after_bytes f (next f s b) l

-- at the start nothing is kept of a piece, and nothing is put in the text
unfoldable pub begun : Standing
begun = record { progress = started; room = replicate 800 0; text = replicate 5367 0 }

-- where the code stands, some file's bytes after the start
abbrev pub Reached : Family → List ℕ → Progress → List ℕ → Type 0
Reached f room g text = (file : List ℕ) × (after_bytes f begun file ≡ record { progress = g; room = room; text = text })

-- all of these bytes were taken
abbrev pub Takes : Family → List ℕ → Progress → List ℕ → List ℕ → Progress → List ℕ → List ℕ → Type 0
Takes f room g bytes text g' room' text' = after_bytes f (standing_at room g text) bytes ≡ standing_at room' g' text'
