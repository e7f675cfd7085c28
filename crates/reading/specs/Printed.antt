-- What is printed of a file: the report of each of its pieces, and the counts at its end.
use Rattle.std.specs.Prelude.{ℕ, ◌+◌, min, ◌≡◌, cond, List, [], ◌∷◌, ◌++◌, length, take}
use Rattle.pieces.specs.Pieces.{pieces}
use Rattle.figures.specs.Rooms.{put_at}
use Rattle.reports.specs.Piece.{report_of, tally_text}
use Rattle.reading.specs.Turns.{is_taken, last_line, finished, finished_text, Standing, fed_at, next, after_bytes, begun}
use Rattle.units.specs.declared.kinds.Family.{Family}

-- the report of each piece, and then the counts: the first piece is number k + 1 and starts at that place; of the k before it some were accepted, some refused
unfoldable pub reports_from : Family → ℕ → ℕ → ℕ → ℕ → List (List ℕ) → List ℕ
reports_from f k at accepted refused [] = tally_text k accepted refused
reports_from f k at accepted refused (p ∷ ps) =
    report_of f (k + 1) at p
    ++ reports_from f (k + 1) (at + length p) (cond (is_taken f p) (accepted + 1) accepted) (cond (is_taken f p) refused (refused + 1)) ps

abbrev pub printed_of : Family → List ℕ → List ℕ
printed_of f s = reports_from f 0 0 0 0 (pieces s)

-- the same in the program's own steps: what a byte hands over to be written, and what the file's end does

abbrev pub handed : Family → Standing → ℕ → List ℕ
handed f s b = let t = fed_at f s b in take t.turn.count t.text

abbrev pub closing : Family → Standing → List ℕ
closing f s =
    let t = finished f s.room s.progress (length s.text) in
    let line = last_line t.progress in
    let text = finished_text f s.room s.progress s.text in
    take (min (t.count + length line) (length text)) (put_at text t.count line)

unfoldable pub printed_from : Family → Standing → List ℕ → List ℕ
printed_from f s [] = closing f s
printed_from f s (b ∷ l) = handed f s b ++ printed_from f (next f s b) l

-- what these bytes hand over, however many reads they came in
unfoldable pub handed_from : Family → Standing → List ℕ → List ℕ
handed_from f s [] = []
handed_from f s (b ∷ l) = handed f s b ++ handed_from f (next f s b) l

-- what is handed over next, when so much is still to come
abbrev pub handed_next : Family → Standing → List ℕ → List ℕ
handed_next f s [] = closing f s
handed_next f s (b ∷ l) = handed f s b

-- the text is what is handed over next, somewhere in some file
abbrev pub Due : Family → List ℕ → Type 0
Due f text = (file rest : List ℕ) × (text ≡ handed_next f (after_bytes f begun file) rest)
