-- What is put out for a listing: on standard output the block of each line that reads, mended or as it was, and nothing else; on standard error what is told of
-- each line, and the counts at the end.
use Rattle.std.specs.Prelude.{ℕ, suc, min, ◌+◌, ◌≡◌, ◌⊎◌, List, [], ◌∷◌, ◌++◌, length, take, Option}
use Rattle.std.specs.Io.KnownBytes.{Appends}
use Rattle.figures.specs.Rooms.{put_at}
use Rattle.units.specs.declared.kinds.Family.{Family}
use Rattle.errata.specs.Errata.{block_of, told_of, fate_of}
use Rattle.mend.specs.Lines.{lines_of}
use Rattle.mend.specs.Turns.{no_counts, counted, last_line, finished, finished_out, finished_text, Standing, fed_at, next, after_bytes, begun}
use Rattle.mend.specs.declared.turns.Counts.{Counts}

pub record Put : Type 0 where
  pub blocks : List ℕ
  pub told : List ℕ

abbrev pub both : Put → Put → Put
both p q = record { blocks = p.blocks ++ q.blocks; told = p.told ++ q.told }

-- line after line; those before were counted
unfoldable pub put_from : Family → Counts → List (List ℕ) → Put
put_from f c [] = record { blocks = []; told = last_line c }
put_from f c (p ∷ ps) = both (record { blocks = block_of f p; told = told_of f (suc c.lines) p }) (put_from f (counted suc c (fate_of f p)) ps)

abbrev pub put_of : Family → List ℕ → Put
put_of f s = put_from f no_counts (lines_of s)

-- the same in the program's own steps: what a byte hands over to be written, and what the listing's end does

abbrev pub handed : Family → Standing → ℕ → Put
handed f s b = let t = fed_at f s b in record { blocks = take t.turn.bytes t.out; told = take t.turn.count t.text }

abbrev pub closing : Family → Standing → Put
closing f s =
    let t = finished f s.room s.progress (length s.out) (length s.text) in
    let line = last_line t.progress.counts in
    let text = finished_text f s.room s.progress s.text in
    record {
      blocks = take t.bytes (finished_out f s.room s.progress s.out);
      told = take (min (t.count + length line) (length text)) (put_at text t.count line);
    }

unfoldable pub put_by : Family → Standing → List ℕ → Put
put_by f s [] = closing f s
put_by f s (b ∷ l) = both (handed f s b) (put_by f (next f s b) l)

-- what these bytes hand over, however many reads they came in
unfoldable pub handed_from : Family → Standing → List ℕ → Put
handed_from f s [] = record { blocks = []; told = [] }
handed_from f s (b ∷ l) = both (handed f s b) (handed_from f (next f s b) l)

-- what is handed over next, when so much is still to come
abbrev pub handed_next : Family → Standing → List ℕ → Put
handed_next f s [] = closing f s
handed_next f s (b ∷ l) = handed f s b

-- the block and what is told are what is handed over next, somewhere in some listing
abbrev pub Due : Family → List ℕ → List ℕ → Type 0
Due f block text = (file rest : List ℕ) × (record { blocks = block; told = text } ≡ handed_next f (after_bytes f begun file) rest)

abbrev pub put_in : List ℕ → List ℕ → Put
put_in block text = record { blocks = block; told = text }

-- all of it was written, where the writers' bytes are known
abbrev pub Wrote : (told told' blocks blocks' : Option (List ℕ)) → Put → Type 0
Wrote told told' blocks blocks' p = Appends told told' p.told × Appends blocks blocks' p.blocks

-- the start of it: some of what is told, and of the block only where all is told
abbrev pub IsStart : Put → Put → Type 0
IsStart p all = (n m : ℕ) × (p.told ≡ take n all.told) × (p.blocks ≡ take m all.blocks) × ((p.told ≡ all.told) ⊎ (p.blocks ≡ []))

abbrev pub WroteStart : (told told' blocks blocks' : Option (List ℕ)) → Put → Type 0
WroteStart told told' blocks blocks' all = (p : Put) × IsStart p all × Wrote told told' blocks blocks' p

-- it breaks off: all that some bytes of the listing hand over was written, and the start of what is handed over next
abbrev pub BreaksOff : Family → Standing → List ℕ → (told told' blocks blocks' : Option (List ℕ)) → Type 0
BreaksOff f s file told told' blocks blocks' =
    (seen rest : List ℕ) × (file ≡ seen ++ rest) × ((p : Put) × IsStart p (handed_next f (after_bytes f s seen) rest)
    × Wrote told told' blocks blocks' (both (handed_from f s seen) p))
