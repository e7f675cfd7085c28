-- What the program mend tells of a line of a listing (request 105): each edit, with carets under their places in the line, or the refusal, with a caret under
-- its place in the mended text. Of a line that reads as it is nothing is told.
use Rattle.std.specs.Prelude.{ℕ, ◌+◌, ◌-◌, ◌≡◌, cond, List, [], ◌∷◌, ◌++◌, map, eqb, ltb, take, replicate, Ok, Err}
use Rattle.figures.specs.Text.{codes, byte, lf}
use Rattle.figures.specs.Bytes.{run_of, is_other}
use Rattle.figures.specs.Pointing.{shown, caret_text}
use Rattle.figures.specs.Rooms.{Puts}
use Rattle.units.specs.declared.kinds.Family.{Family}
use Rattle.blocks.specs.Answers.{refusal_tells}
use Rattle.blocks.specs.Judging.{judged}
use Rattle.blocks.specs.Judging.{Answer}
use Rattle.listings.specs.Edits.{dot_kind, blank_kind}
use Rattle.listings.specs.Mending.{Mending, mended}
use Rattle.listings.specs.declared.edits.Edit.{Edit}
use Rattle.reports.specs.Piece.{field_text, text_in, refusal_text}
use Rattle.errata.specs.declared.Fate.{Fate}
use Rattle.errata.specs.declared.Fate.TheVariants.{Refused, Unchanged, Mended}
use Rattle.errata.specs.declared.Told.{Told}

-- `line=4`
abbrev pub head_text : ℕ → List ℕ
head_text number = field_text (codes "line=") number

abbrev pub kind_text : ℕ → List ℕ
kind_text kind = cond (eqb kind dot_kind) (codes "dot") (cond (eqb kind blank_kind) (codes "blank") (codes "CR"))

-- `line=4 place=21 added=dot` and LF
abbrev pub edit_text : ℕ → Edit → List ℕ
edit_text number e = head_text number ++ (field_text (codes " place=") e.place ++ (codes " added=" ++ (kind_text e.kind ++ codes "\n")))

unfoldable pub edits_text : ℕ → List Edit → List ℕ
edits_text number [] = []
edits_text number (e ∷ es) = edit_text number e ++ edits_text number es

-- a caret under the place of each edit, and LF; two edits at one place have one caret. So many columns are done
unfoldable pub carets_from : ℕ → List Edit → List ℕ
carets_from at [] = codes "\n"
carets_from at (e ∷ es) =
    cond (ltb e.place at) (carets_from at es) (replicate (e.place - at) (byte " ") ++ (codes "^" ++ carets_from (e.place + 1) es))

-- a line's text up to its CR or LF, and no more than `reading` shows of a block
abbrev pub text_of : List ℕ → List ℕ
text_of line = take (run_of (is_other lf) (text_in line)) (text_in line)

-- as it is shown, and LF
abbrev pub shown_text : List ℕ → List ℕ
shown_text line = map shown (text_of line) ++ codes "\n"

-- what is told of a line that was mended
abbrev pub mended_text : ℕ → List ℕ → List Edit → List ℕ
mended_text number line [] = []
mended_text number line (e ∷ es) = edits_text number (e ∷ es) ++ (shown_text line ++ carets_from 0 (e ∷ es))

-- by what the reader answers of the mended bytes: the block that comes of a line, none where it is refused
abbrev pub block_by : Answer → Mending → List ℕ
block_by (Err r) m = []
block_by (Ok k) m = m.bytes

abbrev pub told_by : Answer → ℕ → List ℕ → Mending → List ℕ
told_by (Err r) number line m = head_text number ++ (refusal_text r ++ (shown_text m.bytes ++ caret_text (refusal_tells r)))
told_by (Ok k) number line m = mended_text number line m.edits

abbrev pub by_edits : List Edit → Fate
by_edits [] = Unchanged
by_edits (e ∷ es) = Mended

abbrev pub fate_by : Answer → Mending → Fate
fate_by (Err r) m = Refused
fate_by (Ok k) m = by_edits m.edits

abbrev pub answer_of : Family → List ℕ → Answer
answer_of f line = (judged f (mended line).bytes 32).answer

-- the block of a line of a listing of the family, what is told of the line by its number, and what became of it
abbrev pub block_of : Family → List ℕ → List ℕ
block_of f line = block_by (answer_of f line) (mended line)

abbrev pub told_of : Family → ℕ → List ℕ → List ℕ
told_of f number line = told_by (answer_of f line) number line (mended line)

abbrev pub fate_of : Family → List ℕ → Fate
fate_of f line = fate_by (answer_of f line) (mended line)

-- the block in one room and what is told in another, as far as there is room; how many bytes were put in each
abbrev pub Tells : Family → ℕ → List ℕ → List ℕ → List ℕ → Told → List ℕ → List ℕ → Type 0
Tells f number line out text r out' text' =
    Puts out 0 (block_of f line) r.bytes out' × (Puts text 0 (told_of f number line) r.count text' × (r.fate ≡ fate_of f line))

-- `lines=16 unchanged=0 mended=14 refused=2` and LF
abbrev pub tally_text : ℕ → ℕ → ℕ → ℕ → List ℕ
tally_text lines unchanged mended refused =
    field_text (codes "lines=") lines
    ++ (field_text (codes " unchanged=") unchanged ++ (field_text (codes " mended=") mended ++ (field_text (codes " refused=") refused ++ codes "\n")))
