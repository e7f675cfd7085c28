-- What is printed of a piece: `at` is its start in the file, `place` the refusal's place in the block, and under the block's text a caret at that
-- place; of a refused block never a value.
use Rattle.std.specs.Prelude.{ℕ, suc, min, ◌≡◌, Bool, true, false, cond, List, [], ◌∷◌, ◌++◌, map, take, Ok, Err}
use Rattle.figures.specs.Text.{codes, cr}
use Rattle.figures.specs.Bytes.{run_of, is_other}
use Rattle.figures.specs.Pointing.{shown, caret_text}
use Rattle.figures.specs.Decimal.{decimal_of}
use Rattle.units.specs.declared.kinds.Family.{Family}
use Rattle.words.specs.Records.{width}
use Rattle.words.specs.declared.records.Word.{Word}
use Rattle.blocks.specs.Answers.{refusal_number, refusal_tells}
use Rattle.blocks.specs.Judging.{Answer, judged}
use Rattle.blocks.specs.declared.answers.Refusal.{Refusal}
use Rattle.blocks.specs.declared.answers.Reading.{Reading}
use Rattle.figures.specs.Rooms.{Puts}
use Rattle.measures.specs.Measures.{index_text, value_text}
use Rattle.reports.specs.declared.piece.Reported.{Reported}

-- a key, and a number in its fewest digits
abbrev pub field_text : List ℕ → ℕ → List ℕ
field_text key n = key ++ decimal_of n

-- two such fields, and LF
abbrev pub line_text : List ℕ → ℕ → List ℕ → ℕ → List ℕ
line_text key n other m = field_text key n ++ (field_text other m ++ codes "\n")

-- `word=4 index=31 info=..01`
abbrev pub name_text : ℕ → ℕ → List ℕ → List ℕ
name_text k i info = field_text (codes "word=") k ++ (codes " index=" ++ index_text i info)

-- `word=4 index=31 info=..01 count=+265965 step=1/1000ft reads=265.965ft` and LF
abbrev pub word_text : Family → ℕ → Bool → Word → List ℕ
word_text f k wide w = name_text k w.index w.info ++ (value_text f wide w ++ codes "\n")

-- the words, numbered from k on
unfoldable pub words_text : Family → ℕ → Bool → List Word → List ℕ
words_text f k wide [] = []
words_text f k wide (w ∷ ws) = word_text f k wide w ++ words_text f (suc k) wide ws

-- `block=1 at=0`
abbrev pub head_text : ℕ → ℕ → List ℕ
head_text number at = field_text (codes "block=") number ++ field_text (codes " at=") at

-- ` end=CRLF` or ` end=CR`
abbrev pub end_text : Bool → List ℕ
end_text crlf = cond crlf (codes " end=CRLF") (codes " end=CR")

-- ` width=8 end=CRLF`
abbrev pub form_text : Bool → Bool → List ℕ
form_text wide crlf = field_text (codes " width=") (width wide) ++ end_text crlf

-- ` width=8 end=CRLF words=5 bytes=82` and LF
abbrev pub reading_text : Reading → List ℕ
reading_text r = form_text r.wide r.crlf ++ line_text (codes " words=") r.words (codes " bytes=") r.used

-- ` refused=10 place=16` and LF
abbrev pub refusal_text : Refusal → List ℕ
refusal_text r = line_text (codes " refused=") (refusal_number r) (codes " place=") (refusal_tells r)

-- the text of a refused block up to its end: what comes before the first CR, and no more than the longest block has there and the byte in its CR's place
abbrev pub text_most : ℕ
text_most = 770

abbrev pub text_in : List ℕ → List ℕ
text_in piece = take (min (run_of (is_other cr) piece) text_most) piece

-- and under it a caret at the byte, so that nobody counts columns (request 104)
abbrev pub where_text : List ℕ → ℕ → List ℕ
where_text piece place = map shown (text_in piece) ++ (codes "\n" ++ caret_text place)

abbrev pub answer_text : Family → List ℕ → Answer → List Word → List ℕ
answer_text f piece (Err r) ws = refusal_text r ++ where_text piece (refusal_tells r)
answer_text f piece (Ok r) ws = reading_text r ++ words_text f 1 r.wide ws

-- the report of a piece of the family's file, by its number, its start in the file and its bytes, which are read into a list of 32 places
abbrev pub report_of : Family → ℕ → ℕ → List ℕ → List ℕ
report_of f number at piece = head_text number at ++ answer_text f piece (judged f piece 32).answer (judged f piece 32).words

abbrev pub is_read : Answer → Bool
is_read (Err r) = false
is_read (Ok r) = true

-- the report in a room, as far as there is room; how many bytes were put there, and whether the block was accepted
abbrev pub Reports : Family → ℕ → ℕ → List ℕ → List ℕ → Reported → List ℕ → Type 0
Reports f number at piece room r room' =
    Puts room 0 (report_of f number at piece) r.count room' × (r.accepted ≡ is_read (judged f piece 32).answer)

-- `blocks=2 accepted=1 refused=1` and LF
abbrev pub tally_text : ℕ → ℕ → ℕ → List ℕ
tally_text blocks accepted refused = field_text (codes "blocks=") blocks ++ line_text (codes " accepted=") accepted (codes " refused=") refused
