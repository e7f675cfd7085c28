-- One word: "positions 1-2 index; 3-6 information; 7 sign; 8-15 (or 8-23) data; one blank, also after the last word." The family says what
-- positions 1-6 may be.
use Rattle.std.specs.Prelude.{ℕ, suc, ◌+◌, ◌-◌, Bool, true, false, cond, List, [], ◌∷◌, ◌++◌, eqb, leb, length, get_or, take, drop, replicate, Option, Some, None, Result, Ok, Err}
use Rattle.figures.specs.Text.{byte}
use Rattle.figures.specs.Bytes.{laid}
use Rattle.figures.specs.Decimal.{is_digit, number_of, are_digits}
use Rattle.units.specs.Kinds.{kind_of, index_by, first_other, listed_by, is_textual}
use Rattle.units.specs.Information.{info_marks, all_right, first_wrong, lead_of, is_sign, sign_of, sign_right}
use Rattle.units.specs.declared.information.Marks.{Marks}
use Rattle.units.specs.Counts.{value_at}
use Rattle.words.specs.Records.{width, blank, record_of, is_graphic}
use Rattle.units.specs.declared.kinds.Family.{Family}
use Rattle.units.specs.declared.kinds.Kind.{Kind}
use Rattle.units.specs.declared.kinds.Kind.TheVariants as kind
use Rattle.units.specs.declared.counts.Count.{Count}
use Rattle.units.specs.declared.counts.Count.TheVariants as count
use Rattle.units.specs.declared.counts.Figures.{Figures}
use Rattle.units.specs.declared.counts.Figures.TheVariants as figures
use Rattle.units.specs.declared.kinds.Unindexed.{Unindexed}
use Rattle.units.specs.declared.kinds.Unindexed.TheVariants.{Other, Unlisted}
use Rattle.words.specs.declared.records.Word.{Word}
use Rattle.words.specs.declared.reading.Fault.{Fault}
use Rattle.words.specs.declared.reading.Fault.TheVariants as fault
use Rattle.words.specs.declared.reading.Wrong.{Wrong}

-- "Refusing a block or a list": the numbers that one word's bytes can bring
abbrev pub fault_number : Fault → ℕ
fault_number fault.Short = 2
fault_number fault.Index = 5
fault_number fault.Unlisted = 15
fault_number fault.Information = 6
fault_number fault.Sign = 7
fault_number fault.Characters = 8
fault_number fault.Separator = 9
fault_number fault.Value = 10

-- "A word with its blank takes 16 or 24 bytes."
abbrev pub word_size : Bool → ℕ
word_size wide = width wide + 8

-- position p, counted from 1
abbrev pub pos : ℕ → List ℕ → ℕ
pos p s = get_or s (p - 1) 0

-- positions 8-15 or 8-23
abbrev pub data_in : Bool → List ℕ → List ℕ
data_in wide s = take (width wide) (drop 7 s)

abbrev pub index_in : Family → List ℕ → ℕ
index_in f s = index_by f (pos 1 s) (pos 2 s) (pos 3 s)

abbrev pub kind_at : Family → List ℕ → Kind
kind_at f s = kind_of f (index_in f s)

abbrev pub lead_in : Family → List ℕ → ℕ
lead_in f s = lead_of (index_in f s) (pos 3 s)

abbrev pub info_in : Family → List ℕ → List ℕ
info_in f s = lead_in f s ∷ pos 4 s ∷ pos 5 s ∷ pos 6 s ∷ []

abbrev pub marks_in : Family → List ℕ → Marks
marks_in f s = info_marks f (index_in f s) (kind_at f s) (lead_in f s) (pos 4 s) (pos 5 s) (pos 6 s)

-- "A pair is 4 digits (12 when wide), a sign, 3 digits: ppm, then mm"
abbrev pub ppm_in : List ℕ → List ℕ
ppm_in d = take (length d - 4) d

abbrev pub under_in : List ℕ → ℕ
under_in d = get_or d (length d - 4) 0

abbrev pub mm_in : List ℕ → List ℕ
mm_in d = drop (length d - 3) d

-- "Text is bytes 33 to 126 .. Digits are all 0-9. A pair is .." the test of each of n data bytes
abbrev pub data_tests : Kind → ℕ → List (ℕ → Bool)
data_tests kind.Missing n = replicate n (λ b. false)
data_tests kind.Numbered n = replicate n is_graphic
data_tests kind.Text n = replicate n is_graphic
data_tests kind.Angle n = replicate n is_digit
data_tests kind.Length n = replicate n is_digit
data_tests kind.Constant n = replicate n is_digit
data_tests kind.Pair n = replicate (n - 4) is_digit ++ (is_sign ∷ replicate 3 is_digit)

-- how many bytes at the start pass the test of their place
abbrev pub passing : List (ℕ → Bool) → List ℕ → ℕ
passing [] d = 0
passing (t ∷ ts) [] = 0
passing (t ∷ ts) (b ∷ d) = cond (t b) (suc (passing ts d)) 0

-- of 8 "the first that breaks the rule" (request 104): the first wrong data byte, from 0; where all are right, how many there are
abbrev pub data_at : Kind → List ℕ → ℕ
data_at k d = passing (data_tests k (length d)) d

abbrev pub data_right : Kind → List ℕ → Bool
data_right k d = eqb (data_at k d) (length d)

-- what right data say
abbrev pub figures_in : Kind → List ℕ → Figures
figures_in kind.Missing d = figures.Text
figures_in kind.Numbered d = figures.Text
figures_in kind.Text d = figures.Text
figures_in kind.Angle d = figures.Number (number_of d)
figures_in kind.Length d = figures.Number (number_of d)
figures_in kind.Constant d = figures.Number (number_of d)
figures_in kind.Pair d = figures.Pair (number_of (ppm_in d)) (sign_of (under_in d)) (number_of (mm_in d))

-- the text of a word that has text, from the start of 16 bytes
abbrev pub text_field : Kind → List ℕ → List ℕ
text_field k d = cond (is_textual k) (laid d (replicate 16 0)) (replicate 16 0)

-- the count of a word whose positions 1-7 and data are right, or that it is refused by 10
abbrev pub value_in : Family → Bool → List ℕ → Option Count
value_in f wide s = value_at (kind_at f s) (index_in f s) (pos 6 s) (sign_of (pos 7 s)) (figures_in (kind_at f s) (data_in wide s))

abbrev pub is_counted : Option Count → Bool
is_counted None = false
is_counted (Some c) = true

abbrev pub count_or : Option Count → Count
count_or None = count.Nothing
count_or (Some c) = c

abbrev pub record_in : Family → Bool → List ℕ → Word
record_in f wide s = record_of (index_in f s) (info_in f s) (count_or (value_in f wide s)) (text_field (kind_at f s) (data_in wide s))

-- a word's record, or why it is refused and the byte of it that is told, from 0
abbrev pub OneWord : Type 0
OneWord = Result Word Wrong

abbrev pub wrong_at : Fault → ℕ → Wrong
wrong_at x at = record { fault = x; at = at }

-- the same without the record
abbrev pub Judged : Type 0
Judged = Result (Unit {0}) Wrong

abbrev pub judged_right : Judged
judged_right = Ok tt

abbrev pub judged_wrong : Fault → ℕ → Judged
judged_wrong x at = Err (wrong_at x at)

abbrev pub judged_in : OneWord → Judged
judged_in (Ok w) = judged_right
judged_in (Err e) = Err e

-- the record, blank where the word is refused
abbrev pub word_in : OneWord → Word
word_in (Ok w) = w
word_in (Err e) = blank

abbrev pub faulty : Fault → ℕ → OneWord
faulty x at = Err (wrong_at x at)

abbrev pub right_word : Word → OneWord
right_word w = Ok w

-- positions 1-3 that are no index: 5 where a byte is no digit, and 15 at the start of the word where the family doesn't have it
abbrev pub wrong_index : Unindexed → Wrong
wrong_index (Other at) = wrong_at fault.Index at
wrong_index Unlisted = wrong_at fault.Unlisted 0

-- the first rule that fails gives its fault, and tells a byte of the word, from 0
abbrev pub unless : Bool → Fault → ℕ → OneWord → OneWord
unless holds x at r = cond holds r (faulty x at)

-- "Refusals 5 to 10 tell the exact byte: the first that breaks the rule, and for 10 the first data byte", and 15 comes "right after 5, telling the start of
-- the word" (request 104). `first_breaks`, of crate damage, shows that it is the first
abbrev pub word_of : Family → Bool → List ℕ → OneWord
word_of f wide s =
    unless (leb (word_size wide) (length s)) fault.Short 0
    (unless (are_digits (pos 1 s) (pos 2 s)) fault.Index (first_other (pos 1 s))
    (unless (listed_by f (pos 1 s) (pos 2 s) (pos 3 s)) fault.Unlisted 0
    (unless (all_right (marks_in f s)) fault.Information (2 + first_wrong (marks_in f s))
    (unless (sign_right (kind_at f s) (pos 7 s)) fault.Sign 6
    (unless (data_right (kind_at f s) (data_in wide s)) fault.Characters (7 + data_at (kind_at f s) (data_in wide s))
    (unless (eqb (get_or s (7 + width wide) 0) (byte " ")) fault.Separator (7 + width wide)
    (unless (is_counted (value_in f wide s)) fault.Value 7
    (right_word (record_in f wide s)))))))))
