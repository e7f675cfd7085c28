-- "Bench readings, those with P to be proved": what is tried, and what is answered. "A word shown alone is a block of that word and a CR; the
-- list has 32 places and the reply room 306 bytes." A line is sent with a CR to a fresh stand-in.
use Rattle.std.specs.Prelude.{ℕ, ◌-◌, ◌≡◌, Bool, true, false, List, [], ◌∷◌, ◌++◌, map, length, replicate, Ok, Err}
use Prim.Native.String.{String}
use Rattle.figures.specs.Text.{codes}
use Rattle.figures.specs.Bytes.{laid}
use Rattle.figures.specs.Decimal.{number_of}
use Rattle.units.specs.Counts.{whole, metres, feet}
use Rattle.words.specs.Records.{typed_of}
use Rattle.units.specs.declared.kinds.Family.{Family}
use Rattle.units.specs.declared.counts.Count.{Count}
use Rattle.units.specs.declared.counts.Count.TheVariants.{Text, Gon, Tenth, Pair}
use Rattle.words.specs.declared.records.Word.{Word}
use Rattle.blocks.specs.Answers.{refusal_number, refusal_tells}
use Rattle.blocks.specs.Judging.{Judgement, is_wide, judged}
use Rattle.blocks.specs.Composing.{Written·room, written}
use Rattle.blocks.specs.Judging.{Answer}
use Rattle.instrument.specs.declared.settings.Series.TheVariants.{Tps100}
use Rattle.state.specs.Entries.{factory_state}
use Rattle.state.specs.declared.entries.State.{State}
use Rattle.lines.specs.Verdicts.{verdict_number, verdict_which, verdict_byte}
use Rattle.lines.specs.Machine.{Outcome, step}
use Rattle.lines.specs.Sessions.{after}
use Rattle.sheets.specs.Playing.{reply_room}

-- what a word gives: "index, information and value, and text where there is text", its value by the typed count
pub record Given : Type 0 where
  pub index : ℕ
  pub info : List ℕ
  pub text : List ℕ
  pub count : Count

abbrev pub given_by : Family → Word → Given
given_by f w = record { index = w.index; info = w.info; text = w.text; count = typed_of f w }

-- a block that is accepted, with its width, end, words and bytes, and what its words give; one that is so accepted, and written back to the same
-- bytes; one that is refused, with number and place; a line, with its number and its reply; one that is refused, with its number, and what 26 tells
pub data Trial : Type 0 where
  accepted : List ℕ → Answer → List Given → Trial
  returned : List ℕ → Answer → List Given → Trial
  refused : List ℕ → ℕ → ℕ → Trial
  answered : List ℕ → ℕ → List ℕ → Trial
  tells : List ℕ → ℕ → ℕ → ℕ → Trial

abbrev pub answer_number : Answer → ℕ
answer_number (Ok r) = 0
answer_number (Err r) = refusal_number r

abbrev pub answer_place : Answer → ℕ
answer_place (Ok r) = 0
answer_place (Err r) = refusal_tells r

abbrev pub reading : Family → List ℕ → Judgement
reading f s = judged f s 32

abbrev pub is_crlf : Answer → Bool
is_crlf (Ok r) = r.crlf
is_crlf (Err r) = false

-- what is read, written back into a room of the block's length
abbrev pub back : Family → List ℕ → Written·room
back f s = written f (reading f s).words (is_wide s) (is_crlf (reading f s).answer) (replicate (length s) 0)

abbrev pub reply : List ℕ → Outcome
reply line = step (factory_state Tps100) line reply_room

abbrev pub Holds : Family → Trial → Type 0
Holds f (accepted s answer words) = ((reading f s).answer ≡ answer) × (map (given_by f) (reading f s).words ≡ words)
Holds f (returned s answer words) =
    ((reading f s).answer ≡ answer) × (map (given_by f) (reading f s).words ≡ words) × (back f s ≡ record { answer = Ok (length s); room = s })
Holds f (refused s number place) = (answer_number (reading f s).answer ≡ number) × (answer_place (reading f s).answer ≡ place)
Holds f (answered line number r) = (verdict_number (reply line).verdict ≡ number) × ((reply line).reply ≡ r)
Holds f (tells line number which byte) =
    let v = (reply line).verdict in (verdict_number v ≡ number) × (verdict_which v ≡ which) × (verdict_byte v ≡ byte)

-- every trial of the list holds, of an instrument of the family
abbrev pub All : Family → List Trial → Type 0
All f [] = Unit {0}
All f (r ∷ rs) = Holds f r × All f rs

-- how the rows are written: a word alone, so many words and bytes; a word's index and information, and its text or its count, with a plus or with a
-- minus; a line and its reply

abbrev pub word : String → List ℕ
word w = codes w ++ codes "\r"

abbrev pub read : Bool → Bool → ℕ → ℕ → Answer
read wide crlf words used = Ok (record { wide = wide; crlf = crlf; words = words; used = used })

abbrev pub one : ℕ → Answer
one used = read false false 1 used

-- information as it is printed: after an index of three digits it is positions 4-6, and the record's first byte of it is unused
abbrev pub given_word : List ℕ → List ℕ → List ℕ → Count → Given
given_word index info t c = record { index = number_of index; info = replicate (4 - length info) 0 ++ info; text = laid t (replicate 16 0); count = c }

abbrev pub text_word : String → String → String → Given
text_word index info t = given_word (codes index) (codes info) (codes t) Text

abbrev pub count_word : String → String → Count → Given
count_word index info c = given_word (codes index) (codes info) [] c

abbrev pub gon : ℕ → Count
gon n = Gon (record { 0 = whole 0 n })

abbrev pub tenth : ℕ → Count
tenth n = Tenth (record { 0 = whole 0 n })

-- 1 mm, and below zero
abbrev pub mm : ℕ → Count
mm n = metres 3 (whole 0 n)

abbrev pub minus_mm : ℕ → Count
minus_mm n = metres 3 (whole 1 n)

abbrev pub pair : ℕ → ℕ → Count
pair ppm mm = Pair (whole 0 ppm) (whole 0 mm)

abbrev pub line : String → ℕ → String → Trial
line l number r = answered (word l) number (codes r ++ codes "\r\n")

-- P1's block
abbrev pub five : List ℕ
five = codes "110014+00000003 21.324+27952530 22.324+27000430 31..01+00265965 51..1.+0009+000 \r\n"

abbrev pub table : List Trial
table =
    accepted five (read false true 5 82)  -- P1
    (text_word "11" "0014" "00000003"
    ∷ count_word "21" ".324" (tenth 10075730)
    ∷ count_word "22" ".324" (tenth 9720430)
    ∷ count_word "31" "..01" (feet 3 (whole 0 265965))
    ∷ count_word "51" "..1." (pair 9 0)
    ∷ [])
    ∷ refused (codes "\r") 3 0  -- P2
    ∷ accepted (word "*11....+000000000PNC0058 ") (read true false 1 26) (text_word "11" "...." "000000000PNC0058" ∷ [])  -- P3
    ∷ accepted (word "21.102+39999999 ") (one 17) (count_word "21" ".102" (gon 39999999) ∷ [])  -- P4
    ∷ refused (word "21.102+40000000 ") 10 7  -- P4
    ∷ accepted (word "21.104+35959599 ") (one 17) (count_word "21" ".104" (tenth 12959999) ∷ [])  -- P5
    ∷ refused (word "21.104+00060000 ") 10 7  -- P5
    ∷ accepted (word "82..00-00213159 ") (one 17) (count_word "82" "..00" (minus_mm 213159) ∷ [])  -- P6
    ∷ returned (word "82..00-00000000 ") (one 17) (count_word "82" "..00" (minus_mm 0) ∷ [])  -- P6, as request 102 has it
    ∷ refused (word "331106+00010198 ") 6 2  -- P7, told at its byte as request 104 has it
    ∷ line "SET/40/2" 0 "?"  -- P8
    ∷ line "SET/40/3" 24 "@W127"  -- P8
    ∷ line "SET/33/0" 23 "@W127"  -- P8
    ∷ line "CONF/70" 0 "0070/0005"  -- P9
    ∷ line "GET/I/WI88" 27 "@W127"  -- P10
    ∷ line "UNDO" 29 "@W127"  -- P11
    ∷ []

-- a fresh stand-in after lines, each with its CR and 306 bytes of room, and its reply to one more
abbrev pub sent : List String → State
sent lines = after (factory_state Tps100) (map (λ l. record { line = word l; room = reply_room }) lines)

abbrev pub replies : List String → String → List ℕ
replies lines l = (step (sent lines) (word l) reply_room).reply

-- "Each reply ends as setting 73 said before the line (0 CR, 1 CR LF)", that to a SET of 73 too
pub record Ends : Type 0 where
  pub to_cr : replies [] "SET/73/0" ≡ codes "?\r\n"
  pub from_cr : replies ("SET/73/0" ∷ []) "SET/73/1" ≡ codes "?\r"
  pub again : replies ("SET/73/0" ∷ "SET/73/1" ∷ []) "CONF/73" ≡ codes "0073/0001\r\n"
