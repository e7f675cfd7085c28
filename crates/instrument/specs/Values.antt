-- "Values: 11, 16 text; 21, 24 angles, unit 2, 3 or 4; 34 and 83-88 lengths, unit 0 or 1."
use Rattle.std.specs.Prelude.{ℕ, ◌+◌, ◌/◌, ◌%◌, Bool, true, false, cond, ◌&&◌, Option, Some, None, Ok, Err, List, [], ◌∷◌, ◌++◌, eqb, leb, length, get_or, take, drop, replicate}
use Prim.Native.String.{String}
use Rattle.figures.specs.Text.{codes, byte}
use Rattle.figures.specs.Bytes.{within}
use Rattle.units.specs.Information.{is_dot, marks, all_right, first_wrong, sign_byte, sign_of}
use Rattle.units.specs.declared.information.Marks.{Marks}
use Rattle.words.specs.Reading.{pos, word_of, Judged, judged_in, judged_wrong}
use Rattle.units.specs.declared.kinds.Family.TheVariants.{Station}
use Rattle.words.specs.declared.reading.Fault.TheVariants.{Information}
use Rattle.instrument.specs.Rows.{seek, key_bytes}
use Rattle.instrument.specs.declared.values.Stored.{Stored}
use Rattle.instrument.specs.declared.values.Put.{Put}

-- a value's eight characters
abbrev pub Eight : Type 0
Eight = List ℕ

-- what is stored: nothing ever, or unit, sign (0 or 1) and characters
abbrev pub Kept : Type 0
Kept = Option Put

abbrev pub put_of : ℕ → ℕ → Eight → Kept
put_of u m d = Some (record { unit = u; minus = m; eight = d })

-- index, first and last unit as they stand at position 6; the unit of text is a dot
abbrev pub units_of : ℕ → String → String → Stored
units_of index first last = record { index = index; first = byte first; last = byte last; key = key_bytes "v" index }

abbrev pub index_number : Stored → ℕ
index_number r = r.index

unfoldable pub stored : List Stored
stored =
    units_of 11 "." "."
    ∷ units_of 16 "." "."
    ∷ units_of 21 "2" "4"
    ∷ units_of 24 "2" "4"
    ∷ units_of 34 "0" "1"
    ∷ units_of 83 "0" "1"
    ∷ units_of 84 "0" "1"
    ∷ units_of 85 "0" "1"
    ∷ units_of 86 "0" "1"
    ∷ units_of 87 "0" "1"
    ∷ units_of 88 "0" "1"
    ∷ []

abbrev pub values_n : ℕ
values_n = 11

-- past the last
abbrev pub no_stored : Stored
no_stored = record { index = 0; first = 0; last = 0; key = key_bytes "v" 0 }

abbrev pub stored_at : ℕ → Stored
stored_at i = get_or stored i no_stored

-- the place of the stored value of that index
abbrev pub value_place : ℕ → Option ℕ
value_place i = seek index_number stored 0 i

-- "11, 16 text"
abbrev pub is_text : ℕ → Bool
is_text place = is_dot (stored_at place).first

abbrev pub is_put : Kept → Bool
is_put None = false
is_put (Some p) = true

-- "A PUT word has dots at 3-5 (3-6 for text) and otherwise obeys the block rules." All four are of 6, the unit of the value too
abbrev pub put_marks : ℕ → List ℕ → Marks
put_marks place b =
    marks (is_dot (pos 3 b)) (is_dot (pos 4 b)) (is_dot (pos 5 b)) (within (stored_at place).first (stored_at place).last (pos 6 b))

-- "26 also tells which of 6 to 10 it was, with the byte" (request 104), here of the word; `put_which`, in proofs/Which.antt, shows that it is one of these
abbrev pub put_judged : ℕ → List ℕ → Judged
put_judged place b =
    cond (all_right (put_marks place b)) (judged_in (word_of Station false b)) (judged_wrong Information (2 + first_wrong (put_marks place b)))

abbrev pub is_right_word : Judged → Bool
is_right_word (Ok t) = true
is_right_word (Err e) = false

abbrev pub put_right : ℕ → List ℕ → Bool
put_right place b = is_right_word (put_judged place b)

-- the first eight, 0 where there are fewer
abbrev pub eight_of : List ℕ → Eight
eight_of l =
    get_or l 0 0 ∷ get_or l 1 0 ∷ get_or l 2 0 ∷ get_or l 3 0 ∷ get_or l 4 0 ∷ get_or l 5 0 ∷ get_or l 6 0 ∷ get_or l 7 0 ∷ []

-- what a PUT leaves: unit, sign and eight characters
abbrev pub put_kept : List ℕ → Kept
put_kept b = put_of (pos 6 b) (sign_of (pos 7 b)) (eight_of (drop 7 b))

abbrev pub eight_bytes : Eight → List ℕ
eight_bytes = eight_of

-- the word of a value, with that byte at position 5
abbrev pub value_word : ℕ → ℕ → ℕ → ℕ → Eight → List ℕ
value_word mark place u m d =
    (48 + (stored_at place).index / 10 % 10) ∷ (48 + (stored_at place).index % 10) ∷ (codes ".." ++ (mark ∷ u ∷ sign_byte m ∷ (eight_bytes d ++ codes " ")))

-- "each value never put or as a PUT can leave it"; in the code the eight are an array, a list here could be of any length
abbrev pub kept_right : ℕ → Kept → Bool
kept_right place None = true
kept_right place (Some p) =
    eqb (length p.eight) 8 && (leb p.minus 1 && put_right place (value_word (byte ".") place p.unit p.minus p.eight))

-- unit, sign and eight characters as they lie in an image; `parts_text`, `parts_length` and `parts_angle`, in proofs/Kept.antt, judge them by themselves
abbrev pub parts_in : List ℕ → Kept
parts_in l = put_of (get_or l 0 0) (get_or l 1 0) (eight_of (drop 2 l))

abbrev pub parts_n : ℕ
parts_n = 10

abbrev pub parts_right : ℕ → List ℕ → Bool
parts_right place l = eqb (length l) parts_n && kept_right place (parts_in l)

-- "GET/I answers text words with four dots, others as dot, dot, `1`, the unit; sign and data as put."
abbrev pub get_word : ℕ → Kept → List ℕ
get_word place None = replicate 16 32
get_word place (Some p) = value_word (cond (is_text place) (byte ".") (byte "1")) place p.unit p.minus p.eight

-- "wide words, with zeros added on the left of the data" (request 103)
abbrev pub widened : List ℕ → List ℕ
widened w = take 7 w ++ (codes "00000000" ++ drop 7 w)

abbrev pub word_in : Bool → List ℕ → List ℕ
word_in wide w = cond wide (widened w) w
