-- Positions 1-3: the index of a word and its kind, by the family of instruments that the caller names.
use Rattle.std.specs.Prelude.{ℕ, ◌+◌, ◌-◌, ◌*◌, Bool, true, false, cond, ◌||◌, [], ◌∷◌, eqb, ltb, Option, Some, None, Result, Ok, Err}
use Rattle.figures.specs.Bytes.{within, among}
use Rattle.figures.specs.Decimal.{is_digit, are_digits}
use Rattle.units.specs.Classes.{number, text, numbered, class_of}
use Rattle.units.specs.declared.kinds.Family.{Family}
use Rattle.units.specs.declared.kinds.Family.TheVariants.{Station, Level}
use Rattle.units.specs.declared.kinds.Kind.{Kind}
use Rattle.units.specs.declared.kinds.Kind.TheVariants.{Missing, Numbered, Text, Angle, Length, Constant, Pair}
use Rattle.units.specs.declared.kinds.Unindexed.{Unindexed}
use Rattle.units.specs.declared.kinds.Unindexed.TheVariants.{Other, Unlisted}

-- a total station: the table's first two columns. "Each index missing from the table is refused."
abbrev pub station_kind : ℕ → Kind
station_kind n =
    cond (among n (11 ∷ 41 ∷ [])) Numbered
    (cond (among n (12 ∷ 13 ∷ 16 ∷ 18 ∷ 19 ∷ 52 ∷ 53 ∷ []) || (within 42 49 n || within 71 79 n)) Text
    (cond (among n (21 ∷ 22 ∷ 24 ∷ [])) Angle
    (cond (within 31 34 n || within 81 88 n) Length
    (cond (among n (58 ∷ 59 ∷ [])) Constant
    (cond (among n (51 ∷ [])) Pair
    Missing)))))

-- a level's two digits: "then 32, 52, 57 and 83 .. 11, 41-49 read as before. 52, 57 and 521 are text"
abbrev pub level_kind : ℕ → Kind
level_kind n =
    cond (eqb n 11 || within 41 49 n) (station_kind n)
    (cond (among n (52 ∷ 57 ∷ [])) Text
    (cond (among n (32 ∷ 83 ∷ [])) Length
    Missing))

-- a level's three digits, by their class; those with a block number are the index 11 or 41, and none of their own
abbrev pub class_kind : ℕ → Kind
class_kind c = cond (eqb c number) Length (cond (eqb c text) Text Missing)

-- "The caller says which family a block is from"
abbrev pub kind_of : Family → ℕ → Kind
kind_of Station n = station_kind n
kind_of Level n = cond (ltb n 100) (level_kind n) (class_kind (class_of n))

abbrev pub is_listed : Kind → Bool
is_listed Missing = false
is_listed Numbered = true
is_listed Text = true
is_listed Angle = true
is_listed Length = true
is_listed Constant = true
is_listed Pair = true

abbrev pub is_textual : Kind → Bool
is_textual Missing = false
is_textual Numbered = true
is_textual Text = true
is_textual Angle = false
is_textual Length = false
is_textual Constant = false
is_textual Pair = false

-- the index that two digits say
abbrev pub index_of : ℕ → ℕ → ℕ
index_of tens ones = (tens - 48) * 10 + (ones - 48)

abbrev pub named_by : ℕ → ℕ → Option ℕ
named_by tens ones = cond (are_digits tens ones) (Some (index_of tens ones)) None

-- with a third digit
abbrev pub three_of : ℕ → ℕ → ℕ
three_of two third = two * 10 + (third - 48)

-- an index with its kind, or why positions 1-3 are none
abbrev pub Indexed : Type 0
Indexed = Result (ℕ × Kind) Unindexed

-- an index of that kind, if it has one
abbrev pub of_kind : ℕ → Kind → Indexed
of_kind i k = cond (is_listed k) (Ok (i, k)) (Err Unlisted)

-- a level's two digits and position 3. "110-119 and 410-419 are index 11 or 41 with a block number"; any other digit there belongs to the index, and
-- its class says of which kind it is. Where there is no digit, it is an index of two digits
abbrev pub level_at : ℕ → ℕ → Indexed
level_at two third =
    let three = three_of two third in
    cond (is_digit third)
    (cond (eqb (class_of three) numbered) (Ok (two, Numbered)) (of_kind three (class_kind (class_of three))))
    (of_kind two (level_kind two))

-- two digits and position 3, by the family
abbrev pub listed_at : Family → ℕ → ℕ → Indexed
listed_at Station two third = of_kind two (station_kind two)
listed_at Level two third = level_at two third

-- of 5 "the first that breaks the rule" (request 104): the first of positions 1-2 that is no digit, from 0
abbrev pub first_other : ℕ → ℕ
first_other tens = cond (is_digit tens) 1 0

-- positions 1-3
abbrev pub index_at : Family → ℕ → ℕ → ℕ → Indexed
index_at f tens ones third = cond (are_digits tens ones) (listed_at f (index_of tens ones) third) (Err (Other (first_other tens)))

-- whether the family has the index that they say, and which it is; 0 where it is none
abbrev pub is_index : Indexed → Bool
is_index (Ok p) = true
is_index (Err w) = false

abbrev pub index_or : Indexed → ℕ
index_or (Ok p) = p.0
index_or (Err w) = 0

abbrev pub listed_by : Family → ℕ → ℕ → ℕ → Bool
listed_by f tens ones third = is_index (listed_at f (index_of tens ones) third)

abbrev pub index_by : Family → ℕ → ℕ → ℕ → ℕ
index_by f tens ones third = index_or (listed_at f (index_of tens ones) third)
