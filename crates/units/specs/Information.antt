-- Positions 3-6, the table's third column, and position 7.
use Rattle.std.specs.Prelude.{ℕ, Bool, false, cond, not, ◌&&◌, ◌||◌, List, ◌++◌, get_or, eqb, ltb, drop, Option, Some, None}
use Rattle.figures.specs.Text.{codes, byte}
use Rattle.figures.specs.Bytes.{within, among}
use Rattle.figures.specs.Decimal.{is_digit, digits_of}
use Rattle.units.specs.Kinds.{is_textual}
use Rattle.units.specs.declared.kinds.Family.{Family}
use Rattle.units.specs.declared.kinds.Family.TheVariants.{Station, Level}
use Rattle.units.specs.declared.kinds.Kind.{Kind}
use Rattle.units.specs.declared.kinds.Kind.TheVariants.{Missing, Numbered, Text, Angle, Length, Constant, Pair}
use Rattle.units.specs.declared.information.Marks.{Marks}

abbrev pub is_dot : ℕ → Bool
is_dot b = eqb b (byte ".")

-- dot or digit
abbrev pub is_dot_or_digit : ℕ → Bool
is_dot_or_digit b = is_dot b || is_digit b

-- "Mode is a dot or 0-4."
abbrev pub is_mode : ℕ → Bool
is_mode b = is_dot b || within (byte "0") (byte "4") b

-- position 4 of an angle: dot, 0, 1 or 3
abbrev pub is_angle_mark : ℕ → Bool
is_angle_mark b = among b (codes ".013")

-- unit 2-5
abbrev pub is_angle_unit : ℕ → Bool
is_angle_unit = within (byte "2") (byte "5")

-- unit 0, 1, 6, 7 or 8
abbrev pub is_length_unit : ℕ → Bool
is_length_unit b = among b (codes "01678")

-- whether each of positions 3-6 is right
abbrev pub marks : Bool → Bool → Bool → Bool → Marks
marks a b c d = record { 0 = a; 1 = b; 2 = c; 3 = d }

-- all four go by one rule
abbrev pub four_marks : (ℕ → Bool) → ℕ → ℕ → ℕ → ℕ → Marks
four_marks p a b c d = marks (p a) (p b) (p c) (p d)

-- "four digits (block number) or four dots": the first byte chooses between them, and is itself wrong where it is neither
abbrev pub numbered_marks : ℕ → ℕ → ℕ → ℕ → Marks
numbered_marks a b c d = cond (is_digit a) (four_marks is_digit a b c d) (four_marks is_dot a b c d)

-- of text: its first byte is right or not, and the others are dots or digits
abbrev pub text_marks : Bool → ℕ → ℕ → ℕ → Marks
text_marks first b c d = marks first (is_dot_or_digit b) (is_dot_or_digit c) (is_dot_or_digit d)

-- the table's third column
abbrev pub station_marks : Kind → ℕ → ℕ → ℕ → ℕ → Marks
station_marks Missing a b c d = four_marks (λ x. false) a b c d
station_marks Numbered a b c d = numbered_marks a b c d
station_marks Text a b c d = text_marks (is_dot a) b c d
station_marks Angle a b c d = marks (is_dot a) (is_angle_mark b) (is_mode c) (is_angle_unit d)
station_marks Length a b c d = marks (is_dot a) (is_dot b) (is_mode c) (is_length_unit d)
station_marks Constant a b c d = marks (is_dot a) (is_dot b) (is_mode c) (eqb d (byte "6"))
station_marks Pair a b c d = marks (is_dot a) (is_dot b) (is_mode c) (is_dot d)

-- the level's (request 101): "position 4 is a dot or 1"
abbrev pub is_flag : ℕ → Bool
is_flag b = among b (codes ".1")

-- "5 a dot, 0-2 or 4-7"
abbrev pub is_level_mode : ℕ → Bool
is_level_mode b = is_dot b || (within (byte "0") (byte "2") b || within (byte "4") (byte "7") b)

-- "6 a unit: 0, 1 or 6-9"
abbrev pub is_level_unit : ℕ → Bool
is_level_unit b = within (byte "0") (byte "1") b || within (byte "6") (byte "9") b

-- the information's first byte: "A two-digit index has a dot at position 3"; where position 3 belongs to the index it is 0, since it is unused
abbrev pub is_lead : ℕ → ℕ → Bool
is_lead i a = cond (ltb i 100) (is_dot a) (eqb a 0)

-- "11, 41-49 read as before. 52, 57 and 521 are text, the rest of positions 4-6 dots or digits."
abbrev pub level_marks : ℕ → Kind → ℕ → ℕ → ℕ → ℕ → Marks
level_marks i Missing a b c d = four_marks (λ x. false) a b c d
level_marks i Numbered a b c d = numbered_marks a b c d
level_marks i Text a b c d = text_marks (is_lead i a) b c d
level_marks i Angle a b c d = four_marks (λ x. false) a b c d
level_marks i Length a b c d = marks (is_lead i a) (is_flag b) (is_level_mode c) (is_level_unit d)
level_marks i Constant a b c d = four_marks (λ x. false) a b c d
level_marks i Pair a b c d = four_marks (λ x. false) a b c d

abbrev pub info_marks : Family → ℕ → Kind → ℕ → ℕ → ℕ → ℕ → Marks
info_marks Station i k a b c d = station_marks k a b c d
info_marks Level i k a b c d = level_marks i k a b c d

abbrev pub all_right : Marks → Bool
all_right m = m.0 && (m.1 && (m.2 && m.3))

abbrev pub info_right : Family → ℕ → Kind → ℕ → ℕ → ℕ → ℕ → Bool
info_right f i k a b c d = all_right (info_marks f i k a b c d)

-- the same of the information as the list of its four bytes
abbrev pub of_four : {A : Type 0} → (ℕ → ℕ → ℕ → ℕ → A) → List ℕ → A
of_four f info = f (get_or info 0 0) (get_or info 1 0) (get_or info 2 0) (get_or info 3 0)

abbrev pub numbered_marks_in : List ℕ → Marks
numbered_marks_in info = of_four numbered_marks info

abbrev pub station_marks_in : Kind → List ℕ → Marks
station_marks_in k info = of_four (station_marks k) info

abbrev pub level_marks_in : ℕ → Kind → List ℕ → Marks
level_marks_in i k info = of_four (level_marks i k) info

abbrev pub info_marks_in : Family → ℕ → Kind → List ℕ → Marks
info_marks_in f i k info = of_four (info_marks f i k) info

abbrev pub info_right_in : Family → ℕ → Kind → List ℕ → Bool
info_right_in f i k info = of_four (info_right f i k) info

-- of 6 "the first that breaks the rule" (request 104): which of positions 3-6, from 0; after an index of three digits the first of them is right
abbrev pub first_wrong : Marks → ℕ
first_wrong m = cond m.0 (cond m.1 (cond m.2 3 2) 1) 0

-- position 3 as the information has it: 0 where it belongs to the index
abbrev pub lead_of : ℕ → ℕ → ℕ
lead_of i third = cond (ltb i 100) third 0

-- the sign's byte: 0 is a plus, 1 a minus
abbrev pub sign_byte : ℕ → ℕ
sign_byte m = cond (eqb m 0) (byte "+") (byte "-")

abbrev pub sign_of : ℕ → ℕ
sign_of b = cond (eqb b (byte "+")) 0 1

abbrev pub is_sign : ℕ → Bool
is_sign b = eqb b (byte "+") || eqb b (byte "-")

-- "Text is bytes 33 to 126, with sign `+` only."
abbrev pub sign_right : Kind → ℕ → Bool
sign_right k b = eqb b (byte "+") || (eqb b (byte "-") && not (is_textual k))

abbrev pub sign_at : Kind → ℕ → Option ℕ
sign_at k b = cond (sign_right k b) (Some (sign_of b)) None

-- an index of two digits, or of three, which takes position 3 from the information
abbrev pub index_bytes : ℕ → List ℕ
index_bytes i = cond (ltb i 100) (digits_of 2 i) (digits_of 3 i)

abbrev pub info_bytes : ℕ → List ℕ → List ℕ
info_bytes i info = cond (ltb i 100) info (drop 1 info)

-- positions 1-6
abbrev pub head_of : ℕ → List ℕ → List ℕ
head_of i info = index_bytes i ++ info_bytes i info
