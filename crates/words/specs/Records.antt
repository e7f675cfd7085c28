-- "A record holds index, information and value, and text where there is text; a value, mm or text byte its word doesn't use is 0."
use Rattle.std.specs.Prelude.{ℕ, ◌-◌, ◌^◌, Bool, true, false, cond, ◌&&◌, ◌||◌, List, eqb, leb, ltb, length, get_or, take, drop, replicate}
use Rattle.figures.specs.Bytes.{within, every}
use Rattle.units.specs.Kinds.{kind_of, is_textual}
use Rattle.units.specs.Information.{info_right}
use Rattle.units.specs.Counts.{whole, gon_limit, degree_limit, tenth_limit, mil_limit, angle_of, length_of, constant_of, first_of, second_of}
use Rattle.units.specs.declared.kinds.Family.{Family}
use Rattle.units.specs.declared.kinds.Kind.{Kind}
use Rattle.units.specs.declared.kinds.Kind.TheVariants as kind
use Rattle.units.specs.declared.counts.Whole.{Whole}
use Rattle.units.specs.declared.counts.Count.{Count}
use Rattle.units.specs.declared.counts.Count.TheVariants.{Nothing, Text, Gon, Degree, Tenth, Mil, Metre, Feet, Inch, Ppm, Pair}
use Rattle.words.specs.declared.records.Word.{Word}

-- "With `*` the words are 16 wide, otherwise 8 wide."
abbrev pub width : Bool → ℕ
width wide = cond wide 16 8

abbrev pub blank : Word
blank = record { index = 0; info = replicate 4 0; minus = 0; mmminus = 0; size = 0; mm = 0; text = replicate 16 0 }

abbrev pub record_of : ℕ → List ℕ → Count → List ℕ → Word
record_of i info c t = record {
  index = i;
  info = info;
  minus = (first_of c).minus;
  mmminus = (second_of c).minus;
  size = (first_of c).size;
  mm = (second_of c).size;
  text = t;
}

abbrev pub kind_in : Family → Word → Kind
kind_in f w = kind_of f w.index

abbrev pub unit_in : Word → ℕ
unit_in w = get_or w.info 3 0

-- what a record counts, by its kind and unit
abbrev pub count_by : Kind → Word → Count
count_by kind.Missing w = Nothing
count_by kind.Numbered w = Text
count_by kind.Text w = Text
count_by kind.Angle w = angle_of (unit_in w) (whole w.minus w.size)
count_by kind.Length w = length_of (unit_in w) (whole w.minus w.size)
count_by kind.Constant w = constant_of w.index (whole w.minus w.size)
count_by kind.Pair w = Pair (whole w.minus w.size) (whole w.mmminus w.mm)

abbrev pub count_of : Family → Word → Count
count_of f w = count_by (kind_in f w) w

-- the first number with more digits than a word of the width has, or than the ppm of its pair
abbrev pub ten_to : Bool → Bool → ℕ
ten_to wide pair = 10 ^ cond pair (width wide - 4) (width wide)

-- a sign, and a size below the limit; minus nought is a number like any other: "keep the sign so that the bytes come back" (request 102)
abbrev pub whole_right : Whole → ℕ → Bool
whole_right w limit = leb w.minus 1 && ltb w.size limit

-- the first number that a count of one number doesn't reach: the end of an angle's range, or a number with more digits than the word has
abbrev pub limit_of : Bool → Count → ℕ
limit_of wide Nothing = ten_to wide false
limit_of wide Text = ten_to wide false
limit_of wide (Gon c) = gon_limit
limit_of wide (Degree c) = degree_limit
limit_of wide (Tenth c) = tenth_limit
limit_of wide (Mil c) = mil_limit
limit_of wide (Metre c) = ten_to wide false
limit_of wide (Feet c) = ten_to wide false
limit_of wide (Inch c) = ten_to wide false
limit_of wide (Ppm c) = ten_to wide false
limit_of wide (Pair p q) = ten_to wide false

abbrev pub count_right : Bool → Count → Bool
count_right wide Nothing = false
count_right wide Text = true
count_right wide (Gon c) = whole_right c.0 (limit_of wide (Gon c))
count_right wide (Degree c) = whole_right c.0 (limit_of wide (Degree c))
count_right wide (Tenth c) = whole_right c.0 (limit_of wide (Tenth c))
count_right wide (Mil c) = whole_right c.0 (limit_of wide (Mil c))
count_right wide (Metre c) = whole_right c.0 (limit_of wide (Metre c))
count_right wide (Feet c) = whole_right c.0 (limit_of wide (Feet c))
count_right wide (Inch c) = whole_right c.0 (limit_of wide (Inch c))
count_right wide (Ppm c) = whole_right c.0 (limit_of wide (Ppm c))
count_right wide (Pair p q) = whole_right p (ten_to wide true) && whole_right q 1000

-- "Text is bytes 33 to 126"
abbrev pub is_graphic : ℕ → Bool
is_graphic = within 33 126

abbrev pub is_zero : ℕ → Bool
is_zero = within 0 0

abbrev pub text_right : Bool → Kind → List ℕ → Bool
text_right wide k t = cond (is_textual k) (every is_graphic (take (width wide) t) && every is_zero (drop (width wide) t)) (every is_zero t)

abbrev pub same_whole : Whole → ℕ → ℕ → Bool
same_whole w m n = eqb w.minus m && eqb w.size n

-- a record that some word of the family and width gives: `Given`, in proofs/Given.antt, shows that this is just what it says
abbrev pub is_right : Family → Bool → Word → Bool
is_right f wide w =
    (eqb (length w.info) 4 && eqb (length w.text) 16)
    && (info_right f w.index (kind_in f w) (get_or w.info 0 0) (get_or w.info 1 0) (get_or w.info 2 0) (unit_in w)
    && (count_right wide (count_of f w)
    && (same_whole (first_of (count_of f w)) w.minus w.size
    && (same_whole (second_of (count_of f w)) w.mmminus w.mm
    && text_right wide (kind_in f w) w.text))))

-- the typed count of a record that some word of the family gives, of either width
abbrev pub typed_of : Family → Word → Count
typed_of f w = cond (is_right f false w || is_right f true w) (count_of f w) Nothing
