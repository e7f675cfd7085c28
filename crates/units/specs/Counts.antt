-- What a word's figures count: "Values are whole numbers with a sign."
use Rattle.std.specs.Prelude.{ℕ, ◌+◌, ◌*◌, ◌/◌, ◌%◌, Bool, cond, ◌&&◌, eqb, ltb, Option, Some, None}
use Rattle.figures.specs.Text.{byte}
use Rattle.units.specs.declared.kinds.Kind.{Kind}
use Rattle.units.specs.declared.kinds.Kind.TheVariants as kind
use Rattle.units.specs.declared.counts.Whole.{Whole}
use Rattle.units.specs.declared.counts.Count.{Count}
use Rattle.units.specs.declared.counts.Count.TheVariants.{Nothing, Text, Gon, Degree, Tenth, Mil, Metre, Feet, Inch, Ppm, Pair}
use Rattle.units.specs.declared.counts.Figures.{Figures}
use Rattle.units.specs.declared.counts.Figures.TheVariants as figures

abbrev pub whole : ℕ → ℕ → Whole
whole m n = record { minus = m; size = n }

-- "Unit 4 reads, from the right, one digit of tenths of a second, two of seconds, two of minutes, the rest degrees"
abbrev pub degrees : ℕ → ℕ
degrees n = n / 100000

abbrev pub minutes : ℕ → ℕ
minutes n = n / 1000 % 100

abbrev pub seconds : ℕ → ℕ
seconds n = n / 10 % 100

abbrev pub tenths : ℕ → ℕ
tenths n = n % 10

-- "its value is degrees x 36,000 + minutes x 600 + seconds x 10 + tenths"
abbrev pub tenths_of : ℕ → ℕ
tenths_of n = degrees n * 36000 + minutes n * 600 + seconds n * 10 + tenths n

-- the digits of such a value, as one number
abbrev pub sexagesimal : ℕ → ℕ
sexagesimal v = v / 36000 * 100000 + v / 600 % 60 * 1000 + v / 10 % 60 * 10 + v % 10

-- "An angle's size is below 40,000,000 (gon), 36,000,000 (degrees) or 64,000,000 (mil); for unit 4 degrees are below 360, minutes and seconds below 60."
abbrev pub gon_limit : ℕ
gon_limit = 40000000

abbrev pub degree_limit : ℕ
degree_limit = 36000000

abbrev pub mil_limit : ℕ
mil_limit = 64000000

-- 360 degrees in tenths of a second
abbrev pub tenth_limit : ℕ
tenth_limit = 12960000

abbrev pub counted : Bool → Count → Option Count
counted right c = cond right (Some c) None

abbrev pub gon_at : ℕ → ℕ → Option Count
gon_at m n = counted (ltb n gon_limit) (Gon (record { 0 = whole m n }))

abbrev pub degree_at : ℕ → ℕ → Option Count
degree_at m n = counted (ltb n degree_limit) (Degree (record { 0 = whole m n }))

abbrev pub tenth_at : ℕ → ℕ → Option Count
tenth_at m n = counted (ltb (degrees n) 360 && (ltb (minutes n) 60 && ltb (seconds n) 60)) (Tenth (record { 0 = whole m (tenths_of n) }))

abbrev pub mil_at : ℕ → ℕ → Option Count
mil_at m n = counted (ltb n mil_limit) (Mil (record { 0 = whole m n }))

-- by the unit: 2, 3, 4 and 5
abbrev pub by_unit : {A : Type 0} → ℕ → A → A → A → A → A
by_unit u gon degree tenth mil = cond (eqb u (byte "2")) gon (cond (eqb u (byte "3")) degree (cond (eqb u (byte "4")) tenth mil))

abbrev pub angle_at : ℕ → ℕ → ℕ → Option Count
angle_at u m n = by_unit u (gon_at m n) (degree_at m n) (tenth_at m n) (mil_at m n)

abbrev pub angle_of : ℕ → Whole → Count
angle_of u w = by_unit u (Gon (record { 0 = w })) (Degree (record { 0 = w })) (Tenth (record { 0 = w })) (Mil (record { 0 = w }))

-- the last of so many decimals of a metre, and of a foot
abbrev pub metres : ℕ → Whole → Count
metres decimals w = Metre (record { 0 = w; 1 = decimals })

abbrev pub feet : ℕ → Whole → Count
feet decimals w = Feet (record { 0 = w; 1 = decimals })

-- "unit 0 is 1 mm, 1 is 1/1000 ft, 6 is 1/10 mm, 7 is 1/10,000 ft, 8 is 1/100 mm"; of a level "9 is 0.0005 inch"
abbrev pub length_of : ℕ → Whole → Count
length_of u w =
    cond (eqb u (byte "0")) (metres 3 w)
    (cond (eqb u (byte "1")) (feet 3 w)
    (cond (eqb u (byte "6")) (metres 4 w)
    (cond (eqb u (byte "7")) (feet 4 w)
    (cond (eqb u (byte "9")) (Inch (record { 0 = w }))
    (metres 5 w)))))

-- "58 counts 1/10 mm; 59 counts 1/10,000 ppm."
abbrev pub constant_of : ℕ → Whole → Count
constant_of i w = cond (eqb i 58) (metres 4 w) (Ppm (record { 0 = w }))

abbrev pub number_at : Kind → ℕ → ℕ → ℕ → ℕ → Option Count
number_at kind.Missing i u m n = None
number_at kind.Numbered i u m n = None
number_at kind.Text i u m n = None
number_at kind.Angle i u m n = angle_at u m n
number_at kind.Length i u m n = Some (length_of u (whole m n))
number_at kind.Constant i u m n = Some (constant_of i (whole m n))
number_at kind.Pair i u m n = None

-- "10 now means angle out of range alone" (request 102): a sign refuses no number, and is kept before zero too
abbrev pub value_at : Kind → ℕ → ℕ → ℕ → Figures → Option Count
value_at k i u m figures.Text = Some Text
value_at k i u m (figures.Number n) = number_at k i u m n
value_at k i u m (figures.Pair p s q) = Some (Pair (whole m p) (whole s q))

abbrev pub zero_whole : Whole
zero_whole = whole 0 0

-- "a value, mm or text byte its word doesn't use is 0"
abbrev pub first_of : Count → Whole
first_of Nothing = zero_whole
first_of Text = zero_whole
first_of (Gon c) = c.0
first_of (Degree c) = c.0
first_of (Tenth c) = c.0
first_of (Mil c) = c.0
first_of (Metre c) = c.0
first_of (Feet c) = c.0
first_of (Inch c) = c.0
first_of (Ppm c) = c.0
first_of (Pair p q) = p

abbrev pub second_of : Count → Whole
second_of Nothing = zero_whole
second_of Text = zero_whole
second_of (Gon c) = zero_whole
second_of (Degree c) = zero_whole
second_of (Tenth c) = zero_whole
second_of (Mil c) = zero_whole
second_of (Metre c) = zero_whole
second_of (Feet c) = zero_whole
second_of (Inch c) = zero_whole
second_of (Ppm c) = zero_whole
second_of (Pair p q) = q

-- the figures of a count
abbrev pub figures_of : Count → Figures
figures_of Nothing = figures.Text
figures_of Text = figures.Text
figures_of (Gon c) = figures.Number c.0.size
figures_of (Degree c) = figures.Number c.0.size
figures_of (Tenth c) = figures.Number (sexagesimal c.0.size)
figures_of (Mil c) = figures.Number c.0.size
figures_of (Metre c) = figures.Number c.0.size
figures_of (Feet c) = figures.Number c.0.size
figures_of (Inch c) = figures.Number c.0.size
figures_of (Ppm c) = figures.Number c.0.size
figures_of (Pair p q) = figures.Pair p.size q.minus q.size
