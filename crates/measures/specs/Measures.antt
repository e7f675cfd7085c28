-- A word as people read it: `reads` is the value in people's form, with its unit's decimals.
use Rattle.std.specs.Prelude.{ℕ, ◌*◌, ◌/◌, ◌%◌, Bool, cond, List, [], ◌∷◌, ◌++◌, eqb, take}
use Rattle.figures.specs.Text.{codes, byte}
use Rattle.figures.specs.Decimal.{digits_of, decimal_of}
use Rattle.units.specs.Information.{sign_byte, index_bytes, info_bytes}
use Rattle.units.specs.declared.kinds.Family.{Family}
use Rattle.units.specs.declared.counts.Count.{Count}
use Rattle.units.specs.declared.counts.Count.TheVariants as count
use Rattle.words.specs.Records.{width, typed_of}
use Rattle.words.specs.declared.records.Word.{Word}
use Rattle.measures.specs.declared.Step.{Step}
use Rattle.measures.specs.declared.Step.TheVariants.{One, Three, Four, Five, Half}
use Rattle.measures.specs.declared.Unit.{Unit}
use Rattle.measures.specs.declared.Unit.TheVariants as unit
use Rattle.measures.specs.declared.Shown.{Shown}
use Rattle.measures.specs.declared.Shown.TheVariants.{Nothing, Text, Measure, Tenths, Pair}

-- index and information as positions 1-6 have them: `31 info=..01`, `331 info=106`
abbrev pub index_text : ℕ → List ℕ → List ℕ
index_text i info = index_bytes i ++ (codes " info=" ++ info_bytes i info)

-- the decimals of a metre or a foot
abbrev pub decimals_of : ℕ → Step
decimals_of n = cond (eqb n 3) Three (cond (eqb n 4) Four Five)

-- how many steps make one of the unit
abbrev pub power_of : Step → ℕ
power_of One = 10
power_of Three = 1000
power_of Four = 10000
power_of Five = 100000
power_of Half = 2000

-- how many decimals are shown
abbrev pub places_of : Step → ℕ
places_of One = 1
places_of Three = 3
places_of Four = 4
places_of Five = 5
places_of Half = 4

-- and the number whose last digits they are
abbrev pub last_of : Step → ℕ → ℕ
last_of One n = n
last_of Three n = n
last_of Four n = n
last_of Five n = n
last_of Half n = n % 2000 * 5

abbrev pub unit_text : Unit → List ℕ
unit_text unit.Gon = codes "gon"
unit_text unit.Degree = codes "deg"
unit_text unit.Mil = codes "mil"
unit_text unit.Millimetre = codes "mm"
unit_text unit.Metre = codes "m"
unit_text unit.Feet = codes "ft"
unit_text unit.Inch = codes "in"
unit_text unit.Ppm = codes "ppm"

-- a sign and the fewest digits
abbrev pub signed_of : ℕ → ℕ → List ℕ
signed_of m n = (sign_byte m ∷ []) ++ decimal_of n

-- ` count=+265965 step=1/`
abbrev pub start_text : ℕ → ℕ → List ℕ
start_text m n = (codes " count=" ++ signed_of m n) ++ codes " step=1/"

-- ` reads=`, and a minus where there is one
abbrev pub reads_key : ℕ → List ℕ
reads_key m = cond (eqb m 0) (codes " reads=") (codes " reads=-")

-- and the whole part
abbrev pub reads_text : ℕ → ℕ → List ℕ
reads_text m n = reads_key m ++ decimal_of n

-- a mark, and the last k digits of n
abbrev pub part_text : ℕ → ℕ → ℕ → List ℕ
part_text mark k n = (mark ∷ []) ++ digits_of k n

-- ` count=+265965 step=1/1000ft reads=265.965ft`; inches with four decimals: ` count=+101981 step=1/2000in reads=50.9905in`
abbrev pub measure_text : ℕ → ℕ → Step → Unit → List ℕ
measure_text m n step u =
    start_text m n ++ (decimal_of (power_of step) ++ (unit_text u ++ (reads_text m (n / power_of step)
    ++ (part_text (byte ".") (places_of step) (last_of step n) ++ unit_text u))))

-- degrees, minutes and seconds as D-MM-SS.T: ` count=+10075730 step=1/10s reads=279-52-53.0`
abbrev pub tenth_text : ℕ → ℕ → List ℕ
tenth_text m n =
    start_text m n ++ (codes "10s" ++ (reads_text m (n / 36000)
    ++ (part_text (byte "-") 2 (n / 600 % 60) ++ (part_text (byte "-") 2 (n / 10 % 60) ++ part_text (byte ".") 1 (n % 10)))))

-- ` ppm=+9 mm=+0`
abbrev pub pair_text : ℕ → ℕ → ℕ → ℕ → List ℕ
pair_text m ppm m' mm = (codes " ppm=" ++ signed_of m ppm) ++ (codes " mm=" ++ signed_of m' mm)

-- ` text=00000003`
abbrev pub keyed_text : Bool → List ℕ → List ℕ
keyed_text wide text = codes " text=" ++ take (width wide) text

-- what is shown of a count, by what is counted; 58 counts 1/10 mm
abbrev pub shown_of : ℕ → Count → Shown
shown_of i count.Nothing = Nothing
shown_of i count.Text = Text
shown_of i (count.Gon c) = Measure c.0 Five unit.Gon
shown_of i (count.Degree c) = Measure c.0 Five unit.Degree
shown_of i (count.Tenth c) = Tenths c.0
shown_of i (count.Mil c) = Measure c.0 Four unit.Mil
shown_of i (count.Metre c) =
    cond (eqb i 58) (Measure c.0 One unit.Millimetre) (Measure c.0 (decimals_of c.1) unit.Metre)
shown_of i (count.Feet c) = Measure c.0 (decimals_of c.1) unit.Feet
shown_of i (count.Inch c) = Measure c.0 Half unit.Inch
shown_of i (count.Ppm c) = Measure c.0 Four unit.Ppm
shown_of i (count.Pair p q) = Pair p q

abbrev pub shown_text : Bool → List ℕ → Shown → List ℕ
shown_text wide text Nothing = []
shown_text wide text Text = keyed_text wide text
shown_text wide text (Measure n step u) = measure_text n.minus n.size step u
shown_text wide text (Tenths n) = tenth_text n.minus n.size
shown_text wide text (Pair ppm mm) = pair_text ppm.minus ppm.size mm.minus mm.size

abbrev pub count_text : Bool → Word → Count → List ℕ
count_text wide w k = shown_text wide w.text (shown_of w.index k)

-- nothing is shown of a record that no word of the family gives
abbrev pub value_text : Family → Bool → Word → List ℕ
value_text f wide w = count_text wide w (typed_of f w)
