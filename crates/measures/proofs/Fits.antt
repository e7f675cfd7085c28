-- What is shown of a word is short: 12 bytes of index and information, 82 of its value.
use Prim.Native.Nat.{ℕ, ◌/◌, ◌≤◌}
use mathlib.Core.Path.{◌≡◌}
use mathlib.Core.Bool.{Bool, cond}
use mathlib.Core.List.{List}
use native.Mathlib.Omega.{arith}
use lib.Dec.{eqb, ltb}
use lib.ListN.{length, length-append, length-take, length-drop}
use Rattle.figures.specs.Text.{codes}
use Rattle.figures.specs.Decimal.{digits_nBy, digits_n}
use Rattle.figures.proofs.Decimal.{digits_length}
use Rattle.figures.proofs.Places.{digits_most}
use Rattle.units.specs.declared.kinds.Family.{Family}
use Rattle.words.specs.Records.{width, typed_of}
use Rattle.words.specs.declared.records.Word.{Word}
use Rattle.figures.proofs.Tests.{by_test, either}
use Rattle.words.proofs.Checks.{width_bounds}
use Rattle.measures.specs.declared.Step.{Step}
use Rattle.measures.specs.declared.Step.TheVariants.{One, Three, Four, Five, Half}
use Rattle.measures.specs.declared.Unit.{Unit}
use Rattle.measures.specs.declared.Unit.TheVariants as unit
use Rattle.measures.specs.declared.Shown.{Shown}
use Rattle.measures.specs.declared.Shown.TheVariants.{Nothing, Text, Measure, Tenths, Pair}
use Rattle.measures.specs.Measures.{index_text, power_of, places_of, unit_text, measure_text, tenth_text, pair_text, keyed_text, shown_of, shown_text}
use Rattle.measures.specs.Measures.{value_text}

step_short : (step : Step) → (digits_n (power_of step) ≤ 6) × (places_of step ≤ 5)
unfolding digits_nBy
step_short One = (omega arith, omega arith)
step_short Three = (omega arith, omega arith)
step_short Four = (omega arith, omega arith)
step_short Five = (omega arith, omega arith)
step_short Half = (omega arith, omega arith)

unit_short : (u : Unit) → length (unit_text u) ≤ 3
unit_short unit.Gon = omega arith
unit_short unit.Degree = omega arith
unit_short unit.Mil = omega arith
unit_short unit.Millimetre = omega arith
unit_short unit.Metre = omega arith
unit_short unit.Feet = omega arith
unit_short unit.Inch = omega arith
unit_short unit.Ppm = omega arith

key_short : (m : ℕ) → length (cond (eqb m 0) (codes " reads=") (codes " reads=-")) ≤ 8
key_short m = either (λ (l : List ℕ). length l ≤ 8) (eqb m 0) (codes " reads=") (codes " reads=-") (λ _. omega arith) (omega arith)

measure_short : (m n : ℕ) (step : Step) (u : Unit) → length (measure_text m n step u) ≤ 82
measure_short m n step u =
    simp (length-append, digits_length) (omega (arith, digits_most n, digits_most (n / power_of step), step_short step, unit_short u, key_short m))

tenth_short : (m n : ℕ) → length (tenth_text m n) ≤ 82
tenth_short m n = simp (length-append, digits_length) (omega (arith, digits_most n, digits_most (n / 36000), key_short m))

pair_short : (m n m' n' : ℕ) → length (pair_text m n m' n') ≤ 82
pair_short m n m' n' = simp (length-append, digits_length) (omega (arith, digits_most n, digits_most n'))

text_short : (wide : Bool) (t : List ℕ) → length (keyed_text wide t) ≤ 82
text_short wide t = omega (arith, length-take (width wide) t, width_bounds wide)

shown_short : (wide : Bool) (t : List ℕ) (shown : Shown) → length (shown_text wide t shown) ≤ 82
shown_short wide t Nothing = omega arith
shown_short wide t Text = text_short wide t
shown_short wide t (Measure n step u) = measure_short n.minus n.size step u
shown_short wide t (Tenths n) = tenth_short n.minus n.size
shown_short wide t (Pair n n') = pair_short n.minus n.size n'.minus n'.size

pub value_short : (f : Family) (wide : Bool) (w : Word) → length (value_text f wide w) ≤ 82
value_short f wide w = shown_short wide w.text (shown_of w.index (typed_of f w))

pub index_short : (i : ℕ) (info : List ℕ) → length info ≡ 4 → length (index_text i info) ≤ 12
index_short i info h =
    by_test (ltb i 100) (λ q. rw q (simp (length-append, digits_length) (omega arith)))
    (λ q. rw q (simp (length-append, digits_length) (omega (arith, length-drop 1 info))))
