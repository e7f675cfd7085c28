-- Damaged words and the byte that each tells, by computing.
use Prim.Native.Nat.{ℕ}
use Prim.Native.String.{String}
use mathlib.Core.Path.{◌≡◌, refl}
use mathlib.Core.Bool.{false}
use Rattle.figures.specs.Bytes.{among, every, run_of}
use Rattle.figures.specs.Text.{codes}
use Rattle.units.specs.declared.kinds.Family.{Family}
use Rattle.units.specs.declared.kinds.Family.TheVariants.{Station, Level}
use Rattle.words.specs.Reading.{word_of, judged_wrong, judged_in}
use Rattle.words.specs.declared.reading.Fault.{Fault}
use Rattle.words.specs.declared.reading.Fault.TheVariants.{Index, Information, Sign, Characters, Separator}

abbrev Tells : Family → String → Fault → ℕ → Type 0
Tells f text x at = judged_in (word_of f false (codes text)) ≡ judged_wrong x at

pub ones : Tells Station "8A..10+00005320 " Index 1
ones = refl

-- a level's index of three digits is none of a total station's, which has a dot at position 3
pub third : Tells Station "331106+00010198 " Information 2
unfolding among
third = refl

pub unit : Tells Level "331.0x+00010198 " Information 5
unfolding among
unit = refl

-- text has no minus
pub sign : Tells Station "110001-000000A1 " Sign 6
unfolding among
sign = refl

pub letter : Tells Station "83..10+000A5320 " Characters 10
unfolding among every run_of
letter = refl

pub ppm : Tells Station "51..1.+00x9+000 " Characters 9
unfolding among every run_of
ppm = refl

pub under : Tells Station "51..1.+0009x000 " Characters 11
unfolding among every run_of
under = refl

pub mm : Tells Station "51..1.+0009+0x0 " Characters 13
unfolding among every run_of
mm = refl

pub end : Tells Station "83..10+00005320," Separator 15
unfolding among every
end = refl
