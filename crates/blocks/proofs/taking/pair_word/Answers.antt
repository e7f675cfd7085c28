-- What `pair_word` asks of its calls: its data are digits, a sign and three digits.
use Prim.Native.Nat.{ℕ, ◌≤◌}
use mathlib.Core.Path.{◌≡◌, sym, ap, ◌∙◌}
use mathlib.Core.Bool.{true, ◌&&◌}
use mathlib.Core.List.{List}
use native.Mathlib.Omega.{arith}
use lib.ListN.{length}
use Rattle.figures.specs.Bytes.{every}
use Rattle.figures.specs.Decimal.{is_digit, number_of}
use Rattle.figures.proofs.Tests.{both}
use Rattle.units.specs.Information.{is_sign}
use Rattle.units.specs.declared.kinds.Kind.TheVariants.{Pair}
use Rattle.words.specs.Reading.{ppm_in, under_in, mm_in, data_right}
use Rattle.words.proofs.Checks.{mm_part}
use Rattle.words.proofs.Letters.{halves_in, pair_right}
use Rattle.blocks.proofs.taking.pair_word.Goals as goal

parts : (d : List ℕ) → 4 ≤ length d → data_right Pair d ≡ true
    → (every is_digit (ppm_in d) ≡ true) × (is_sign (under_in d) ≡ true) × (every is_digit (mm_in d) ≡ true)
parts d h e =
    let (ppm, rest) = both (every is_digit (ppm_in d)) (is_sign (under_in d) && every is_digit (mm_in d)) (sym (pair_right d h) ∙ e) in
    let (under, mm) = both (is_sign (under_in d)) (every is_digit (mm_in d)) rest in
    (ppm, under, mm)

pub number_of-requires : goal.number_of-requires
number_of-requires c =
    let d = c.args.d.now in
    (omega (arith, (halves_in d c.requires.0).front), (parts d c.requires.0 c.requires.1.1).0)

pub minus_at-requires : goal.minus_at-requires
minus_at-requires c = (parts c.args.d.now c.requires.0 c.requires.1.1).1

pub number_of-requires-2 : goal.number_of-requires-2
number_of-requires-2 c =
    let d = c.args.d.now in
    rw (mm_part d c.requires.0) (omega (arith, (halves_in d c.requires.0).back), (parts d c.requires.0 c.requires.1.1).2)

pub returns : goal.returns
returns c =
    let d = c.args.d.now in
    let first = c.number_of.ensures.0 in
    let second = c.number_of-2.ensures.0 ∙ ap number_of (mm_part d c.requires.0) in
    rw (← first, ← c.minus_at.ensures, ← second) c.record_of.ensures
