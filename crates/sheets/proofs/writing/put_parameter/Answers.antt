-- `put_parameter` meets its contract: up to three digits, and LF.
use Rattle.std.proofs.Common.{◌≡◌, ◌+◌, ◌/◌, ◌%◌, ◌<◌, ◌≤◌, ℕ, [], ◌∷◌, ◌++◌, sym, arith}
use Rattle.figures.specs.Text.{codes}
use Rattle.figures.specs.Decimal.{decimal_of}
use Rattle.figures.proofs.Putting.{fills_as}
use Rattle.sheets.proofs.Linewise.{fits_as, one_digit, two_digits, three_digits}
use Rattle.sheets.proofs.writing.put_parameter.Goals as goal

module _ (n : ℕ) {ones : ℕ} (e : ones ≡ 48 + n % 10) where
  one : n < 10 → decimal_of n ++ codes "\n" ≡ ones ∷ 10 ∷ []
  one h = rw (one_digit n h, e)

  two : {tens : ℕ} → tens ≡ 48 + n / 10 % 10 → 10 ≤ n → n < 100 → decimal_of n ++ codes "\n" ≡ tens ∷ ones ∷ 10 ∷ []
  two t low h = rw (two_digits n low h, t, e)

  three : {tens hundreds : ℕ} → tens ≡ 48 + n / 10 % 10 → hundreds ≡ 48 + n / 100 % 10 → 100 ≤ n → n < 1000
      → decimal_of n ++ codes "\n" ≡ hundreds ∷ tens ∷ ones ∷ 10 ∷ []
  three t u low h = rw (three_digits n low h, u, t, e)

pub lay_text-requires : goal.lay_text-requires
lay_text-requires c = fits_as c.requires.fits (one c.args.parameter c.figure-ones.ensures c.if-parameter-lt10.true)

pub returns-then-parameter-lt10 : goal.returns-then-parameter-lt10
returns-then-parameter-lt10 c = fills_as c.lay_text.ensures (sym (one c.args.parameter c.figure-ones.ensures c.if-parameter-lt10.true))

pub lay_text-requires-then-parameter-lt100 : goal.lay_text-requires-then-parameter-lt100
lay_text-requires-then-parameter-lt100 c =
    fits_as c.requires.fits (two c.args.parameter c.figure-ones.ensures c.figure-tens.ensures (omega arith) c.if-parameter-lt100.true)

pub returns-then-parameter-lt100 : goal.returns-then-parameter-lt100
returns-then-parameter-lt100 c =
    fills_as c.lay_text-then-parameter-lt100.ensures
    (sym (two c.args.parameter c.figure-ones.ensures c.figure-tens.ensures (omega arith) c.if-parameter-lt100.true))

pub lay_text-requires-else-parameter-lt100 : goal.lay_text-requires-else-parameter-lt100
lay_text-requires-else-parameter-lt100 c =
    fits_as c.requires.fits (three c.args.parameter c.figure-ones.ensures c.figure-tens.ensures c.figure.ensures (omega arith) c.requires.small)

pub returns-else-parameter-lt100 : goal.returns-else-parameter-lt100
returns-else-parameter-lt100 c =
    fills_as c.lay_text-else-parameter-lt100.ensures
    (sym (three c.args.parameter c.figure-ones.ensures c.figure-tens.ensures c.figure.ensures (omega arith) c.requires.small))
