-- What the calls of `number_of` require, and the number that wide data say.
use mathlib.Core.Path.{sym}
use native.Mathlib.Omega.{arith}
use Rattle.figures.specs.Decimal.{is_digit}
use Rattle.figures.proofs.Bytes.{length_mid}
use Rattle.blocks.proofs.Fit.{data_long, wide_long, first_on, second_on, wide_number}
use Rattle.blocks.proofs.digits.number_at.Goals as goal

pub number_of-first-requires : goal.number_of-first-requires
number_of-first-requires c =
    let long = data_long c.args.wide c.requires.0 in
    (omega (arith, length_mid 7 8 c.args.s.now (omega arith)), first_on is_digit c.args.wide c.args.s.now c.requires.1)

pub number_of-requires : goal.number_of-requires
number_of-requires c =
    let long = wide_long c.if-wide.true c.requires.0 in
    (omega (arith, length_mid 15 8 c.args.s.now (omega arith)), second_on is_digit c.args.s.now c.if-wide.true c.requires.1)

pub returns-then-wide : goal.returns-then-wide
returns-then-wide c =
    let long = wide_long c.if-wide.true c.requires.0 in
    rw (c.if-wide.true, c.number_of-first.ensures.0, c.number_of.ensures.0) (sym (wide_number c.args.s.now long))
