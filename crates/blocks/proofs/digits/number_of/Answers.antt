-- The loop in `number_of` keeps its invariant and fits, by the bounds of a digit and of a number of few digits.
use Prim.Native.Nat.{◌-◌}
use mathlib.Core.Path.{◌≡◌, sym, ◌∙◌}
use native.Mathlib.Omega.{arith}
use Rattle.figures.specs.Decimal.{number_of}
use Rattle.figures.proofs.Decimal.{number_more, number_all, number_below, few_digits, one_digit_more}
use Rattle.blocks.proofs.Fit.{digit_bounds}
use Rattle.blocks.proofs.digits.number_of.Goals as goal

pub overflow_mul-n : goal.overflow_mul-n
overflow_mul-n c =
    let at = c.loop-b in
    omega (arith, few_digits at.n at.b-index (omega arith) at.invariant.0)

pub overflow_sub-n : goal.overflow_sub-n
overflow_sub-n c = omega (arith, c.from.ensures, digit_bounds c.args.s.now c.loop-b.b-index c.requires.1 (omega arith))

pub overflow_add-n : goal.overflow_add-n
overflow_add-n c =
    let at = c.loop-b in
    let bounds = digit_bounds c.args.s.now at.b-index c.requires.1 (omega arith) in
    omega (arith, c.from.ensures, few_digits at.n at.b-index (omega arith) at.invariant.0)

pub loop-b-preserved : goal.loop-b-preserved
loop-b-preserved c =
    let at = c.loop-b in
    let s = c.args.s.now in
    let bounds = digit_bounds s at.b-index c.requires.1 (omega arith) in (
      one_digit_more at.n (c.from.result - 48) at.b-index (omega (arith, c.from.ensures)) at.invariant.0,
      at.invariant.1 ∙ rw c.from.ensures (number_more at.n s at.b-index (omega arith)),
    )

pub returns : goal.returns
returns c =
    let at = c.loop-b in
    let s = c.args.s.now in
    let is : at.n ≡ number_of s = sym (at.invariant.1 ∙ number_all at.n s at.b-index (omega arith)) in
    (is, rw is (number_below s c.requires.1))
