-- A number that at most fifteen digits say has room for one more.
use Rattle.std.proofs.Common.{◌≡◌, true, arith}
use mathlib.Core.Path.{◌∙◌}
use lib.ListN.{get_or}
use Rattle.figures.specs.Decimal.{is_digit}
use Rattle.figures.proofs.Bytes.{within_bounds, every_more}
use Rattle.figures.proofs.Decimal.{number_more, few_digits, one_digit_more}
use Rattle.figures.proofs.number.Goals as goal

pub overflow_mul-n : goal.overflow_mul-n
overflow_mul-n c = let at = c.loop-b in omega (arith, few_digits at.n at.b-index (omega arith) at.invariant.small)

pub overflow_add-n : goal.overflow_add-n
overflow_add-n c =
    let at = c.loop-b in
    omega (arith, few_digits at.n at.b-index (omega arith) at.invariant.small)

pub loop-b-preserved : goal.loop-b-preserved
loop-b-preserved c =
    let at = c.loop-b in
    let s = c.args.s.now in
    let digit : is_digit (get_or s at.b-index 0) ≡ true = grind arith in
    let bounds = within_bounds 48 57 (get_or s at.b-index 0) digit in
    record {
      few = at.invariant.few;
      small = one_digit_more at.n c.from.result at.b-index (omega (arith, c.from.ensures)) at.invariant.small;
      says = at.invariant.says ∙ rw c.from.ensures (number_more at.n s at.b-index c.loop-b-test.true);
      are = at.invariant.are ∙ every_more is_digit s at.b-index c.loop-b-test.true digit;
    }
