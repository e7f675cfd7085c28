-- The loop of `put_number`: the digits of what is left, before those that are written, are the digits asked for.
use Rattle.std.proofs.Common.{◌≡◌, ◌++◌, length, drop}
use Rattle.figures.specs.Decimal.{digits_of}
use Rattle.figures.proofs.put_number.Given as goal

abbrev pub invariant-loop-i : goal.invariant-loop-i
invariant-loop-i l = digits_of (length l.fn.out) l.n ≡ digits_of l.i l.left ++ drop l.i l.out
