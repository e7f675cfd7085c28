-- The loop of `all_within`: every byte is so where those that were read are and the rest are.
use Rattle.std.proofs.Common.{◌≡◌, drop}
use mathlib.Core.Bool.{◌&&◌}
use Rattle.figures.specs.Bytes.{within, every}
use Rattle.figures.proofs.all_within.Given as goal

abbrev pub invariant-loop-b : goal.invariant-loop-b
invariant-loop-b l = every (within l.low l.high) l.s ≡ l.all && every (within l.low l.high) (drop l.b-index l.s)
