-- The invariant of the loop in `number_of`: n and the bytes that are left say what all of them say, and n has no more digits than were read.
use Prim.Native.Nat.{◌<◌, ◌^◌}
use mathlib.Core.Path.{◌≡◌}
use lib.ListN.{drop}
use Rattle.figures.specs.Decimal.{number_from, number_of}
use Rattle.blocks.proofs.digits.number_of.Given as goal

abbrev pub invariant-loop-b : goal.invariant-loop-b
invariant-loop-b l = (l.n < 10 ^ l.b-index) × (number_of l.s ≡ number_from l.n (drop l.b-index l.s))
