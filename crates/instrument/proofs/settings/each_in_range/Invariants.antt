-- The loop's invariant: the answer turns on the rows and parameters that are left.
use Rattle.std.proofs.Common.{◌≡◌, drop}
use Rattle.instrument.specs.Settings.{rows_of, in_ranges}
use Rattle.instrument.proofs.settings.each_in_range.Given as goal

abbrev pub invariant-loop-i : goal.invariant-loop-i
invariant-loop-i l = in_ranges (rows_of l.series) l.s ≡ in_ranges (drop l.i (rows_of l.series)) (drop l.i l.s)
