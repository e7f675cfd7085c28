-- The loop's invariant: the answer turns on the entries that are left and the values that are put then.
use Rattle.std.proofs.Common.{◌≡◌, length}
use Rattle.instrument.specs.Values.{values_n}
use Rattle.state.specs.Keeping.{entries_lie}
use Rattle.state.proofs.judging.entries_right.Given as goal

abbrev pub invariant-loop-n : goal.invariant-loop-n
invariant-loop-n l = (length l.puts ≡ values_n) × (entries_lie l.series l.count l.initial.puts l.s ≡ entries_lie l.series l.n l.puts l.s)
