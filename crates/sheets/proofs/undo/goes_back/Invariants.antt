-- The loop's invariant of `goes_back`: the answer turns on the entries that are left and the values that are put then.
use Rattle.std.proofs.Common.{◌≡◌, length}
use Rattle.instrument.specs.Values.{values_n}
use Rattle.state.specs.Keeping.{puts_of, goes_back}
use Rattle.sheets.proofs.undo.goes_back.Given as goal

abbrev pub invariant-loop-n : goal.invariant-loop-n
invariant-loop-n l = record {
  whole : length l.puts ≡ values_n;
  left : goes_back l.count (puts_of l.fn.values) l.entries ≡ goes_back l.n l.puts l.entries;
}
