-- The loop's invariant of `values_in`: the answer turns on the lines that are left and what those before them held.
use Rattle.std.proofs.Common.{◌≡◌, ◌≤◌, length}
use Rattle.instrument.specs.Values.{values_n}
use Rattle.sheets.specs.Sheet.{value_lines}
use Rattle.sheets.specs.Loading.{values_from}
use Rattle.sheets.proofs.Partwise.{left_of}
use Rattle.sheets.proofs.loading.values_in.Given as goal

abbrev pub invariant-loop-i : goal.invariant-loop-i
invariant-loop-i l = record {
  within : l.to ≤ length l.sheet;
  whole : length l.held ≡ values_n;
  left : values_from l.sheet l.start ≡ left_of (value_lines) (values_n) l.i l.to l.sheet l.held;
}
