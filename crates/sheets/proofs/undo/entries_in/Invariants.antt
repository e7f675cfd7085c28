-- The loop's invariant of `entries_in`: the answer turns on the lines that are left and what those before them held.
use Rattle.std.proofs.Common.{◌≡◌, ◌≤◌, length, drop, replicate}
use Rattle.state.specs.Entries.{entries_n, blank_entry}
use Rattle.sheets.specs.Undo.{entry_lines}
use Rattle.sheets.specs.Loading.{entries_from}
use Rattle.sheets.proofs.Partwise.{left_of}
use Rattle.sheets.proofs.undo.entries_in.Given as goal

abbrev pub invariant-loop-i : goal.invariant-loop-i
invariant-loop-i l = record {
  within : l.to ≤ length l.sheet;
  whole : length l.entries ≡ entries_n;
  past : drop l.i l.entries ≡ drop l.i (replicate entries_n blank_entry);
  left : entries_from l.series l.count l.sheet l.start ≡ left_of (entry_lines l.series) (l.count) l.i l.to l.sheet l.entries;
}
