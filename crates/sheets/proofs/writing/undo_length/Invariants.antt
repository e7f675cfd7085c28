-- The loop's invariant of `undo_length`: n is the length of the count's line and of the lines before the i-th.
use Rattle.std.proofs.Common.{◌≡◌, ◌≤◌, ◌+◌, ◌*◌, length, take}
use Rattle.state.specs.Image.{state_in}
use Rattle.sheets.specs.Lines.{lines_by}
use Rattle.sheets.specs.Undo.{count_line, entry_lines}
use Rattle.sheets.proofs.UndoWrites.{list_in}
use Rattle.sheets.proofs.writing.undo_length.Given as goal

abbrev pub invariant-loop-i : goal.invariant-loop-i
invariant-loop-i l = record {
  long : l.n ≡ length (count_line (length (list_in l.image))) + length (lines_by (entry_lines (state_in l.image).series) 0 (take l.i (list_in l.image)));
  few : l.n ≤ 9 + 22 * l.i;
}
