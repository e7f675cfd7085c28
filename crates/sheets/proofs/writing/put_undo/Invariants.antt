-- The loop's invariant of `put_undo`: the lines of the entries before the i-th are put after the count's.
use Rattle.std.proofs.Common.{take}
use Rattle.figures.specs.Rooms.{Fills}
use Rattle.state.specs.Image.{state_in}
use Rattle.sheets.specs.Lines.{lines_by}
use Rattle.sheets.specs.Undo.{entry_lines}
use Rattle.sheets.proofs.UndoWrites.{list_in}
use Rattle.sheets.proofs.writing.put_undo.Given as goal

abbrev pub invariant-loop-i : goal.invariant-loop-i
invariant-loop-i l = Fills l.initial.room (lines_by (entry_lines (state_in l.image).series) 0 (take l.i (list_in l.image))) l.room
