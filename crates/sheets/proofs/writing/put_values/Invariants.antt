-- The loop's invariant of `put_values`: the lines of the values before the i-th are put.
use Rattle.std.proofs.Common.{take}
use Rattle.figures.specs.Rooms.{Fills}
use Rattle.state.specs.Image.{state_in}
use Rattle.sheets.specs.Lines.{lines_by}
use Rattle.sheets.specs.Sheet.{value_lines}
use Rattle.sheets.proofs.writing.put_values.Given as goal

abbrev pub invariant-loop-i : goal.invariant-loop-i
invariant-loop-i l = Fills l.initial.room (lines_by value_lines 0 (take l.i (state_in l.image).values)) l.room
