-- The loop's invariant of `put_settings`: the lines of the settings before the i-th are put.
use Rattle.std.proofs.Common.{take}
use Rattle.figures.specs.Rooms.{Fills}
use Rattle.state.specs.Image.{state_in}
use Rattle.sheets.specs.Lines.{lines_by}
use Rattle.sheets.specs.Sheet.{setting_lines}
use Rattle.sheets.proofs.Writes.{own_in}
use Rattle.sheets.proofs.writing.put_settings.Given as goal

abbrev pub invariant-loop-i : goal.invariant-loop-i
invariant-loop-i l = Fills l.initial.room (lines_by (setting_lines (state_in l.image).series) 0 (take l.i (own_in l.image))) l.room
