-- The loop's invariant of `values_length`: n is the length of the lines before the i-th.
use Prim.Native.Nat.{◌*◌, ◌≤◌}
use mathlib.Core.Path.{◌≡◌}
use lib.ListN.{length, take}
use Rattle.state.specs.Image.{state_in}
use Rattle.sheets.specs.Lines.{lines_by}
use Rattle.sheets.specs.Sheet.{value_lines}
use Rattle.sheets.proofs.writing.values_length.Given as goal

abbrev pub invariant-loop-i : goal.invariant-loop-i
invariant-loop-i l = (l.n ≡ length (lines_by value_lines 0 (take l.i (state_in l.image).values))) × (l.n ≤ 20 * l.i)
