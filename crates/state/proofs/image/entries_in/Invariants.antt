-- The loop's invariant: the rows before i are read, and the others blank.
use Rattle.std.proofs.Common.{◌≡◌, ◌-◌, ◌++◌, replicate}
use Rattle.state.specs.Entries.{entries_n, blank_entry}
use Rattle.state.specs.Image.{rows_in, entry_in}
use Rattle.state.proofs.image.entries_in.Given as goal

abbrev pub invariant-loop-i : goal.invariant-loop-i
invariant-loop-i l = l.undo ≡ rows_in entry_in 14 l.i l.s ++ replicate (entries_n - l.i) blank_entry
