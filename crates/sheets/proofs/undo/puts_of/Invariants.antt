-- The loop's invariant of `puts_of`: the flags before the i-th are set.
use Rattle.std.proofs.Common.{◌≡◌, length, take}
use Rattle.instrument.specs.Values.{values_n}
use Rattle.state.specs.Keeping.{puts_of}
use Rattle.sheets.proofs.undo.puts_of.Given as goal

abbrev pub invariant-loop-i : goal.invariant-loop-i
invariant-loop-i l = record {
  whole : length l.puts ≡ values_n;
  set : take l.i l.puts ≡ take l.i (puts_of l.values);
}
