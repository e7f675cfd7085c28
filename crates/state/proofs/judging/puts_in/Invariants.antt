-- The loop's invariant: the flags before i are set.
use Rattle.std.proofs.Common.{◌≡◌, length, take}
use Rattle.instrument.specs.Values.{values_n}
use Rattle.state.specs.Image.{values_in}
use Rattle.state.specs.Keeping.{puts_of}
use Rattle.state.proofs.judging.puts_in.Given as goal

abbrev pub invariant-loop-i : goal.invariant-loop-i
invariant-loop-i l = (length l.put-items ≡ values_n) × (take l.i l.put-items ≡ take l.i (puts_of (values_in l.s)))
