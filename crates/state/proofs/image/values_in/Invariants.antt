-- The loop's invariant: the rows before i are read, and the others blank.
use Rattle.std.proofs.Common.{◌≡◌, ◌-◌, ◌++◌, replicate}
use Rattle.std.specs.Prelude.{None}
use Rattle.instrument.specs.Values.{values_n}
use Rattle.state.specs.Image.{rows_in, kept_in}
use Rattle.state.proofs.image.values_in.Given as goal

abbrev pub invariant-loop-i : goal.invariant-loop-i
invariant-loop-i l = l.value-items ≡ rows_in kept_in 11 l.i l.s ++ replicate (values_n - l.i) None
