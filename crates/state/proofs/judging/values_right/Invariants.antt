-- The loop's invariant: the answer turns on the values that are left.
use Rattle.std.proofs.Common.{◌≡◌, ◌-◌, ◌*◌, drop}
use Rattle.instrument.specs.Values.{values_n}
use Rattle.state.specs.Image.{value_n}
use Rattle.state.specs.Keeping.{values_lie}
use Rattle.state.proofs.judging.values_right.Given as goal

abbrev pub invariant-loop-i : goal.invariant-loop-i
invariant-loop-i l = values_lie 0 values_n l.s ≡ values_lie l.i (values_n - l.i) (drop (l.i * value_n) l.s)
