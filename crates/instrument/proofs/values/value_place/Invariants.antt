-- The loop's invariant: the place is that among the rows that are left.
use Rattle.std.proofs.Common.{◌≡◌, drop}
use Rattle.instrument.specs.Rows.{seek}
use Rattle.instrument.specs.Values.{stored, index_number, value_place}
use Rattle.instrument.proofs.values.value_place.Given as goal

abbrev pub invariant-loop-i : goal.invariant-loop-i
invariant-loop-i l = value_place l.index ≡ seek index_number (drop l.i stored) l.i l.index
