-- The loop's invariant: the place is that among the rows that are left.
use Rattle.std.proofs.Common.{◌≡◌, drop}
use Rattle.instrument.specs.Rows.{seek}
use Rattle.instrument.specs.Settings.{rows_of, setting_number, setting_place}
use Rattle.instrument.proofs.settings.seek.Given as goal

abbrev pub invariant-loop-i : goal.invariant-loop-i
invariant-loop-i l = setting_place l.series l.number ≡ seek setting_number (drop l.i (rows_of l.series)) l.i l.number
