-- The loop's invariant: the parameters up to i are those of the rows.
use Rattle.std.proofs.Common.{◌≡◌, length, take}
use Rattle.instrument.specs.Settings.{factory_settings, settings_most}
use Rattle.instrument.proofs.settings.factory_settings.Given as goal

abbrev pub invariant-loop-i : goal.invariant-loop-i
invariant-loop-i l = (length l.parameter-items ≡ settings_most) × (take l.i l.parameter-items ≡ take l.i (factory_settings l.series))
