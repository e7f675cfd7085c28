-- The loop's invariant of `settings_in`: the answer turns on the lines that are left and what those before them held.
use Rattle.std.proofs.Common.{◌≡◌, ◌≤◌, length, drop, replicate}
use Rattle.instrument.specs.Settings.{settings_n, settings_most}
use Rattle.sheets.specs.Sheet.{setting_lines}
use Rattle.sheets.specs.Loading.{settings_in}
use Rattle.sheets.proofs.Partwise.{left_of}
use Rattle.sheets.proofs.loading.settings_in.Given as goal

abbrev pub invariant-loop-i : goal.invariant-loop-i
invariant-loop-i l = record {
  within : l.to ≤ length l.sheet;
  whole : length l.held ≡ settings_most;
  past : drop l.i l.held ≡ drop l.i (replicate settings_most 0);
  left : settings_in l.series l.sheet l.start ≡ left_of (setting_lines l.series) (settings_n l.series) l.i l.to l.sheet l.held;
}
