-- The loop's invariant of `settings_length`: n is the length of the lines before the i-th, with the keys and LFs of the rest.
use Rattle.std.proofs.Common.{◌≡◌, ◌≤◌, ◌+◌, ◌*◌}
use Rattle.state.specs.Image.{state_in}
use Rattle.sheets.proofs.Linewise.{size_to}
use Rattle.sheets.proofs.Writes.{own_in}
use Rattle.sheets.proofs.writing.settings_length.Given as goal

abbrev pub invariant-loop-i : goal.invariant-loop-i
invariant-loop-i l = record { long : l.n ≡ size_to (state_in l.image).series (own_in l.image) l.i; few : l.n ≤ 164 + 3 * l.i }
