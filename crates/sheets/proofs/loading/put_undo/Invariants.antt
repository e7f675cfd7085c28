-- The loop's invariant of `put_undo`: the first i entries are laid down.
use Rattle.std.proofs.Common.{◌≡◌}
use Rattle.sheets.specs.Keeping.{entries_laid}
use Rattle.sheets.proofs.loading.put_undo.Given as goal

abbrev pub invariant-loop-i : goal.invariant-loop-i
invariant-loop-i l = l.image ≡ entries_laid l.series l.entries l.i l.fn.image
