-- The loop's invariant of `run`: what is left of the input, run on the image as it is, gives what all of it gives.
use Rattle.std.proofs.Common.{◌≡◌, ◌≤◌, ◌-◌, length, drop}
use Rattle.pieces.specs.Pieces.{pieces}
use Rattle.sheets.specs.Keeping.{run_by}
use Rattle.sheets.proofs.playing.run.Given as goal

abbrev pub invariant-loop-at : goal.invariant-loop-at
invariant-loop-at l = record {
  within : l.at ≤ length l.input;
  left : run_by (pieces l.input) l.fn.image ≡ run_by (pieces (drop l.at l.input)) l.image;
}

abbrev pub decreases-loop-at : goal.decreases-loop-at
decreases-loop-at l = length l.input - l.at
