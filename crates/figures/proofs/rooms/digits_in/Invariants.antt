-- The loop of `digits_in`: k digits are off, and the others are those of what is left.
use Rattle.figures.proofs.Places.{Off}
use Rattle.figures.proofs.rooms.digits_in.Given as goal

abbrev pub invariant-loop-left : goal.invariant-loop-left
invariant-loop-left l = Off l.n l.left l.k

abbrev pub decreases-loop-left : goal.decreases-loop-left
decreases-loop-left l = l.left
