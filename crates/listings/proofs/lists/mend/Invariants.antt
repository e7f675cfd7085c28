-- The loop of `lists::mend`: the edits so far stand at the list's start, and it is as it was from there on.
use Rattle.std.proofs.Common.{◌≡◌, take, drop}
use Rattle.listings.proofs.lists.mend.Given as goal

abbrev pub invariant-loop-i : goal.invariant-loop-i
invariant-loop-i l = (take l.i l.list ≡ take l.i l.edits) × (drop l.i l.list ≡ drop l.i l.fn.list)
