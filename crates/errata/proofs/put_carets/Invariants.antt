-- The loop of `put_carets`: the carets of the edits so far are put.
use Rattle.errata.proofs.Carets.{Marked}
use Rattle.errata.proofs.put_carets.Given as goal

abbrev pub invariant-loop-e : goal.invariant-loop-e
invariant-loop-e l = Marked l.initial.room l.edits l.e-index l.done l.room
