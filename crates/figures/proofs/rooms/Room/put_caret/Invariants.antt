-- The loop of `put_caret`: so many blanks are put.
use lib.ListN.{replicate}
use Rattle.figures.specs.Rooms.{Fills}
use Rattle.figures.proofs.rooms.Room.put_caret.Given as goal

abbrev pub invariant-loop : goal.invariant-loop
invariant-loop l = Fills l.initial.self (replicate l.counter 32) l.self
