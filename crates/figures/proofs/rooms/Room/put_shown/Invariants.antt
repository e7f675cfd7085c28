-- The loop of `put_shown`: the bytes so far are put as they are shown.
use Rattle.std.proofs.Common.{map, take}
use Rattle.figures.specs.Rooms.{Fills}
use Rattle.figures.specs.Pointing.{shown}
use Rattle.figures.proofs.rooms.Room.put_shown.Given as goal

abbrev pub invariant-loop-b : goal.invariant-loop-b
invariant-loop-b l = Fills l.initial.self (map shown (take l.b-index l.text)) l.self
