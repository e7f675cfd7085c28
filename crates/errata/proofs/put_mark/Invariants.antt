-- The loop of `put_mark`: the blanks so far are put.
use Prim.Native.Nat.{◌-◌}
use lib.ListN.{replicate}
use Rattle.figures.specs.Rooms.{Fills}
use Rattle.errata.proofs.put_mark.Given as goal

abbrev pub invariant-loop : goal.invariant-loop
invariant-loop l = Fills l.initial.room (replicate (l.counter - l.done) 32) l.room
