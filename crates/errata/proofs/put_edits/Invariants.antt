-- The loop of `put_edits`: the lines of the edits so far are put.
use lib.ListN.{take}
use Rattle.figures.specs.Rooms.{Fills}
use Rattle.errata.specs.Errata.{edits_text}
use Rattle.errata.proofs.put_edits.Given as goal

abbrev pub invariant-loop-e : goal.invariant-loop-e
invariant-loop-e l = Fills l.initial.room (edits_text l.number (take l.e-index l.edits)) l.room
