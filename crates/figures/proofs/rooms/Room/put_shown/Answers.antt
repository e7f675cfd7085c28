-- One byte more.
use Rattle.std.proofs.Common.{arith}
use Rattle.figures.proofs.Shown.{shown_more}
use Rattle.figures.proofs.rooms.Room.put_shown.Goals as goal

pub loop-b-preserved : goal.loop-b-preserved
loop-b-preserved c =
    shown_more c.args.text.now c.loop-b.b-index (omega arith) c.loop-b.invariant (rw c.shown_as.ensures at c.put-in-loop-b.ensures)
