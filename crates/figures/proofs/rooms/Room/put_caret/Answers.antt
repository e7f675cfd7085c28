-- One blank more, and the caret after the last.
use Rattle.std.proofs.Common.{◌≡◌, arith}
use Rattle.figures.proofs.Putting.{fills_more}
use Rattle.figures.proofs.Shown.{blanks_more}
use Rattle.figures.proofs.rooms.Room.put_caret.Goals as goal

pub loop-preserved : goal.loop-preserved
loop-preserved c = blanks_more c.loop.counter c.loop.invariant c.put-in-loop.ensures

pub returns : goal.returns
returns c =
    let end : c.loop.counter ≡ c.args.place = omega arith in
    fills_more (fills_more c.put.ensures (rw end at c.loop.invariant)) c.put-2.ensures
