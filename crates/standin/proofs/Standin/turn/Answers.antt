-- A reply is within its room.
use Rattle.std.proofs.Common.{replicate, slice_index, sym, ap, arith, length-take-le}
use Rattle.lines.specs.Keeping.{reply_most}
use Rattle.port.specs.declared.Turn.{Turn}
use Rattle.port.proofs.Hearing.{heard_fits}
use Rattle.standin.proofs.Standin.turn.Goals as goal

pub slice_bounds-room-end : goal.slice_bounds-room-end
slice_bounds-room-end g c =
    let heard = ap (λ (t : Turn). t.told.count) c.hear-turn.ensures.0 in
    let within = heard_fits c.args.image.now c.args.played.port (slice_index c.read.new.buf 0) (replicate reply_most 0) in
    omega (arith, heard, within, c.hear-turn.auto.room)

pub slice_bounds-reply-end : goal.slice_bounds-reply-end
slice_bounds-reply-end g c =
    let heard = ap (λ (t : Turn). t.told.count) c.hear-turn.ensures.0 in
    let within = heard_fits c.args.image.now c.args.played.port (slice_index c.read.new.buf 0) (replicate reply_most 0) in
    sym (length-take-le _ _ (omega (arith, heard, within, c.hear-turn.auto.room)))
