-- The reply fits the room and the order is done, or nothing is written.
use Rattle.std.proofs.Common.{◌≡◌, ℕ, ◌+◌, List, ◌++◌, length, length-append, arith, refl}
use Rattle.std.specs.Prelude.{Ok}
use Rattle.commands.specs.declared.shapes.Order.{Order}
use Rattle.figures.proofs.Bytes.{end_long}
use Rattle.state.specs.Image.{state_in}
use Rattle.state.specs.declared.entries.State.{State}
use Rattle.state.proofs.Images.{image_of_lem}
use Rattle.lines.specs.Verdicts.{accepted}
use Rattle.lines.specs.Orders.{deed_of, done_of}
use Rattle.lines.specs.Replies.{ends_lf, answers_wide, reply_end, body_of}
use Rattle.lines.proofs.Replying.{body_most_lem, body_short}
use Rattle.lines.proofs.Calling.{ends_short, ends_fits}
use Rattle.lines.proofs.machine.accept.Goals as goal

-- how long the reply is found to be
long : {m e : ℕ} (s : State) (text : List ℕ) (o : Order) → m ≡ length (body_of s text (Ok o)) → e ≡ length (reply_end s) → m + e ≡ length (body_of s text (Ok o) ++ reply_end s)
long s text o body end = omega (arith, body, end, length-append (body_of s text (Ok o)) (reply_end s))

pub overflow_add-count : goal.overflow_add-count
overflow_add-count c =
    let s = state_in c.args.image.now in
    let short = body_short s c.args.text.now (Ok c.args.order) c.requires.1.0 c.requires.1.1.0 c.requires.1.1.1 in
    omega (arith, c.body_length.ensures, c.end_length.ensures, end_long (ends_lf s), short, body_most_lem (answers_wide s))

pub returns-then-room-count : goal.returns-then-room-count
returns-then-room-count c =
    let a = c.args in
    let s = state_in a.image.now in
    let all = long s a.text.now a.order c.body_length.ensures c.end_length.ensures in
    ends_short s accepted (body_of s a.text.now (Ok a.order) ++ reply_end s) (done_of s (deed_of a.series a.text.now (Ok a.order))) a.room.now _
    a.image.now (image_of_lem a.image.now c.requires.0.is).1 (omega (arith, c.if-room-count.true, all)) refl

pub returns : goal.returns
returns c =
    let a = c.args in
    let s = state_in a.image.now in
    let all = long s a.text.now a.order c.body_length.ensures c.end_length.ensures in
    ends_fits s accepted (body_of s a.text.now (Ok a.order) ++ reply_end s) (done_of s (deed_of a.series a.text.now (Ok a.order))) a.room.now _
    _ _ (c.body_length.result + c.end_length.result) c.alter.ensures all c.if-room-count.false refl c.put_reply.ensures
