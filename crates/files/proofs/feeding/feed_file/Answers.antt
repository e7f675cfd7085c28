-- What was read so far was taken; what is read next goes on from there, ends it, or breaks off.
use Rattle.std.proofs.Common.{arith}
use Rattle.std.proofs.KnownBytes.{Consumes-nil}
use Rattle.files.proofs.Taking.{on_err, none_read, going_next, going_end, going_breaks, breaks_of, breaks_at_end, breaks_at_once}
use Rattle.files.proofs.feeding.feed_file.Goals as goal

pub loop-init : goal.loop-init
loop-init g c = record { keeps = g.met.S.Sink.laws.same _; stands = c.requires; going = record { file = _; read = Consumes-nil _; taken = g.met.S.Sink.laws.none _ } }

pub returns-in_err-n-clause-breaks : goal.returns-in_err-n-clause-breaks
returns-in_err-n-clause-breaks g c =
    let laws = g.met.S.Sink.laws in
    on_err _ (going_breaks _ _ _ _ laws _ _ _ _ _ c.loop.invariant.going (breaks_at_once _ _ _ _ laws _ _))

pub close-requires : goal.close-requires
close-requires g c = c.loop.invariant.stands

pub returns-then-n-eq0-clause-whole : goal.returns-then-n-eq0-clause-whole
returns-then-n-eq0-clause-whole g c =
    let read = c.in_ok-n.ensures.bytes in
    going_end _ _ _ _ g.met.S.Sink.laws _ _ _ _ _ _ c.loop.invariant.going (none_read _ _ _ _ c.if-n-eq0.true read.0) (read.1 (omega arith) (omega arith)) c.in_ok-close.ensures.ends

pub returns-in_err-close-clause-breaks : goal.returns-in_err-close-clause-breaks
returns-in_err-close-clause-breaks g c =
    let read = c.in_ok-n.ensures.bytes in
    let laws = g.met.S.Sink.laws in
    on_err _
    (going_breaks _ _ _ _ laws _ _ _ _ _ c.loop.invariant.going
    (breaks_at_end _ _ _ _ laws _ _ _ _ (none_read _ _ _ _ c.if-n-eq0.true read.0) (read.1 (omega arith) (omega arith)) c.in_err-close.ensures.breaks))

pub feed_all-requires : goal.feed_all-requires
feed_all-requires g c = c.loop.invariant.stands

pub returns-in_err-feed_all-clause-breaks : goal.returns-in_err-feed_all-clause-breaks
returns-in_err-feed_all-clause-breaks g c =
    let laws = g.met.S.Sink.laws in
    on_err _ (going_breaks _ _ _ _ laws _ _ _ _ _ c.loop.invariant.going (breaks_of _ _ _ _ laws _ _ _ _ _ c.in_ok-n.ensures.bytes.0 c.in_err-feed_all.ensures.breaks))

pub loop-preserved : goal.loop-preserved
loop-preserved g c = record {
  keeps = g.met.S.Sink.laws.still _ _ _ c.loop.invariant.keeps c.feed_all.ensures.keeps;
  stands = c.in_ok-feed_all.ensures.stands;
  going = going_next _ _ _ _ g.met.S.Sink.laws _ _ _ _ _ _ c.loop.invariant.going _ c.in_ok-n.ensures.bytes.0 c.in_ok-feed_all.ensures.takes;
}

pub returns-clause-breaks : goal.returns-clause-breaks
returns-clause-breaks g c =
    let laws = g.met.S.Sink.laws in
    going_breaks _ _ _ _ laws _ _ _ _ _ c.loop.invariant.going (breaks_at_once _ _ _ _ laws _ _)

pub returns-then-n-eq0-clause-keeps : goal.returns-then-n-eq0-clause-keeps
returns-then-n-eq0-clause-keeps g c = g.met.S.Sink.laws.still _ _ _ c.loop.invariant.keeps c.close.ensures.keeps

pub returns-in_err-close-clause-keeps : goal.returns-in_err-close-clause-keeps
returns-in_err-close-clause-keeps g c = g.met.S.Sink.laws.still _ _ _ c.loop.invariant.keeps c.close.ensures.keeps

pub returns-in_err-feed_all-clause-keeps : goal.returns-in_err-feed_all-clause-keeps
returns-in_err-feed_all-clause-keeps g c = g.met.S.Sink.laws.still _ _ _ c.loop.invariant.keeps c.feed_all.ensures.keeps
