-- The bytes so far were taken, and the next is, or it breaks off there.
use Rattle.files.proofs.Taking.{on_err, takes_next, takes_all, breaks_within}
use Rattle.files.proofs.feeding.feed_all.Goals as goal

pub loop-b-init : goal.loop-b-init
loop-b-init g c = record { keeps = g.met.S.Sink.laws.same _; stands = c.requires; takes = g.met.S.Sink.laws.none _ }

pub loop-b-preserved : goal.loop-b-preserved
loop-b-preserved g c =
    let l = c.loop-b in
    record { keeps = g.met.S.Sink.laws.still _ _ _ l.invariant.keeps c.feed.ensures.keeps; stands = c.in_ok-feed.ensures.stands; takes = takes_next _ _ _ _ g.met.S.Sink.laws c.args.bytes.now l.b-index c.loop-b-test.true _ _ _ l.invariant.takes c.in_ok-feed.ensures.takes }

pub returns-in_err-feed-clause-breaks : goal.returns-in_err-feed-clause-breaks
returns-in_err-feed-clause-breaks g c =
    let l = c.loop-b in
    on_err _ (breaks_within _ _ _ _ g.met.S.Sink.laws c.args.bytes.now l.b-index c.loop-b-test.true _ _ _ l.invariant.takes c.in_err-feed.ensures.breaks)

pub returns-clause-takes : goal.returns-clause-takes
returns-clause-takes g c = let l = c.loop-b in takes_all _ _ _ _ g.met.S.Sink.laws c.args.bytes.now l.b-index _ _ c.loop-b-test.false l.invariant.takes

pub returns-in_err-feed-clause-keeps : goal.returns-in_err-feed-clause-keeps
returns-in_err-feed-clause-keeps g c = g.met.S.Sink.laws.still _ _ _ c.loop-b.invariant.keeps c.feed.ensures.keeps
