-- The bytes so far were taken.
use Rattle.std.proofs.Common.{take}
use Rattle.files.proofs.feeding.feed_all.Given as goal

abbrev pub invariant-loop-b : goal.invariant-loop-b
invariant-loop-b g l = record { keeps : g.S.Sink.Keeps l.initial.sink l.sink; stands : g.S.Sink.Stands l.sink; takes : g.S.Sink.Takes l.initial.sink (take l.b-index l.bytes) l.sink }
