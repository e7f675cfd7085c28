-- What was read so far was taken.
use Rattle.files.proofs.Taking.{Going}
use Rattle.files.proofs.feeding.feed_file.Given as goal

abbrev pub invariant-loop : goal.invariant-loop
invariant-loop g l = record { keeps : g.S.Sink.Keeps l.initial.sink l.sink; stands : g.S.Sink.Stands l.sink; going : Going g.S.Sink.Takes (g.R.Read.remaining l.initial.reader) (g.R.Read.remaining l.reader) l.initial.sink l.sink }
