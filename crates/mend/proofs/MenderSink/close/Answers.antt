-- What the listing's end hands over is written.
use Rattle.files.proofs.Taking.{on_ok_too, on_err}
use Rattle.mend.proofs.Turning.{reached_kept, end_due}
use Rattle.mend.proofs.Laws.{end_written, end_started}
use Rattle.mend.proofs.MenderSink.close.Goals as goal

pub close-last-requires : goal.close-last-requires
close-last-requires g c = let s = c.args.self.now in reached_kept s.family s.room s.progress s.out s.text c.requires

pub print-requires : goal.print-requires
print-requires g c = let s = c.args.self.now in end_due s.family s.room s.progress s.out s.text c.requires _ _ _ c.close-last.ensures

pub returns-clause-ends : goal.returns-clause-ends
returns-clause-ends g c =
    let s = c.args.self.now in
    on_ok_too c.print.result (end_written s.family s.room s.progress s.out s.text _ _ _ 0 0 0 0 _ _ _ _ c.close-last.ensures) c.print.ensures.whole

pub returns-clause-breaks : goal.returns-clause-breaks
returns-clause-breaks g c =
    let s = c.args.self.now in
    on_err c.print.result (end_started s.family s.room s.progress s.out s.text _ _ _ 0 0 0 0 _ _ _ _ c.close-last.ensures c.print.ensures.start)
