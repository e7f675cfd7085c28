-- What the file's end hands over is written.
use Rattle.files.proofs.Taking.{on_ok_too, on_err}
use Rattle.reading.proofs.Turning.{reached_kept, end_due}
use Rattle.reading.proofs.Laws.{end_written, end_started}
use Rattle.reading.proofs.PrinterSink.close.Goals as goal

pub close-n-requires : goal.close-n-requires
close-n-requires g c = let s = c.args.self.now in reached_kept s.family s.room s.progress s.text c.requires

pub print-requires : goal.print-requires
print-requires g c = let s = c.args.self.now in end_due s.family s.room s.progress s.text c.requires _ _ c.close-n.ensures

pub returns-clause-ends : goal.returns-clause-ends
returns-clause-ends g c =
    let s = c.args.self.now in
    on_ok_too c.print.result (end_written s.family s.room s.progress s.text _ _ 0 0 _ _ c.close-n.ensures) c.print.ensures.whole

pub returns-clause-breaks : goal.returns-clause-breaks
returns-clause-breaks g c =
    let s = c.args.self.now in
    on_err c.print.result (end_started s.family s.room s.progress s.text _ _ 0 0 _ _ c.close-n.ensures c.print.ensures.start)
