-- A byte is fed, and what it hands over is written.
use Rattle.files.proofs.Taking.{on_ok, on_ok_too, on_err}
use Rattle.reading.proofs.Turning.{reached_kept, reached_next, byte_due}
use Rattle.reading.proofs.Laws.{part_byte, start_byte}
use Rattle.reading.proofs.PrinterSink.feed.Goals as goal

pub feed-count-requires : goal.feed-count-requires
feed-count-requires g c = let s = c.args.self.now in reached_kept s.family s.room s.progress s.text c.requires

pub print-requires : goal.print-requires
print-requires g c = let s = c.args.self.now in byte_due s.family s.room s.progress s.text c.requires _ _ _ _ c.feed-count.ensures

pub returns-clause-stands : goal.returns-clause-stands
returns-clause-stands g c =
    let s = c.args.self.now in
    on_ok c.print.result (reached_next s.family s.room s.progress s.text c.requires _ _ _ _ c.feed-count.ensures)

pub returns-clause-takes : goal.returns-clause-takes
returns-clause-takes g c =
    let s = c.args.self.now in
    on_ok_too c.print.result (part_byte s.family s.room s.progress s.text c.args.b _ _ _ 0 0 _ _ c.feed-count.ensures) c.print.ensures.whole

pub returns-clause-breaks : goal.returns-clause-breaks
returns-clause-breaks g c =
    let s = c.args.self.now in
    on_err c.print.result (start_byte s.family s.room s.progress s.text c.args.b _ _ _ 0 0 _ _ c.feed-count.ensures c.print.ensures.start)
