-- `reading::turns::close` meets its contract: the last line is put after the report.
use Rattle.reading.proofs.Turning.{closes_so}
use Rattle.reading.proofs.turns.close.Goals as goal

pub returns : goal.returns
returns c =
    let a = c.args in
    let end = c.finish-turn in
    let is = end.ensures in
    closes_so a.family a.room.now a.progress a.text.now end.result end.new.text is.0 _ _ is.1 end.auto.text c.tally.ensures
