-- `mend::turns::close` meets its contract: the counts are put after what is told of the last line.
use Rattle.mend.proofs.Turning.{closes_so}
use Rattle.mend.proofs.turns.close.Goals as goal

pub returns : goal.returns
returns c =
    let a = c.args in
    let end = c.finish-turn in
    let is = end.ensures in
    closes_so a.family a.room.now a.progress a.out.now a.text.now end.result end.new.text is.0 _ _ _ is.1.0 is.1.1 end.auto.text c.tally-line.ensures
