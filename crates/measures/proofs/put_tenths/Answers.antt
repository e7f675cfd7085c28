-- Its six parts come to its text.
use Rattle.figures.proofs.Putting.{fills_more}
use Rattle.measures.proofs.put_tenths.Goals as goal

pub returns : goal.returns
returns c =
    fills_more c.put_count.ensures (fills_more c.put.ensures (fills_more c.put_reads.ensures (fills_more c.put_part.ensures (fills_more c.put_part-2.ensures c.put_part-3.ensures))))
