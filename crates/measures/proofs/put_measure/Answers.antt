-- Its six parts come to its text.
use Rattle.figures.proofs.Putting.{fills_more}
use Rattle.measures.proofs.put_measure.Goals as goal

pub returns : goal.returns
returns c =
    fills_more c.put_count.ensures
    (fills_more (rw c.power.ensures.0 at c.put_decimal.ensures)
    (fills_more (rw c.name.ensures at c.put.ensures)
    (fills_more (rw c.power-2.ensures.0 at c.put_reads.ensures)
    (fills_more (rw (c.places.ensures.0, c.last.ensures) at c.put_part.ensures)
    (rw c.name-2.ensures at c.put-2.ensures)))))
