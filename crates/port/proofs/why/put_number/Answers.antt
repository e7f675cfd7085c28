-- The four parts of the number's text.
use Rattle.figures.proofs.Putting.{fills_more}
use Rattle.port.proofs.why.put_number.Goals as goal

pub returns : goal.returns
returns c = fills_more c.put.ensures (fills_more c.put_decimal.ensures (fills_more c.put-2.ensures (rw c.verdict_number.ensures at c.put_decimal-2.ensures)))
