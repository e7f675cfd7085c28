-- The key, the sign, and then the digits.
use Rattle.figures.proofs.Putting.{fills_more}
use Rattle.measures.proofs.put_whole.Goals as goal

pub returns : goal.returns
returns c = fills_more c.put.ensures (fills_more (rw c.sign_byte.ensures at c.put-2.ensures) c.put_decimal.ensures)
