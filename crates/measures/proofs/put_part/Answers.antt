-- The mark, and then the digits.
use Rattle.figures.proofs.Putting.{fills_more}
use Rattle.measures.proofs.put_part.Goals as goal

pub returns : goal.returns
returns c = fills_more c.put.ensures c.put_digits.ensures
