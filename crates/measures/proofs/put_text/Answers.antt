-- The key, and then 16 characters or 8.
use Rattle.figures.proofs.Putting.{fills_more}
use Rattle.measures.proofs.put_text.Goals as goal

pub returns : goal.returns
returns c = fills_more c.put.ensures (rw c.width_of.ensures at c.put-2.ensures)
