-- Its name, its value, and the end.
use Rattle.figures.proofs.Putting.{fills_more}
use Rattle.reports.proofs.piece.put_word.Goals as goal

pub returns : goal.returns
returns c = fills_more c.put_name.ensures (fills_more c.put_value.ensures c.put.ensures)
