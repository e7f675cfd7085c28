-- Its two fields, and the end.
use Rattle.figures.proofs.Putting.{fills_more}
use Rattle.reports.proofs.piece.put_line.Goals as goal

pub returns : goal.returns
returns c = fills_more c.put_field.ensures (fills_more c.put_field-2.ensures c.put.ensures)
