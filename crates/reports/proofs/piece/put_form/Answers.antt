-- The width, and then the end.
use Rattle.figures.proofs.Putting.{fills_more}
use Rattle.reports.proofs.piece.put_form.Goals as goal

pub returns : goal.returns
returns c = fills_more (rw c.width_of.ensures at c.put_field.ensures) (rw c.end_text.ensures at c.put.ensures)
