-- The form, and then how many words and bytes.
use Rattle.figures.proofs.Putting.{fills_more}
use Rattle.reports.proofs.piece.put_reading.Goals as goal

pub returns : goal.returns
returns c = fills_more c.put_form.ensures c.put_line.ensures
