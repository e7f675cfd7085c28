-- Its two fields.
use Rattle.figures.proofs.Putting.{fills_more}
use Rattle.reports.proofs.piece.put_head.Goals as goal

pub returns : goal.returns
returns c = fills_more c.put_field.ensures c.put_field-2.ensures
