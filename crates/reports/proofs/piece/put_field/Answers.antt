-- The key, and then the number.
use Rattle.figures.proofs.Putting.{fills_more}
use Rattle.reports.proofs.piece.put_field.Goals as goal

pub returns : goal.returns
returns c = fills_more c.put.ensures c.put_decimal.ensures
