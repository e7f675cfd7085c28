-- The number, the key, and then index and information.
use Rattle.figures.proofs.Putting.{fills_more}
use Rattle.reports.proofs.piece.put_name.Goals as goal

pub returns : goal.returns
returns c = fills_more c.put_field.ensures (fills_more c.put.ensures c.put_index.ensures)
