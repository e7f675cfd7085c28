-- The count, and what comes before its step.
use Rattle.figures.proofs.Putting.{fills_more}
use Rattle.measures.proofs.put_count.Goals as goal

pub returns : goal.returns
returns c = fills_more c.put_whole.ensures c.put.ensures
