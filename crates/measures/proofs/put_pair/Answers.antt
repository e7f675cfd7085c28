-- Its two parts.
use Rattle.figures.proofs.Putting.{fills_more}
use Rattle.measures.proofs.put_pair.Goals as goal

pub returns : goal.returns
returns c = fills_more c.put_whole.ensures c.put_whole-2.ensures
