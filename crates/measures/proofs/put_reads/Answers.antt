-- The key with the minus or without, and then the digits.
use Rattle.figures.proofs.Putting.{fills_more}
use Rattle.measures.proofs.put_reads.Goals as goal

pub returns : goal.returns
returns c = fills_more (rw c.reads_key.ensures at c.put.ensures) c.put_decimal.ensures
