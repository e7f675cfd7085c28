-- `walking::put_word` meets its contract: three parts where a dot lacks, which are put one after the other.
use Rattle.figures.proofs.Putting.{fills_more}
use Rattle.listings.proofs.walking.put_word.Goals as goal

pub returns-then-lacks : goal.returns-then-lacks
returns-then-lacks c =
    let all = fills_more c.put.ensures (fills_more c.put-then-lacks.ensures c.put-then-lacks-2.ensures) in
    rw c.if-lacks.true (rw (c.split_at.ensures.front, c.split_at.ensures.back) at all)
