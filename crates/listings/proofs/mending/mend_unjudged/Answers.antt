-- `mending::mend_unjudged` meets its contract: what the walk puts into the longest block's bytes is what was mended.
use Rattle.listings.proofs.Answered.{walked_most, walked_past, walked_is}
use Rattle.listings.proofs.mending.mend_unjudged.Goals as goal

pub invariant_of-result : goal.invariant_of-result
invariant_of-result c =
    let walks = c.walk-walked.ensures in
    (walked_most c.args.s.now c.walk-walked.result c.walk-walked.new.room walks, walked_past c.args.s.now c.walk-walked.result c.walk-walked.new.room walks)

pub returns : goal.returns
returns c = walked_is c.args.s.now c.walk-walked.result c.walk-walked.new.room c.walk-walked.ensures
