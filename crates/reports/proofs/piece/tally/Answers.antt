-- Its two parts.
use Rattle.std.proofs.Common.{rules}
use Rattle.figures.proofs.Putting.{fills_more, fills_new}
use Rattle.reports.proofs.piece.tally.Goals as goal

pub returns : goal.returns
returns c =
    let new = c.new-out.ensures in
    let all = fills_new new.bytes new.at (fills_more c.put_field.ensures c.put_line.ensures) in
    search rules
