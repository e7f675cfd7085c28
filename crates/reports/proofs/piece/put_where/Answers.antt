-- The text up to a CR, and no more than the most, LF, and the caret.
use Rattle.std.proofs.Common.{◌≡◌, arith}
use Prim.Native.Nat.{min}
use Rattle.figures.specs.Bytes.{run_of, is_other}
use Rattle.figures.proofs.Putting.{fills_more}
use Rattle.reports.proofs.piece.put_where.Goals as goal

pub returns : goal.returns
returns c =
    let n : c.min-n.result ≡ min (run_of (is_other 13) c.args.piece.now) 770 = omega (arith, c.min-n.ensures, c.run_before.ensures.0) in
    fills_more (rw n at c.put_shown.ensures) (fills_more c.put.ensures c.put_caret.ensures)
