-- The first CR, and an LF or none after it.
use Rattle.std.proofs.Common.{arith}
use Rattle.pieces.proofs.Pieces.{cut_fits, cut_found}
use Rattle.pieces.proofs.cut.Goals as goal

pub returns-then-starts : goal.returns-then-starts
returns-then-starts c =
    let s = c.args.s.now in
    let is = rw c.if-starts.true at (cut_found s c.run_before-cr.ensures.0 (omega arith) c.starts.ensures) in
    omega (arith, cut_fits s)

pub returns-else-starts : goal.returns-else-starts
returns-else-starts c =
    let s = c.args.s.now in
    let is = rw c.if-starts.false at (cut_found s c.run_before-cr.ensures.0 (omega arith) c.starts.ensures) in
    omega (arith, cut_fits s)
