-- One digit is off, then one more, and at the end all.
use Rattle.std.proofs.Common.{arith}
use Rattle.figures.proofs.Places.{digits_most, off_one, off_more, off_all}
use Rattle.figures.proofs.rooms.digits_in.Goals as goal

pub loop-left-init : goal.loop-left-init
loop-left-init c = off_one c.args.n (omega arith)

pub loop-left-preserved : goal.loop-left-preserved
loop-left-preserved c = let at = c.loop-left in off_more c.args.n at.left at.k c.loop-left-test.true at.invariant

pub returns : goal.returns
returns c =
    let at = c.loop-left in
    let n = c.args.n in
    let all = off_all n at.left at.k (omega arith) at.invariant in
    (all, omega (arith, digits_most n))
