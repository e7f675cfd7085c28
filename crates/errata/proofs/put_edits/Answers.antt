-- `put_edits` meets its contract: the line of one more edit is put in each turn.
use Rattle.std.proofs.Common.{◌≡◌, length, arith}
use lib.Seq.{take-length}
use Rattle.figures.proofs.Putting.{fills_more, puts_within}
use Rattle.errata.proofs.Edits.{edits_none, edits_more}
use Rattle.errata.proofs.put_edits.Goals as goal

pub loop-e-init : goal.loop-e-init
loop-e-init c = edits_none c.args.number c.put.new.self (puts_within _ _ _ c.put.ensures.puts)

pub loop-e-preserved : goal.loop-e-preserved
loop-e-preserved c = edits_more c.args.number c.args.edits.now c.loop-e.e-index _ c.loop-e-test.true c.loop-e.invariant c.put_edit.ensures

pub returns : goal.returns
returns c =
    let end : c.loop-e.e-index ≡ length c.args.edits.now = omega arith in
    fills_more c.put.ensures (rw (end, take-length) at c.loop-e.invariant)
