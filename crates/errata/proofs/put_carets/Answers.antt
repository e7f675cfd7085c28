-- `put_carets` meets its contract: the caret of one more edit is put in each turn, and after them LF.
use mathlib.Core.Path.{refl}
use native.Mathlib.Omega.{arith}
use Rattle.figures.proofs.Putting.{fills_more, puts_within}
use Rattle.errata.proofs.Carets.{marked_none, marked_more, marked_all}
use Rattle.errata.proofs.put_carets.Goals as goal

pub loop-e-init : goal.loop-e-init
loop-e-init c = marked_none c.args.edits.now c.put.new.self (puts_within _ _ _ c.put.ensures.puts)

pub loop-e-preserved : goal.loop-e-preserved
loop-e-preserved c =
    let l = c.loop-e in
    marked_more c.args.edits.now l.e-index _ l.done _ c.max-done.result c.loop-e-test.true l.invariant refl c.put_mark.ensures c.max-done.ensures

pub returns : goal.returns
returns c = fills_more c.put.ensures (marked_all c.args.edits.now c.loop-e.e-index c.loop-e.done (omega arith) c.loop-e.invariant c.put-2.ensures)
