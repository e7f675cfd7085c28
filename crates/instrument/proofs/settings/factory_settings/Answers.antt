-- A turn of the loop is a row of the table.
use Rattle.std.proofs.Common.{length-set}
use Rattle.instrument.proofs.Ranges.{factory_more, factory_all}
use Rattle.instrument.proofs.settings.factory_settings.Goals as goal

pub loop-i-preserved : goal.loop-i-preserved
loop-i-preserved c =
    let at = c.loop-i in
    (rw length-set at.invariant.0, rw c.row_at.ensures (factory_more c.args.series at.parameter-items at.i at.invariant.0 c.loop-i-test.true at.invariant.1))

pub returns : goal.returns
returns c =
    let at = c.loop-i in
    factory_all c.args.series at.parameter-items at.i at.invariant.0 c.loop-i-test.false at.invariant.1
