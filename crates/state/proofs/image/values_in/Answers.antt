-- A turn of the loop reads a row.
use Rattle.std.proofs.Common.{arith}
use Rattle.std.specs.Prelude.{None}
use Rattle.instrument.specs.Values.{values_n}
use Rattle.state.specs.Image.{kept_in}
use Rattle.state.proofs.Rows.{rows_none, read_more}
use Rattle.state.proofs.image.values_in.Goals as goal

pub loop-i-init : goal.loop-i-init
loop-i-init c = rw (rows_none kept_in 11 c.args.s.now)

pub loop-i-preserved : goal.loop-i-preserved
loop-i-preserved c =
    let at = c.loop-i in
    read_more kept_in 11 at.i values_n c.args.s.now at.value-items None c.kept_in.result (omega arith) c.kept_in.ensures at.invariant
