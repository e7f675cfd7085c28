-- `put_text` meets its contract: the text up to its CR or LF, and LF.
use Prim.Native.Nat.{min}
use mathlib.Core.Path.{◌≡◌}
use native.Mathlib.Omega.{arith}
use Rattle.figures.specs.Bytes.{run_of, is_other}
use Rattle.figures.proofs.Putting.{fills_more}
use Rattle.errata.proofs.put_text.Goals as goal

pub returns : goal.returns
returns c =
    let most : c.min.result ≡ min (run_of (is_other 13) c.args.line.now) 770 = omega (arith, c.min.ensures, c.run_before.ensures.0) in
    fills_more (rw (c.run_before-2.ensures.0, most) at c.put_shown.ensures) c.put.ensures
