-- A turn of the loop reads the first byte of a value.
use Rattle.std.proofs.Common.{◌≡◌, ◌*◌, ◌∙◌, arith, ap, get_or, take, drop, length-set, add-zero, eqb}
use Rattle.std.specs.Prelude.{None}
use Rattle.std.proofs.Math.Seq.{get_or-drop, get_or-take}
use Rattle.instrument.specs.Values.{values_n, is_put}
use Rattle.instrument.proofs.Ranges.{map_more, map_all}
use Rattle.state.specs.Entries.{value_held}
use Rattle.state.specs.Image.{value_n, kept_in, values_in}
use Rattle.state.proofs.Rows.{row_at_lem, rows_long}
use Rattle.state.proofs.Held.{put_kept_lem}
use Rattle.state.proofs.judging.puts_in.Goals as goal

pub loop-i-preserved : goal.loop-i-preserved
loop-i-preserved c =
    let at = c.loop-i in
    let s = c.args.s.now in
    let row = take value_n (drop (at.i * value_n) s) in
    let first : get_or row 0 0 ≡ get_or s (at.i * value_n) 0 = get_or-take value_n (drop (at.i * value_n) s) 0 0 (omega arith) ∙ get_or-drop (at.i * value_n) s 0 0 ∙ rw add-zero in
    let is : is_put (value_held (values_in s) at.i) ≡ eqb (get_or s (at.i * value_n) 0) 1 =
    ap is_put (row_at_lem kept_in value_n at.i values_n s None (omega arith)) ∙ put_kept_lem row ∙ rw first
    in
    let more = map_more is_put (values_in s) at.put-items None at.i (omega (arith, rows_long kept_in value_n values_n s)) (omega arith) at.invariant.1 in
    (rw length-set at.invariant.0, rw is at more)

pub returns : goal.returns
returns c =
    let at = c.loop-i in
    let s = c.args.s.now in
    map_all is_put (values_in s) at.put-items at.i (omega (arith, rows_long kept_in value_n values_n s)) (omega arith) at.invariant.1
