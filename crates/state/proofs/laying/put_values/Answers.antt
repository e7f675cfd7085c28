-- A turn of the loop lays a row down.
use Rattle.std.proofs.Common.{◌≡◌, ◌∙◌, refl, sym, ap, arith, ◌*◌, ◌+◌, ◌-◌, length, rules}
use Rattle.std.specs.Prelude.{None}
use borrow.Rule.Slice.PartMut.{mid_of}
use Rattle.instrument.specs.Values.{values_n}
use Rattle.state.specs.Image.{kept_bytes}
use Rattle.state.proofs.Rows.{rows_more, row_long, laid_whole, flat_none}
use Rattle.state.proofs.laying.put_values.Goals as goal

pub loop-i-init : goal.loop-i-init
loop-i-init c = (refl, sym (flat_none kept_bytes))

pub loop-i-preserved : goal.loop-i-preserved
loop-i-preserved c =
    let at = c.loop-i in
    let u = c.args.values in
    let long : length u ≡ values_n = search rules in
    let eleven : length c.kept_bytes.result ≡ 11 = search rules in
    let part = row_long 11 (at.i * 11) at.out (omega arith) in
    let is : c.lay.new.room ≡ c.kept_bytes.result =
    c.lay.ensures ∙ laid_whole c.kept_bytes.result (mid_of (at.i * 11) (at.i * 11 + 11 - at.i * 11) at.out) (eleven ∙ sym part) in
    let more = rows_more kept_bytes 11 u None at.i (at.i * 11) at.out c.lay.new.room refl (omega arith) (omega arith) (ap length is ∙ eleven)
    (is ∙ c.kept_bytes.ensures) at.invariant.1 in
    (more.0 ∙ at.invariant.0, more.1)
