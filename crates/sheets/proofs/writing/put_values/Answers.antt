-- `put_values` meets its contract: a turn puts the line of a place.
use Rattle.std.proofs.Common.{◌<◌, ◌≤◌, length, sym, ◌∙◌, arith}
use Rattle.state.specs.Image.{state_in}
use Rattle.sheets.specs.Sheet.{value_lines}
use Rattle.sheets.proofs.Linewise.{fits_as, lines_none, lines_fit, lines_put, lines_all, kept_text_lem}
use Rattle.sheets.proofs.Writes.{values_long, value_read}
use Rattle.sheets.proofs.writing.put_values.Goals as goal
use Rattle.std.specs.Prelude.{None}

pub loop-i-init : goal.loop-i-init
loop-i-init c = lines_none value_lines (state_in c.args.image.now).values (omega (arith, c.requires.fits.within))

pub put_kept-requires-clause-fits : goal.put_kept-requires-clause-fits
put_kept-requires-clause-fits c =
    let i = c.loop-i.i in
    let values = (state_in c.args.image.now).values in
    let inside : i < length values = omega (arith, values_long c.requires.image) in
    let line = sym (kept_text_lem i c.value_in.result) ∙ value_read c.requires.image i c.value_in.result c.loop-i-test.true c.value_in.ensures in
    fits_as (lines_fit value_lines values i None inside c.requires.fits c.loop-i.invariant) (sym line)

pub loop-i-preserved : goal.loop-i-preserved
loop-i-preserved c =
    let i = c.loop-i.i in
    let values = (state_in c.args.image.now).values in
    let inside : i < length values = omega (arith, values_long c.requires.image) in
    let line = sym (kept_text_lem i c.value_in.result) ∙ value_read c.requires.image i c.value_in.result c.loop-i-test.true c.value_in.ensures in
    lines_put value_lines values i None inside line c.loop-i.invariant c.put_kept.ensures

pub returns : goal.returns
returns c =
    let values = (state_in c.args.image.now).values in
    let past : length values ≤ c.loop-i.i = omega (arith, values_long c.requires.image) in
    lines_all value_lines values c.loop-i.i past c.loop-i.invariant
