-- `put_settings` meets its contract: a turn puts the line of a place.
use Rattle.std.proofs.Common.{◌<◌, ◌≤◌, length, sym, arith}
use Rattle.state.specs.Image.{state_in}
use Rattle.sheets.specs.Sheet.{setting_lines}
use Rattle.sheets.proofs.Linewise.{fits_as, lines_none, lines_fit, lines_put, lines_all}
use Rattle.sheets.proofs.Writes.{own_in, own_count, setting_read}
use Rattle.sheets.proofs.writing.put_settings.Goals as goal

pub loop-i-init : goal.loop-i-init
loop-i-init c = lines_none (setting_lines (state_in c.args.image.now).series) (own_in c.args.image.now) (omega (arith, c.requires.fits.within))

pub put_setting-requires-clause-fits : goal.put_setting-requires-clause-fits
put_setting-requires-clause-fits c =
    let own = own_in c.args.image.now in
    let inside : c.loop-i.i < length own = omega (arith, c.settings_of-i-end.ensures, own_count c.requires.image) in
    let line = setting_read c.requires.image c.loop-i.i c.parameter_in.result inside c.parameter_in.ensures in
    fits_as (lines_fit (setting_lines (state_in c.args.image.now).series) own c.loop-i.i 0 inside c.requires.fits c.loop-i.invariant) (sym line)

pub loop-i-preserved : goal.loop-i-preserved
loop-i-preserved c =
    let own = own_in c.args.image.now in
    let inside : c.loop-i.i < length own = omega (arith, c.settings_of-i-end.ensures, own_count c.requires.image) in
    let line = setting_read c.requires.image c.loop-i.i c.parameter_in.result inside c.parameter_in.ensures in
    lines_put (setting_lines (state_in c.args.image.now).series) own c.loop-i.i 0 inside line c.loop-i.invariant c.put_setting.ensures

pub returns : goal.returns
returns c =
    let own = own_in c.args.image.now in
    let past : length own ≤ c.loop-i.i = omega (arith, c.settings_of-i-end.ensures, own_count c.requires.image) in
    lines_all (setting_lines (state_in c.args.image.now).series) own c.loop-i.i past c.loop-i.invariant
