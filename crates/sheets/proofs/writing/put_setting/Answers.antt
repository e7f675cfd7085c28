-- `put_setting` meets its contract: the key, and then the parameter and LF.
use Rattle.std.proofs.Common.{ℕ, List, ◌++◌, take, sym, ap, ◌∙◌}
use Rattle.figures.specs.Text.{codes}
use Rattle.figures.specs.Decimal.{decimal_of}
use Rattle.figures.proofs.Putting.{fills_more, fills_as}
use Rattle.instrument.specs.Settings.{row_at}
use Rattle.sheets.specs.Sheet.{setting_key}
use Rattle.sheets.specs.Keeping.{key_length}
use Rattle.sheets.proofs.Keyed.{setting_keyed_lem, setting_four}
use Rattle.sheets.proofs.Linewise.{fits_first, fits_next, fits_as}
use Rattle.sheets.proofs.writing.put_setting.Goals as goal

pub put_key-requires-clause-long : goal.put_key-requires-clause-long
put_key-requires-clause-long c = rw c.key_at.ensures (setting_four c.args.series c.args.place c.requires.place)

pub put_key-requires-clause-fits : goal.put_key-requires-clause-fits
put_key-requires-clause-fits c =
    let key = ap (λ (l : List ℕ). take (key_length l) l) c.key_at.ensures ∙ (setting_keyed_lem c.args.series c.args.place).is in
    fits_as (fits_first (setting_key (row_at c.args.series c.args.place)) (decimal_of c.args.parameter ++ codes "\n") c.requires.fits) (sym key)

pub put_parameter-requires-clause-fits : goal.put_parameter-requires-clause-fits
put_parameter-requires-clause-fits c =
    let key = ap (λ (l : List ℕ). take (key_length l) l) c.key_at.ensures ∙ (setting_keyed_lem c.args.series c.args.place).is in
    let next = fits_next (setting_key (row_at c.args.series c.args.place)) (decimal_of c.args.parameter ++ codes "\n") c.requires.fits (fills_as c.put_key.ensures key) in
    rw c.from.ensures next

pub returns : goal.returns
returns c =
    let key = ap (λ (l : List ℕ). take (key_length l) l) c.key_at.ensures ∙ (setting_keyed_lem c.args.series c.args.place).is in
    fills_more (fills_as c.put_key.ensures key) (rw c.from.ensures at c.put_parameter.ensures)
