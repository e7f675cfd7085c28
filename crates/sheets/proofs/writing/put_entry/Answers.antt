-- `put_entry` meets its contract: `u=`, the item's name and a colon, and then what was there before.
use Rattle.std.proofs.Common.{ℕ, ◌-◌, List, ◌++◌, take, sym, ap, ◌∙◌}
use Rattle.figures.specs.Text.{codes, byte}
use Rattle.figures.specs.Decimal.{decimal_of}
use Rattle.figures.proofs.Putting.{fills_more, fills_as}
use Rattle.instrument.specs.Rows.{name_of}
use Rattle.instrument.specs.Settings.{setting_number, row_at}
use Rattle.sheets.specs.Keeping.{key_length, setting_start, kept_text}
use Rattle.sheets.proofs.Keyed.{key_held, setting_keyed_lem, setting_four, name_is}
use Rattle.sheets.proofs.Linewise.{fits_first, fits_next, fits_as}
use Rattle.sheets.proofs.UndoWrites.{setting_line, stored_line, setting_there, stored_there}
use Rattle.sheets.proofs.writing.put_entry.Goals as goal

pub put_name-requires-clause-long : goal.put_name-requires-clause-long
put_name-requires-clause-long c =
    let k = c.args.series in
    let i = c.in-Setting.i in
    let key = c.key_at.ensures ∙ ap (key_held k) c.from.ensures in
    rw key (setting_four k i (setting_there k c.args.entry i c.requires.right c.in-Setting.is))

pub put_name-requires-clause-fits : goal.put_name-requires-clause-fits
put_name-requires-clause-fits c =
    let k = c.args.series in
    let i = c.in-Setting.i in
    let number = setting_number (row_at k i) in
    let key = c.key_at.ensures ∙ ap (key_held k) c.from.ensures in
    let name = ap (λ (l : List ℕ). codes "u=" ++ (take (key_length l - 1) l ++ codes ":")) key
    ∙ ap (λ (t : List ℕ). codes "u=" ++ (t ++ codes ":")) (name_is (name_of "s" number) (setting_keyed_lem k i)) in
    let rest = decimal_of c.args.entry.former.parameter ++ codes "\n" in
    fits_as (fits_first (setting_start number) rest (fits_as c.requires.fits (setting_line k c.args.entry i c.in-Setting.is))) (sym name)

pub put_parameter-requires-clause-fits : goal.put_parameter-requires-clause-fits
put_parameter-requires-clause-fits c =
    let k = c.args.series in
    let i = c.in-Setting.i in
    let number = setting_number (row_at k i) in
    let key = c.key_at.ensures ∙ ap (key_held k) c.from.ensures in
    let name = ap (λ (l : List ℕ). codes "u=" ++ (take (key_length l - 1) l ++ codes ":")) key
    ∙ ap (λ (t : List ℕ). codes "u=" ++ (t ++ codes ":")) (name_is (name_of "s" number) (setting_keyed_lem k i)) in
    let rest = decimal_of c.args.entry.former.parameter ++ codes "\n" in
    let next = fits_next (setting_start number) rest (fits_as c.requires.fits (setting_line k c.args.entry i c.in-Setting.is)) (fills_as c.put_name.ensures name) in
    rw c.from-in-Setting.ensures next

pub returns-in-Setting : goal.returns-in-Setting
returns-in-Setting c =
    let k = c.args.series in
    let i = c.in-Setting.i in
    let number = setting_number (row_at k i) in
    let key = c.key_at.ensures ∙ ap (key_held k) c.from.ensures in
    let name = ap (λ (l : List ℕ). codes "u=" ++ (take (key_length l - 1) l ++ codes ":")) key
    ∙ ap (λ (t : List ℕ). codes "u=" ++ (t ++ codes ":")) (name_is (name_of "s" number) (setting_keyed_lem k i)) in
    fills_as (fills_more (fills_as c.put_name.ensures name) (rw c.from-in-Setting.ensures at c.put_parameter.ensures))
    (sym (setting_line k c.args.entry i c.in-Setting.is))

pub put_kept-requires-clause-place : goal.put_kept-requires-clause-place
put_kept-requires-clause-place c = rw c.from-in-Stored.ensures (stored_there c.args.series c.args.entry c.in-Stored.i c.requires.right c.in-Stored.is)

pub put_kept-requires-clause-fits : goal.put_kept-requires-clause-fits
put_kept-requires-clause-fits c =
    let i = c.in-Stored.i in
    let whole = fits_as c.requires.fits (stored_line c.args.series c.args.entry i c.in-Stored.is) in
    let next = fits_next (codes "u=") (kept_text i (byte ":") c.args.entry.former.kept) whole c.lay_text-in-Stored.ensures in
    rw c.from-in-Stored.ensures next

pub returns-in-Stored : goal.returns-in-Stored
returns-in-Stored c =
    fills_as (fills_more c.lay_text-in-Stored.ensures (rw c.from-in-Stored.ensures at c.put_kept.ensures))
    (sym (stored_line c.args.series c.args.entry c.in-Stored.i c.in-Stored.is))
