-- `series_named` meets its contract: the line after the form's tells.
use Rattle.std.proofs.Common.{length, drop, sym, ap, ◌∙◌, arith}
use lib.ListN.{drop_of_length-le}
use Rattle.figures.specs.Bytes.{starts_with}
use Rattle.commands.proofs.Shape.{to_end}
use Rattle.instrument.specs.declared.settings.Series.TheVariants.{Tps300}
use Rattle.sheets.specs.Sheet.{series_line}
use Rattle.sheets.specs.Undo.{form_line}
use Rattle.sheets.proofs.forms.series_named.Goals as goal

-- past the end nothing is named
pub returns-then-sheet-at : goal.returns-then-sheet-at
unfolding starts_with
returns-then-sheet-at c =
    rw (drop_of_length-le c.args.sheet.now {i = length (form_line c.args.form)} (omega (arith, ap length c.form_line-at.ensures)))

pub returns-then-starts : goal.returns-then-starts
returns-then-starts c =
    let at = ap length c.form_line-at.ensures in
    let named = c.starts.ensures ∙ ap (starts_with (series_line Tps300)) (to_end _ c.args.sheet.now) ∙ ap (λ n. starts_with (series_line Tps300) (drop n c.args.sheet.now)) at in
    rw (sym named ∙ c.if-starts.true)

pub returns : goal.returns
returns c =
    let at = ap length c.form_line-at.ensures in
    let named = c.starts.ensures ∙ ap (starts_with (series_line Tps300)) (to_end _ c.args.sheet.now) ∙ ap (λ n. starts_with (series_line Tps300) (drop n c.args.sheet.now)) at in
    rw (sym named ∙ c.if-starts.false)
