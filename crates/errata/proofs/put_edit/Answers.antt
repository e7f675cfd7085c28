-- `put_edit` meets its contract: its parts come to its text.
use mathlib.Core.Path.{ap}
use Rattle.figures.specs.Text.{codes}
use Rattle.figures.proofs.Putting.{fills_as, fills_more}
use Rattle.reports.specs.Piece.{field_text}
use Rattle.errata.proofs.put_edit.Goals as goal

pub returns : goal.returns
returns c =
    fills_more c.put_field.ensures
    (fills_more (fills_as c.put_field-2.ensures (ap (field_text (codes " place=")) c.from.ensures))
    (fills_more c.put.ensures (fills_more (fills_as c.put-2.ensures c.added.ensures) c.put-3.ensures)))
