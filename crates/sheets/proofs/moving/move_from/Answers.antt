-- `move_from` meets its contract: what isn't of the form is wrong from its start on, and the rest is moved as a sheet of the series that it names.
use Rattle.std.proofs.Common.{ℕ, sym, ◌∙◌}
use lib.ListN.{length-replicate}
use Rattle.state.proofs.Images.{image_100, image_300}
use Rattle.sheets.specs.Writing.{series_named}
use Rattle.sheets.proofs.Moved.{not_of_form, moved_wrong}
use Rattle.sheets.proofs.moving.move_from.Goals as goal

pub returns-then-not-is_of : goal.returns-then-not-is_of
returns-then-not-is_of c =
    let a = c.args in
    let k = series_named a.form a.sheet.now in
    moved_wrong a.form k a.sheet.now a.room.now (not_of_form a.form k a.sheet.now (sym c.is_of.ensures ∙ c.if-not-is_of.true))

pub move_by-requires : goal.move_by-requires
move_by-requires c = (length-replicate {A = ℕ} _ 0 ∙ sym image_100, sym c.is_of.ensures ∙ c.if-not-is_of.false)

pub move_by-requires-in-Tps300 : goal.move_by-requires-in-Tps300
move_by-requires-in-Tps300 c = (length-replicate {A = ℕ} _ 0 ∙ sym image_300, sym c.is_of.ensures ∙ c.if-not-is_of.false)

pub returns-in-Tps100 : goal.returns-in-Tps100
returns-in-Tps100 c = rw (sym c.in-Tps100.is ∙ c.series_named.ensures) at c.move_by.ensures

pub returns-in-Tps300 : goal.returns-in-Tps300
returns-in-Tps300 c = rw (sym c.in-Tps300.is ∙ c.series_named.ensures) at c.move_by-in-Tps300.ensures
