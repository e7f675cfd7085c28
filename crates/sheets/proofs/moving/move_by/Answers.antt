-- `move_by` meets its contract: the sheet is loaded into the factory's image, and what it holds is written from there.
use Rattle.std.proofs.Common.{◌≡◌, Err, length, ap, ◌∙◌, arith, rules}
use Rattle.sheets.specs.Answers.{Sheeted}
use Rattle.sheets.proofs.Moved.{moved_refused, holds, moved_none, not_refused, first_most, moved_standing}
use Rattle.sheets.proofs.moving.move_by.Goals as goal

pub returns-in_err-load : goal.returns-in_err-load
returns-in_err-load c =
    let moved = moved_refused c.args.form c.args.series c.args.sheet.now c.requires.1 c.args.image.now c.requires.0 c.put_factory.ensures c.load.ensures
    c.in_err-load.was c.args.room.now in
    let out : ◌≡◌ {A = Sheeted} c.from_residual.result (Err c.in_err-load.field-0.0) = search rules in
    (out ∙ moved.0, moved.1)

pub returns-then-count_in-eq0 : goal.returns-then-count_in-eq0
returns-then-count_in-eq0 c =
    let held = holds c.args.form c.args.series c.args.sheet.now c.requires.1 c.args.image.now c.requires.0 c.put_factory.ensures c.load.ensures c.in_ok-load.was in
    moved_none held c.args.room.now c.count_in.ensures c.if-count_in-eq0.true (rw c.other_form.ensures at c.write.ensures)

pub returns-in_err-n : goal.returns-in_err-n
returns-in_err-n c =
    let held = holds c.args.form c.args.series c.args.sheet.now c.requires.1 c.args.image.now c.requires.0 c.put_factory.ensures c.load.ensures c.in_ok-load.was in
    absurd (not_refused held c.write-2.ensures c.in_err-n.was)

pub overflow_add-result : goal.overflow_add-result
overflow_add-result c =
    let held = holds c.args.form c.args.series c.args.sheet.now c.requires.1 c.args.image.now c.requires.0 c.put_factory.ensures c.load.ensures c.in_ok-load.was in
    omega (arith, first_most held c.write-2.ensures c.in_ok-n.was, ap length c.form_line.ensures)

pub returns : goal.returns
returns c =
    let held = holds c.args.form c.args.series c.args.sheet.now c.requires.1 c.args.image.now c.requires.0 c.put_factory.ensures c.load.ensures c.in_ok-load.was in
    rw c.form_line.ensures (moved_standing held c.write-2.ensures c.args.room.now c.count_in.ensures c.if-count_in-eq0.false c.in_ok-n.was)
