-- `write_as` meets its contract: the form's line, the series', the settings', the values' and the undo list, each put after the other, come to the sheet.
use Rattle.std.proofs.Common.{ℕ, List, length, ap, ◌∙◌, arith, rules}
use Rattle.figures.specs.Bytes.{laid}
use Rattle.figures.proofs.Putting.{fills_more, fills_as, fills_new}
use Rattle.sheets.proofs.UndoWrites.{form_few}
use Rattle.sheets.proofs.Writes.{lines_long, lines_few, sheet_sized, sheet_text, writes_room, writes_sheet}
use Rattle.sheets.proofs.writing.write_as.Goals as goal

pub overflow_add-lines : goal.overflow_add-lines
overflow_add-lines c =
    let im = c.requires in
    omega (arith, c.settings_length.ensures, lines_long im, lines_few im)

pub overflow_add-lines-2 : goal.overflow_add-lines-2
overflow_add-lines-2 c =
    let im = c.requires in
    omega (arith, c.settings_length.ensures, c.values_length.ensures, lines_long im, lines_few im)

pub overflow_add-n : goal.overflow_add-n
overflow_add-n c =
    let im = c.requires in
    omega (arith, c.settings_length.ensures, c.values_length.ensures, lines_long im, lines_few im, ap length c.form_line-named.ensures, form_few c.args.form)

pub overflow_add-n-2 : goal.overflow_add-n-2
overflow_add-n-2 c =
    let im = c.requires in
    omega (
      arith,
      c.settings_length.ensures,
      c.values_length.ensures,
      lines_long im,
      lines_few im,
      ap length c.form_line-named.ensures,
      form_few c.args.form,
      c.undo_length.ensures.few,
    )

pub returns-then-room-n : goal.returns-then-room-n
returns-then-room-n c =
    let im = c.requires in
    let sized = sheet_sized im c.args.form (ap length c.form_line-named.ensures) c.settings_length.ensures c.values_length.ensures c.undo_length.ensures.long in
    writes_room c.args.form c.args.image.now c.args.room.now im.is (omega (arith, c.if-room-n.true, sized))

pub returns : goal.returns
returns c =
    let im = c.requires in
    let f = c.args.form in
    let sized = sheet_sized im f (ap length c.form_line-named.ensures) c.settings_length.ensures c.values_length.ensures c.undo_length.ensures.long in
    let form = fills_as c.lay_text.ensures c.form_line-named.ensures in
    let head = fills_as c.lay_text-2.ensures c.series_line.ensures in
    let lines = fills_more (fills_more head c.put_settings.ensures) c.put_values.ensures in
    let all = fills_more (fills_more form lines) c.put_undo.ensures in
    let whole = fills_new c.new-sheet.ensures.bytes c.new-sheet.ensures.at all in
    let written = writes_sheet f c.args.image.now c.args.room.now im.is _ _ (omega (arith, c.if-room-n.false, sized)) sized
    (whole.1 ∙ ap (λ (t : List ℕ). laid t c.args.room.now) (sheet_text im f)) in
    let left = written.1 in
    (written.0, search rules)
