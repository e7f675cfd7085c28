-- `load_as` meets its contract: a wrong line leaves the image, and in the second form the list is laid down.
use Rattle.std.proofs.Common.{arith, rules}
use Rattle.sheets.proofs.Loads.{loads_astray, first_right, loads_one, loads_surplus, loads_unlisted, count_few, loads_two}
use Rattle.sheets.proofs.loading.load_as.Goals as goal

pub returns-in_err-first : goal.returns-in_err-first
returns-in_err-first c =
    let wrong = loads_astray c.requires c.args.sheet.now c.form_in-form.ensures _ c.first_in.ensures c.in_err-first.was in
    search (rules, wrong)

pub returns-then-sheet-first : goal.returns-then-sheet-first
returns-then-sheet-first c = loads_surplus c.requires c.args.sheet.now c.form_in-form.ensures _ c.first_in.ensures _ c.in_ok-first.was c.in-One.is (λ e. omega (arith, e, c.if-sheet-first.true))

pub list_in-requires-clause-right : goal.list_in-requires-clause-right
list_in-requires-clause-right c = (first_right c.requires c.args.sheet.now c.form_in-form.ensures _ c.first_in.ensures _ c.in_ok-first.was).0

pub list_in-requires-clause-within : goal.list_in-requires-clause-within
list_in-requires-clause-within c = (first_right c.requires c.args.sheet.now c.form_in-form.ensures _ c.first_in.ensures _ c.in_ok-first.was).1

pub returns-in_err-count-in-Two : goal.returns-in_err-count-in-Two
returns-in_err-count-in-Two c =
    let wrong = loads_unlisted c.requires c.args.sheet.now c.form_in-form.ensures _ c.first_in.ensures _ c.in_ok-first.was c.in-Two.is _ c.list_in.ensures.count c.in_err-count-in-Two.was in
    search (rules, wrong)

pub put_undo-requires : goal.put_undo-requires
put_undo-requires c = count_few c.requires c.args.sheet.now c.form_in-form.ensures _ c.first_in.ensures _ c.in_ok-first.was c.in-Two.is _ c.list_in.ensures.count _ c.in_ok-count-in-Two.was

pub returns-else-sheet-first : goal.returns-else-sheet-first
returns-else-sheet-first c = loads_one c.requires c.args.sheet.now c.form_in-form.ensures _ c.first_in.ensures _ c.in_ok-first.was _ _ c.put_contents.ensures c.clear.ensures c.in-One.is (omega (arith, c.if-sheet-first.false))

pub returns-in_ok-count-in-Two : goal.returns-in_ok-count-in-Two
returns-in_ok-count-in-Two c =
    loads_two c.requires c.args.sheet.now c.form_in-form.ensures _ c.first_in.ensures _ c.in_ok-first.was c.in-Two.is _ c.list_in.ensures.count _ c.in_ok-count-in-Two.was _ c.in_ok-count-in-Two.ensures.held _ _ _
    c.put_contents-in-Two.ensures c.clear-in-Two.ensures c.put_undo.ensures
