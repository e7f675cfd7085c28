-- `list_in` meets its contract: where each line is right by itself, the list is a state's where it goes back.
use Rattle.std.proofs.Common.{◌≡◌, Err, ◌∙◌, arith, rules}
use Rattle.sheets.specs.declared.answers.SheetRefusal.TheVariants.{Wrong}
use Rattle.sheets.proofs.UndoTakes.{list_uncounted, count_most, count_within, list_astray, list_past, list_unheld, list_counted, list_filled}
use Rattle.sheets.proofs.undo.list_in.Goals as goal

pub returns-in_err-line-clause-count : goal.returns-in_err-line-clause-count
returns-in_err-line-clause-count c =
    let out : c.from_residual.result ≡ Err (Wrong c.args.first.now.to) = search rules in
    out ∙ list_uncounted c.args.series c.args.first.now.settings c.args.first.now.values c.args.sheet.now c.args.first.now.to c.requires.within c.take_count.result c.take_count.ensures c.in_err-line.ensures.ok_part

pub overflow_add-start : goal.overflow_add-start
overflow_add-start c =
    let within = count_within c.args.series c.args.first.now.settings c.args.first.now.values c.args.sheet.now c.args.first.now.to c.requires.within c.take_count.result c.take_count.ensures c.in_ok-line.line c.in_ok-line.ensures.ok_part in
    omega (arith, within)

pub entries_in-requires-clause-within : goal.entries_in-requires-clause-within
entries_in-requires-clause-within c = count_within c.args.series c.args.first.now.settings c.args.first.now.values c.args.sheet.now c.args.first.now.to c.requires.within c.take_count.result c.take_count.ensures c.in_ok-line.line c.in_ok-line.ensures.ok_part

pub entries_in-requires-clause-few : goal.entries_in-requires-clause-few
entries_in-requires-clause-few c = count_most c.args.series c.args.first.now.settings c.args.first.now.values c.args.sheet.now c.args.first.now.to c.requires.within c.take_count.result c.take_count.ensures c.in_ok-line.line c.in_ok-line.ensures.ok_part

pub returns-in_err-to-clause-count : goal.returns-in_err-to-clause-count
returns-in_err-to-clause-count c =
    let wrong = list_astray c.args.series c.args.first.now.settings c.args.first.now.values c.args.sheet.now c.args.first.now.to c.requires.within c.take_count.result c.take_count.ensures c.in_ok-line.line c.in_ok-line.ensures.ok_part
    c.entries_in.result c.entries_in.ensures.to c.in_err-to.was in
    search (rules, wrong)

pub returns-then-to-sheet-clause-count : goal.returns-then-to-sheet-clause-count
returns-then-to-sheet-clause-count c =
    list_past c.args.series c.args.first.now.settings c.args.first.now.values c.args.sheet.now c.args.first.now.to c.requires.within c.take_count.result c.take_count.ensures c.in_ok-line.line c.in_ok-line.ensures.ok_part
    c.entries_in.result c.entries_in.ensures.to _ c.in_ok-to.was c.if-to-sheet.true

pub goes_back-requires : goal.goes_back-requires
goes_back-requires c = count_most c.args.series c.args.first.now.settings c.args.first.now.values c.args.sheet.now c.args.first.now.to c.requires.within c.take_count.result c.take_count.ensures c.in_ok-line.line c.in_ok-line.ensures.ok_part

pub returns-then-not-goes_back-clause-count : goal.returns-then-not-goes_back-clause-count
returns-then-not-goes_back-clause-count c =
    list_unheld c.args.series c.args.first.now.settings c.args.first.now.values c.args.sheet.now c.args.first.now.to c.requires.within c.take_count.result c.take_count.ensures c.in_ok-line.line c.in_ok-line.ensures.ok_part
    c.entries_in.result c.entries_in.ensures.to _ c.in_ok-to.was c.requires.right c.if-to-sheet.false _ c.in_ok-to.ensures.held c.goes_back.result c.goes_back.ensures c.if-not-goes_back.true

pub returns : goal.returns
returns c = record {
  count = list_counted c.args.series c.args.first.now.settings c.args.first.now.values c.args.sheet.now c.args.first.now.to c.requires.within c.take_count.result c.take_count.ensures c.in_ok-line.line c.in_ok-line.ensures.ok_part
      c.entries_in.result c.entries_in.ensures.to _ c.in_ok-to.was c.requires.right c.if-to-sheet.false _ c.in_ok-to.ensures.held c.goes_back.result c.goes_back.ensures c.if-not-goes_back.false;
  held = list_filled c.args.series c.args.first.now.settings c.args.first.now.values c.args.sheet.now c.args.first.now.to c.requires.within c.take_count.result c.take_count.ensures c.in_ok-line.line c.in_ok-line.ensures.ok_part
      c.entries_in.result c.entries_in.ensures.to _ c.in_ok-to.was c.requires.right c.if-to-sheet.false _ c.in_ok-to.ensures.held c.goes_back.result c.goes_back.ensures c.if-not-goes_back.false;
}
