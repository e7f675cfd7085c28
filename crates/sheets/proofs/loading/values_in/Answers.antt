-- `values_in` meets its contract: a turn takes a line.
use Rattle.std.proofs.Common.{◌≡◌, Err, sym, ap, ◌∙◌, arith, rules}
use lib.ListN.{length-set}
use Rattle.instrument.specs.Values.{values_n}
use Rattle.sheets.specs.Sheet.{value_lines}
use Rattle.sheets.specs.Keeping.{values_as}
use Rattle.sheets.specs.declared.answers.SheetRefusal.TheVariants.{Wrong}
use Rattle.sheets.proofs.Partwise.{part_done}
use Rattle.sheets.proofs.Takes.{value_turned}
use Rattle.sheets.proofs.Loads.{values_kept}
use Rattle.sheets.proofs.loading.values_in.Goals as goal

pub returns-in_err-line : goal.returns-in_err-line
returns-in_err-line c =
    let taken = value_turned c.loop-i.i c.loop-i.to c.args.sheet.now c.loop-i.held c.loop-i-test.true (omega arith) c.loop-i.invariant.within
    c.take_value.result c.take_value.ensures in
    let wrong = ap values_as (c.loop-i.invariant.left ∙ taken.astray c.in_err-line.ensures.ok_part) in
    let out : c.from_residual.result ≡ Err (Wrong c.loop-i.to) = search rules in
    out ∙ sym wrong

pub overflow_add-to : goal.overflow_add-to
overflow_add-to c =
    let taken = value_turned c.loop-i.i c.loop-i.to c.args.sheet.now c.loop-i.held c.loop-i-test.true (omega arith) c.loop-i.invariant.within
    c.take_value.result c.take_value.ensures in
    omega (arith, taken.within c.in_ok-line.line c.in_ok-line.ensures.ok_part)

pub loop-i-preserved : goal.loop-i-preserved
loop-i-preserved c =
    let held = c.loop-i.held in
    let taken = value_turned c.loop-i.i c.loop-i.to c.args.sheet.now held c.loop-i-test.true (omega arith) c.loop-i.invariant.within
    c.take_value.result c.take_value.ensures in
    record {
      within = taken.within c.in_ok-line.line c.in_ok-line.ensures.ok_part;
      whole = length-set held c.loop-i.i _ ∙ c.loop-i.invariant.whole;
      left = c.loop-i.invariant.left ∙ taken.more c.in_ok-line.line c.in_ok-line.ensures.ok_part;
    }

pub returns : goal.returns
returns c =
    let held = c.loop-i.held in
    let done = part_done value_lines values_n c.loop-i.i c.loop-i.to c.args.sheet.now held (omega arith) c.loop-i.invariant.whole in
    sym (ap values_as (c.loop-i.invariant.left ∙ done) ∙ values_kept c.loop-i.to held c.loop-i.invariant.whole)
