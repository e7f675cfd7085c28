-- `entries_in` meets its contract: a turn takes a line, and past the last the entries are blank.
use Rattle.std.proofs.Common.{◌≡◌, ◌∙◌, replicate, drop, length, Err, sym, ap, arith, rules}
use native.Mathlib.Nat.{sub-zero}
use lib.ListN.{length-set}
use Rattle.state.specs.Entries.{entries_n, blank_entry}
use Rattle.sheets.specs.Lines.{Part}
use Rattle.sheets.specs.Undo.{entry_lines}
use Rattle.sheets.specs.Keeping.{lines_to, entries_filled}
use Rattle.sheets.specs.declared.answers.SheetRefusal.TheVariants.{Wrong}
use Rattle.state.specs.declared.entries.Entry.{Entry}
use Rattle.sheets.proofs.Partwise.{set_past, part_ended}
use Rattle.sheets.proofs.UndoTakes.{entry_turned, entries_kept}
use Rattle.sheets.proofs.undo.entries_in.Goals as goal

pub loop-i-init : goal.loop-i-init
loop-i-init c = record {
  within = c.requires.within;
  whole = ap length c.requires.blank;
  past = ap (drop 0) c.requires.blank;
  left = rw sub-zero;
}

pub returns-in_err-line-clause-to : goal.returns-in_err-line-clause-to
returns-in_err-line-clause-to c =
    let taken = entry_turned c.args.series c.args.count c.loop-i.i c.loop-i.to c.args.sheet.now c.loop-i.entries c.loop-i-test.true (omega arith)
    c.loop-i.invariant.within c.take_entry.result c.take_entry.ensures in
    let wrong = ap (λ (p : Part Entry). lines_to p.came) (c.loop-i.invariant.left ∙ taken.astray c.in_err-line.ensures.ok_part) in
    let out : c.from_residual.result ≡ Err (Wrong c.loop-i.to) = search rules in
    out ∙ sym wrong

pub overflow_add-to : goal.overflow_add-to
overflow_add-to c =
    let taken = entry_turned c.args.series c.args.count c.loop-i.i c.loop-i.to c.args.sheet.now c.loop-i.entries c.loop-i-test.true (omega arith)
    c.loop-i.invariant.within c.take_entry.result c.take_entry.ensures in
    omega (arith, taken.within c.in_ok-line.line c.in_ok-line.ensures.ok_part)

pub loop-i-preserved : goal.loop-i-preserved
loop-i-preserved c =
    let held = c.loop-i.entries in
    let taken = entry_turned c.args.series c.args.count c.loop-i.i c.loop-i.to c.args.sheet.now held c.loop-i-test.true (omega arith)
    c.loop-i.invariant.within c.take_entry.result c.take_entry.ensures in
    record {
      within = taken.within c.in_ok-line.line c.in_ok-line.ensures.ok_part;
      whole = length-set held c.loop-i.i _ ∙ c.loop-i.invariant.whole;
      past = set_past held (replicate entries_n blank_entry) c.loop-i.i _ c.loop-i.invariant.past;
      left = c.loop-i.invariant.left ∙ taken.more c.in_ok-line.line c.in_ok-line.ensures.ok_part;
    }

pub returns : goal.returns
returns c =
    let held = c.loop-i.entries in
    let i : c.loop-i.i ≡ c.args.count = omega arith in
    let done = c.loop-i.invariant.left ∙ part_ended (entry_lines c.args.series) c.args.count c.loop-i.i c.loop-i.to c.args.sheet.now held i in
    record {
      to = sym (ap (λ (p : Part Entry). lines_to p.came) done);
      held = entries_kept c.loop-i.i held c.loop-i.invariant.whole c.loop-i.invariant.past (omega arith) ∙ ap (λ (p : Part Entry). entries_filled p.got) (sym done);
    }
