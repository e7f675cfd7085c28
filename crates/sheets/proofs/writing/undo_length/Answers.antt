-- `undo_length` meets its contract: the count's line, and a turn adds an entry's.
use Rattle.std.proofs.Common.{◌≡◌, ◌<◌, length, take, sym, ap, ◌∙◌, arith}
use lib.ListN.{length-append}
use lib.Seq.{take_all}
use Rattle.figures.specs.Decimal.{digits_n}
use Rattle.state.specs.Entries.{blank_entry}
use Rattle.state.specs.Image.{state_in}
use Rattle.sheets.specs.Lines.{lines_by}
use Rattle.sheets.specs.Undo.{count_line, entry_lines, undo_text}
use Rattle.sheets.proofs.Linewise.{long_none, long_more}
use Rattle.sheets.proofs.UndoWrites.{undo_one, undo_two, count_long, list_in, entries_few, entries_count, entry_right_lem, entry_text}
use Rattle.sheets.proofs.writing.undo_length.Goals as goal

-- the first form has no list
pub returns-in-One-clause-long : goal.returns-in-One-clause-long
returns-in-One-clause-long c =
    let s = state_in c.args.image.now in
    sym (ap (λ f. length (undo_text f s)) c.in-One.is ∙ ap length (undo_one s))

pub digits_in-n-requires : goal.digits_in-n-requires
digits_in-n-requires c = omega (arith, c.count_in-count.ensures, entries_count c.requires, entries_few c.requires)

pub loop-i-init : goal.loop-i-init
loop-i-init c =
    let entries = list_in c.args.image.now in
    let digits = c.digits_in-n.ensures.0 ∙ ap digits_n (c.count_in-count.ensures ∙ entries_count c.requires) in
    record {
      long = omega (arith, digits, count_long (length entries), long_none (entry_lines (state_in c.args.image.now).series) entries);
      few = omega (arith, c.digits_in-n.ensures.1);
    }

pub entry_length-n-requires : goal.entry_length-n-requires
entry_length-n-requires c =
    let inside : c.loop-i.i < length (list_in c.args.image.now) = omega (arith, c.count_in-count.ensures, entries_count c.requires) in
    rw c.entry_at.ensures (entry_right_lem c.requires c.loop-i.i inside)

pub overflow_add-n-in-loop-i : goal.overflow_add-n-in-loop-i
overflow_add-n-in-loop-i c =
    omega (arith, c.entry_length-n.ensures.few, c.loop-i.invariant.few, c.count_in-count.ensures, entries_count c.requires, entries_few c.requires)

pub loop-i-preserved : goal.loop-i-preserved
loop-i-preserved c =
    let entries = list_in c.args.image.now in
    let i = c.loop-i.i in
    let inside : i < length entries = omega (arith, c.count_in-count.ensures, entries_count c.requires) in
    let line = ap length (entry_text c.requires i inside c.entry_at.result c.entry_at.ensures) in
    let more = long_more (entry_lines (state_in c.args.image.now).series) entries i blank_entry inside in
    record {
      long = omega (arith, c.entry_length-n.ensures.long, line, more, c.loop-i.invariant.long);
      few = omega (arith, c.entry_length-n.ensures.few, c.loop-i.invariant.few);
    }

pub returns : goal.returns
returns c =
    let s = state_in c.args.image.now in
    let entries = list_in c.args.image.now in
    let lines = entry_lines s.series in
    let count = c.count_in-count.ensures ∙ entries_count c.requires in
    let all : take c.loop-i.i entries ≡ entries = take_all c.loop-i.i entries (omega (arith, count)) in
    let text = ap (λ f. length (undo_text f s)) c.in_default.is ∙ ap length (undo_two s) in
    record {
      long = omega (
        arith,
        c.loop-i.invariant.long,
        ap (λ t. length (lines_by lines 0 t)) all,
        text,
        length-append (count_line (length entries)) (lines_by lines 0 entries),
      );
      few = omega (arith, c.loop-i.invariant.few, count, entries_few c.requires);
    }
