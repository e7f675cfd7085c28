-- `put_undo` meets its contract: the count's line, and a turn puts an entry's.
use Rattle.std.proofs.Common.{◌<◌, ◌≤◌, ◌++◌, length, refl, sym, ap, ◌∙◌, arith}
use Rattle.figures.specs.Text.{codes}
use Rattle.figures.specs.Decimal.{decimal_of}
use Rattle.figures.proofs.Putting.{puts_nothing, puts_within, fills_more, fills_as}
use Rattle.state.specs.Entries.{blank_entry}
use Rattle.state.specs.Image.{state_in}
use Rattle.sheets.specs.Lines.{lines_by}
use Rattle.sheets.specs.Undo.{count_key, count_line, entry_lines, undo_text}
use Rattle.sheets.proofs.Linewise.{fits_first, fits_next, fits_as, lines_none, lines_fit, lines_put, lines_all}
use Rattle.sheets.proofs.UndoWrites.{undo_one, undo_two, list_in, entries_few, entries_count, entry_right_lem, entry_text}
use Rattle.sheets.proofs.writing.put_undo.Goals as goal

-- the first form has no list
pub returns-in-One : goal.returns-in-One
returns-in-One c =
    let s = state_in c.args.image.now in
    let a = c.args.room.now in
    fills_as (record { puts = puts_nothing a.bytes.now a.at (omega (arith, c.requires.fits.within)); same = refl }) (sym (ap (λ f. undo_text f s) c.in-One.is ∙ undo_one s))

pub lay_text-requires : goal.lay_text-requires
lay_text-requires c =
    let s = state_in c.args.image.now in
    let entries = list_in c.args.image.now in
    let count = c.count_in-count.ensures ∙ entries_count c.requires.image in
    let text = ap (λ f. undo_text f s) c.in_default.is ∙ undo_two s in
    let whole = fits_as c.requires.fits text in
    let number = decimal_of (length entries) ++ codes "\n" in
    let lines = lines_by (entry_lines s.series) 0 entries in
    fits_first count_key number (fits_first (count_line (length entries)) lines whole)

pub overflow_cast-count : goal.overflow_cast-count
overflow_cast-count c =
    let s = state_in c.args.image.now in
    let entries = list_in c.args.image.now in
    let count = c.count_in-count.ensures ∙ entries_count c.requires.image in
    let text = ap (λ f. undo_text f s) c.in_default.is ∙ undo_two s in
    omega (arith, count, entries_few c.requires.image)

pub put_parameter-requires : goal.put_parameter-requires
put_parameter-requires c =
    let s = state_in c.args.image.now in
    let entries = list_in c.args.image.now in
    let count = c.count_in-count.ensures ∙ entries_count c.requires.image in
    let text = ap (λ f. undo_text f s) c.in_default.is ∙ undo_two s in
    let whole = fits_as c.requires.fits text in
    let number = decimal_of (length entries) ++ codes "\n" in
    let lines = lines_by (entry_lines s.series) 0 entries in
    let next = fits_next count_key number (fits_first (count_line (length entries)) lines whole) c.lay_text.ensures in
    rw count (record { small = omega (arith, entries_few c.requires.image); fits = next })

pub loop-i-init : goal.loop-i-init
loop-i-init c =
    let b = c.lay_text.new.room in
    let number = decimal_of c.count_in-count.result ++ codes "\n" in
    let p = c.put_parameter.ensures.puts in
    let within = puts_within b.bytes.now b.at number p in
    lines_none (entry_lines (state_in c.args.image.now).series) (list_in c.args.image.now) within

pub put_entry-requires-clause-right : goal.put_entry-requires-clause-right
put_entry-requires-clause-right c =
    let s = state_in c.args.image.now in
    let entries = list_in c.args.image.now in
    let count = c.count_in-count.ensures ∙ entries_count c.requires.image in
    let text = ap (λ f. undo_text f s) c.in_default.is ∙ undo_two s in
    let inside : c.loop-i.i < length entries = omega (arith, count) in
    rw c.entry_at.ensures (entry_right_lem c.requires.image c.loop-i.i inside)

pub put_entry-requires-clause-fits : goal.put_entry-requires-clause-fits
put_entry-requires-clause-fits c =
    let s = state_in c.args.image.now in
    let entries = list_in c.args.image.now in
    let count = c.count_in-count.ensures ∙ entries_count c.requires.image in
    let text = ap (λ f. undo_text f s) c.in_default.is ∙ undo_two s in
    let whole = fits_as c.requires.fits text in
    let number = decimal_of (length entries) ++ codes "\n" in
    let lines = lines_by (entry_lines s.series) 0 entries in
    let inside : c.loop-i.i < length entries = omega (arith, count) in
    let counted = fills_more c.lay_text.ensures (rw count at c.put_parameter.ensures) in
    let line = entry_text c.requires.image c.loop-i.i inside c.entry_at.result c.entry_at.ensures in
    let rest = fits_next (count_line (length entries)) lines whole counted in
    fits_as (lines_fit (entry_lines s.series) entries c.loop-i.i blank_entry inside rest c.loop-i.invariant) (sym line)

pub loop-i-preserved : goal.loop-i-preserved
loop-i-preserved c =
    let s = state_in c.args.image.now in
    let entries = list_in c.args.image.now in
    let count = c.count_in-count.ensures ∙ entries_count c.requires.image in
    let text = ap (λ f. undo_text f s) c.in_default.is ∙ undo_two s in
    let inside : c.loop-i.i < length entries = omega (arith, count) in
    let line = entry_text c.requires.image c.loop-i.i inside c.entry_at.result c.entry_at.ensures in
    lines_put (entry_lines s.series) entries c.loop-i.i blank_entry inside line c.loop-i.invariant c.put_entry.ensures

pub returns : goal.returns
returns c =
    let s = state_in c.args.image.now in
    let entries = list_in c.args.image.now in
    let count = c.count_in-count.ensures ∙ entries_count c.requires.image in
    let text = ap (λ f. undo_text f s) c.in_default.is ∙ undo_two s in
    let past : length entries ≤ c.loop-i.i = omega (arith, count) in
    let counted = fills_more c.lay_text.ensures (rw count at c.put_parameter.ensures) in
    fills_as (fills_more counted (lines_all (entry_lines s.series) entries c.loop-i.i past c.loop-i.invariant)) (sym text)
