-- A turn of the loop reads a row.
use Rattle.std.proofs.Common.{arith, ap, ◌∙◌, replicate}
use Rattle.state.specs.Entries.{entries_n, blank_entry}
use Rattle.state.specs.Image.{entry_in}
use Rattle.state.specs.declared.entries.Entry.{Entry}
use Rattle.state.proofs.Places.{entries_none}
use Rattle.state.proofs.Rows.{rows_none, read_more}
use Rattle.state.proofs.image.entries_in.Goals as goal

pub loop-i-init : goal.loop-i-init
loop-i-init c = rw (rows_none entry_in 14 c.args.s.now) (ap (λ (e : Entry). replicate entries_n e) c.blank_entry-blank.ensures)

pub loop-i-preserved : goal.loop-i-preserved
loop-i-preserved c =
    let at = c.loop-i in
    read_more entry_in 14 at.i entries_n c.args.s.now at.undo blank_entry c.entry_in.result (omega arith) c.entry_in.ensures at.invariant

pub returns-else-s : goal.returns-else-s
returns-else-s c = ap (λ (e : Entry). replicate entries_n e) c.blank_entry-blank.ensures ∙ entries_none c.args.count c.args.s.now c.if-s.false
