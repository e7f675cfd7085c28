-- `tell` meets its contract: of a line that is refused the refusal, the mended text and the caret; of another its block and what was mended.
use Rattle.std.proofs.Common.{rules}
use Rattle.figures.proofs.Putting.{fills_more, fills_new}
use Rattle.errata.proofs.Telling.{refused_on, read_on}
use Rattle.errata.proofs.tell.Goals as goal

pub returns-in-Err : goal.returns-in-Err
returns-in-Err c =
    let a = c.args in
    let m = c.mend_unjudged-mended.ensures in
    let new = c.new-told.ensures in
    let told =
    fills_new new.bytes new.at
    (fills_more c.put_field.ensures
    (fills_more c.put_refusal.ensures
    (fills_more (rw (c.bytes-bytes.ensures, m) at c.put_text.ensures) (rw c.refusal_tells.ensures at c.put_caret.ensures)))) in
    let all =
    refused_on a.family a.line.now a.number a.out.now a.text.now c.answer_of.result (rw (c.bytes-bytes.ensures, m) at c.answer_of.ensures)
    c.in-Err.refusal c.in-Err.is told in
    search rules

pub returns-in-Ok : goal.returns-in-Ok
returns-in-Ok c =
    let a = c.args in
    let m = c.mend_unjudged-mended.ensures in
    let new = c.new-told.ensures in
    let fresh = c.new-block.ensures in
    let block = fills_new fresh.bytes fresh.at (rw (c.bytes-bytes.ensures, m) at c.put.ensures) in
    let told = fills_new new.bytes new.at (rw (c.edits-edits.ensures, m) at c.put_mended.ensures) in
    let all =
    read_on a.family a.line.now a.number a.out.now a.text.now c.answer_of.result (rw (c.bytes-bytes.ensures, m) at c.answer_of.ensures)
    c.in-Ok.field-0 c.fate_by.result c.in-Ok.is (rw (c.edits-edits.ensures, m) at c.fate_by.ensures) block told in
    search rules
