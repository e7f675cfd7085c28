-- `put_mended` meets its contract: nothing, or the edits' lines, the line's text and the carets.
use Rattle.std.proofs.Common.{rules, arith, sym}
use Rattle.figures.proofs.Putting.{fills_as, fills_more}
use Rattle.errata.proofs.Telling.{mended_some}
use Rattle.errata.proofs.put_mended.Goals as goal

pub returns : goal.returns
returns c =
    let a = c.args in
    fills_as (fills_more c.put_edits.ensures (fills_more c.put_text.ensures c.put_carets.ensures))
    (sym (mended_some a.number a.line.now a.edits.now (λ q. grind (arith, rules))))
