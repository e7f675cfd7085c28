-- The parts stand one after the other, and the text is the line that was kept.
use Rattle.std.proofs.Common.{◌≡◌, false, sym, ◌∙◌, rules}
use Rattle.figures.proofs.Putting.{fills_more, fills_new}
use Rattle.lines.specs.Verdicts.{is_accepted}
use Rattle.port.proofs.Said.{ok_accepted}
use Rattle.port.proofs.why.put_why.Goals as goal

pub returns : goal.returns
returns c =
    let refused : is_accepted c.args.verdict ≡ false = sym (ok_accepted c.args.verdict) ∙ sym c.is_ok.ensures.value ∙ c.if-is_ok.false in
    let new = c.new-out.ensures in
    let line = rw c.held.ensures at c.put_shown.ensures in
    let all = fills_new new.bytes new.at (fills_more c.put_number.ensures (fills_more c.put_rule.ensures
    (fills_more c.put.ensures (fills_more line (fills_more c.put-2.ensures c.put_under.ensures))))) in
    rw refused (search rules)
