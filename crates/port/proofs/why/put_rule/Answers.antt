-- The four parts of 26, and nothing of any other verdict.
use Rattle.std.proofs.Common.{◌≡◌, ℕ, ◌++◌, sym, ap, ◌∙◌}
use Rattle.std.specs.Prelude.{Err}
use Rattle.figures.specs.Text.{codes}
use Rattle.figures.specs.Decimal.{decimal_of}
use Rattle.figures.proofs.Putting.{fills_as, fills_more}
use Rattle.words.specs.Reading.{fault_number}
use Rattle.words.specs.declared.reading.Fault.{Fault}
use Rattle.lines.specs.Verdicts.{Verdict}
use Rattle.lines.specs.declared.verdicts.Refused.{Refused}
use Rattle.lines.specs.declared.verdicts.Refused.TheVariants.{Word}
use Rattle.port.specs.Why.{rule_text}
use Rattle.port.proofs.why.put_rule.Goals as goal

said : (v : Verdict) (r : Refused) (fault : Fault) (byte : ℕ) → v ≡ Err r → r ≡ Word fault byte
    → rule_text v ≡ codes " which=" ++ (decimal_of (fault_number fault) ++ (codes " byte=" ++ decimal_of byte))
said v r fault byte e f = ap rule_text e ∙ ap (λ (x : Refused). rule_text (Err x)) f

pub returns-in-Err-Word : goal.returns-in-Err-Word
returns-in-Err-Word c =
    let w = c.in-Err-Word in
    fills_as
    (fills_more c.put.ensures (fills_more (rw c.fault_number.ensures at c.put_decimal.ensures) (fills_more c.put-in-Err-Word.ensures c.put_decimal-in-Err-Word.ensures)))
    (sym (said c.args.verdict w.field-0 w.fault w.byte w.is (rw w.is at w.field-0-is)))
