-- What was read, or the refusal.
use Rattle.std.proofs.Common.{◌≡◌, Ok, Err}
use mathlib.Core.Path.{sym, ap, ◌∙◌}
use Rattle.blocks.specs.Judging.{judged}
use Rattle.reports.specs.Piece.{answer_text}
use Rattle.figures.proofs.Putting.{fills_as, fills_more}
use Rattle.reports.proofs.piece.put_answer.Goals as goal

pub returns-in-Ok-clause-text : goal.returns-in-Ok-clause-text
returns-in-Ok-clause-text c =
    let f = c.args.family in
    let piece = c.args.piece.now in
    let is : Ok c.in-Ok.reading ≡ (judged f piece 32).answer = sym c.in-Ok.is ∙ c.answer_of.ensures in
    fills_as (fills_more c.put_reading.ensures c.put_words.ensures) (ap (λ a. answer_text f piece a (judged f piece 32).words) is)

pub returns-in-Err-clause-text : goal.returns-in-Err-clause-text
returns-in-Err-clause-text c =
    let f = c.args.family in
    let piece = c.args.piece.now in
    let is : Err c.in-Err.refusal ≡ (judged f piece 32).answer = sym c.in-Err.is ∙ c.answer_of.ensures in
    fills_as (fills_more c.put_refusal.ensures (rw c.refusal_tells.ensures at c.put_where.ensures)) (ap (λ a. answer_text f piece a (judged f piece 32).words) is)
