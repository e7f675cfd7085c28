-- The byte that is wrong is one of the word.
use Rattle.std.proofs.Common.{sym, ◌∙◌, arith}
use Rattle.instrument.proofs.Which.{put_within}
use Rattle.lines.proofs.verdicts.put_verdict.Goals as goal

pub overflow_add-result : goal.overflow_add-result
overflow_add-result c =
    omega (arith, put_within c.in_ok-place.place c.args.word c.in-Err.wrong.fault c.in-Err.wrong.at (sym c.put_judged.ensures ∙ c.in-Err.is))
