-- What `read_word` returns where its index is none, and where it is one.
use Rattle.std.proofs.Common.{arith, ◌<◌, ◌+◌, length, sym, ◌∙◌}
use Rattle.std.proofs.lemmas.Result.{err_from_is_err_and}
use Rattle.words.specs.Records.{width}
use Rattle.words.proofs.Checks.{word_read}
use Rattle.words.proofs.reading.read_word.Goals as goal

pub returns-in_err-index : goal.returns-in_err-index
returns-in_err-index c =
    let a = c.args in
    let long : 7 + width a.wide < length a.s.now = omega (arith, c.width_of.ensures) in
    let p = err_from_is_err_and c.from_residual.result c.from_residual.ensures.1 in
    rw (p.1, p.2) (sym (word_read a.family a.wide a.s.now long ∙ rw (← c.index_at.ensures, c.in_err-index.was)))

pub returns : goal.returns
returns c =
    let a = c.args in
    let long : 7 + width a.wide < length a.s.now = omega (arith, c.width_of.ensures) in
    c.read_listed.ensures ∙ sym (word_read a.family a.wide a.s.now long ∙ rw (← c.index_at.ensures, c.in_ok-index.was))
