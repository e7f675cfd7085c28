-- The bytes kept, and a CR behind them, are run as a line.
use Rattle.std.proofs.Common.{◌≡◌, length}
use borrow.Author.Rules.{rules, length_unmapped}
use Rattle.port.proofs.Hearing.{line_laid, answers_so}
use Rattle.port.proofs.answer.Goals as goal

pub returns : goal.returns
returns c =
    let a = c.args in
    let p = a.port.now in
    let long : length p.bytes ≡ 101 = length_unmapped _ p.bytes 101 (search rules) in
    answers_so a.image.now p a.room.now c.line.result c.line.new.image c.line.new.room _
    (line_laid p c.held-kept.result.now c.lay.new.room long c.held-kept.ensures c.lay.ensures) c.line.ensures
