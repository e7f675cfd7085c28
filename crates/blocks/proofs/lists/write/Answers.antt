-- What `write` asks of its calls and returns: what they leave, one after the other, is the block that is written, or the room as it was.
use Rattle.std.proofs.lemmas.Result.{err_from_is_err_and}
use Rattle.blocks.proofs.Writing.{refused_there, taken_there, words_there, end_there, writes_there}
use Rattle.blocks.proofs.lists.write.Goals as goal

pub returns-in_err-size : goal.returns-in_err-size
returns-in_err-size c =
    let a = c.args in
    let p = err_from_is_err_and c.from_residual.result c.from_residual.ensures.1 in
    rw (p.1, p.2) (refused_there a.family a.list.now a.wide a.crlf a.out.now c.judge_list.ensures c.in_err-size.was)

pub put_words-requires : goal.put_words-requires
put_words-requires c =
    let a = c.args in
    let put = taken_there a.family a.list.now a.wide a.crlf a.out.now c.judge_list.ensures c.in_ok-size.was in
    words_there a.family a.list.now a.wide a.crlf a.out.now _ put c.put_star.new.out c.put_star.ensures

pub put_end-requires : goal.put_end-requires
put_end-requires c =
    let a = c.args in
    let put = taken_there a.family a.list.now a.wide a.crlf a.out.now c.judge_list.ensures c.in_ok-size.was in
    end_there a.family a.list.now a.wide a.crlf a.out.now _ put c.put_star.new.out c.put_star.ensures c.put_words.new.out c.put_words.ensures

pub returns : goal.returns
returns c =
    let a = c.args in
    let put = taken_there a.family a.list.now a.wide a.crlf a.out.now c.judge_list.ensures c.in_ok-size.was in
    writes_there a.family a.list.now a.wide a.crlf a.out.now _ put c.put_star.new.out c.put_star.ensures c.put_words.new.out c.put_words.ensures
    c.put_end.new.out c.put_end.ensures
