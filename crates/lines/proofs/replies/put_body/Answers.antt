-- Each arm's text is the reply of its orders.
use Rattle.std.proofs.Common.{◌≡◌, sym, ap, ◌∙◌}
use Rattle.std.specs.Prelude.{Ok}
use Rattle.commands.specs.declared.shapes.Order.{Order}
use Rattle.instrument.specs.declared.settings.Series.{Series}
use Rattle.state.specs.Image.{state_in}
use Rattle.state.proofs.Places.{series_read}
use Rattle.commands.proofs.Shape.{to_end}
use Rattle.lines.specs.Verdicts.{conf_verdict, order_verdict}
use Rattle.lines.specs.Replies.{conf_body, body_of}
use Rattle.lines.proofs.Replying.{get_length, get_body, get_fits}
use Rattle.lines.proofs.replies.put_body.Goals as goal

pub conf_body-requires : goal.conf_body-requires
conf_body-requires c =
    let a = c.args in
    ap (λ (k : Series). conf_verdict k c.in-Conf.number) (sym (series_read a.image.judged))
    ∙ sym (ap (λ (o : Order). order_verdict (state_in a.image.bytes.now) a.text.now (Ok o)) c.in-Conf.is) ∙ c.requires.0.1.0

pub slice_bounds-put_words-count : goal.slice_bounds-put_words-count
slice_bounds-put_words-count c =
    let a = c.args in
    get_length (state_in a.image.bytes.now) a.text.now a.order c.in-Get.is c.requires.0.0 c.requires.0.1.0

pub slice_bounds-put_words-start : goal.slice_bounds-put_words-start
slice_bounds-put_words-start c =
    let a = c.args in
    get_length (state_in a.image.bytes.now) a.text.now a.order c.in-Get.is c.requires.0.0 c.requires.0.1.0

pub put_words-requires : goal.put_words-requires
put_words-requires c =
    let a = c.args in
    rw c.is_wide.ensures (get_fits (state_in a.image.bytes.now) a.text.now a.order c.in-Get.is c.requires.0.0 c.requires.0.1.0 a.room.now c.requires.1)

pub returns-in-Conf : goal.returns-in-Conf
returns-in-Conf c =
    let a = c.args in
    let s = state_in a.image.bytes.now in
    let is : c.conf_body.result ≡ body_of s a.text.now (Ok a.order) =
    c.conf_body.ensures ∙ ap (λ (k : Series). conf_body k s.settings c.in-Conf.number) (sym (series_read a.image.judged))
    ∙ sym (ap (λ (o : Order). body_of s a.text.now (Ok o)) c.in-Conf.is)
    in
    rw (← is) c.put_text.ensures

pub returns-in-Get : goal.returns-in-Get
returns-in-Get c =
    let a = c.args in
    let body = get_body (state_in a.image.bytes.now) a.text.now a.order c.in-Get.is c.requires.0.0 c.requires.0.1.0 in
    rw (body, ← c.is_wide.ensures, ← to_end 5 a.text.now) c.put_words.ensures
