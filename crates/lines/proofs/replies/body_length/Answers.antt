-- How long each order's reply is.
use Rattle.std.proofs.Common.{◌-◌, ◌/◌, Bool, length, sym, ap, ◌∙◌}
use Rattle.state.specs.Image.{state_in}
use Rattle.lines.specs.Keeping.{get_n}
use Rattle.lines.proofs.Replying.{conf_body_long, get_length, get_body_long}
use Rattle.lines.proofs.replies.body_length.Goals as goal

pub overflow_sub-text : goal.overflow_sub-text
overflow_sub-text c =
    let a = c.args in
    get_length (state_in a.image.bytes.now) a.text.now a.order c.in-Get.is c.requires.0 c.requires.1.0

pub returns-in-Conf : goal.returns-in-Conf
returns-in-Conf c =
    let a = c.args in
    sym (conf_body_long (state_in a.image.bytes.now) a.text.now a.order c.in-Conf.field-0 c.in-Conf.is c.requires.1.0)

pub returns-in-Get : goal.returns-in-Get
returns-in-Get c =
    let a = c.args in
    c.get_length.ensures
    ∙ ap (λ (b : Bool). get_n b ((length a.text.now - 5) / 5)) c.is_wide.ensures
    ∙ sym (get_body_long (state_in a.image.bytes.now) a.text.now a.order c.in-Get.is c.requires.0 c.requires.1.0)
