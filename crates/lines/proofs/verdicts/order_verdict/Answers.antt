-- The shape of PUT and GET gives what theirs require of the line.
use Rattle.std.proofs.Common.{sym, ap, ◌∙◌}
use Rattle.std.specs.Prelude.{Ok}
use Rattle.state.specs.Image.{state_in}
use Rattle.state.proofs.Places.{series_read}
use Rattle.commands.proofs.Shape.{to_end, order_put, order_get}
use Rattle.lines.proofs.Lookups.{set_judged, groups_verdict_lem}
use Rattle.lines.proofs.verdicts.order_verdict.Goals as goal

pub word_of-requires : goal.word_of-requires
word_of-requires c = order_put _ (sym c.requires ∙ ap Ok c.in-Put.is)

pub slice_bounds-get_verdict-count : goal.slice_bounds-get_verdict-count
slice_bounds-get_verdict-count c = (order_get _ (sym c.requires ∙ ap Ok c.in-Get.is)).0

pub slice_bounds-get_verdict-start : goal.slice_bounds-get_verdict-start
slice_bounds-get_verdict-start c = (order_get _ (sym c.requires ∙ ap Ok c.in-Get.is)).0

pub returns-in-Set : goal.returns-in-Set
returns-in-Set c =
    let a = c.args in
    rw c.in-Set.is
    (c.set_verdict.ensures
    ∙ set_judged (state_in a.image.bytes.now) a.image.series c.count-count.result c.in-Set.number c.in-Set.parameter (series_read a.image.judged) c.count-count.ensures)

pub returns-in-Conf : goal.returns-in-Conf
returns-in-Conf c = rw (c.in-Conf.is, series_read c.args.image.judged) c.conf_verdict.ensures

pub returns-in-Get : goal.returns-in-Get
returns-in-Get c = rw c.in-Get.is (c.get_verdict.ensures ∙ rw to_end (groups_verdict_lem _ _ _ (order_get _ (sym c.requires ∙ ap Ok c.in-Get.is)).1))
