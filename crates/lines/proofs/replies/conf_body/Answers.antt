-- A number that is accepted is listed; two numbers of four digits are laid down beside the slash.
use Rattle.std.specs.Prelude.{Some}
use Rattle.std.proofs.Common.{◌≡◌, get_or, sym, ap, ◌∙◌}
use Rattle.instrument.specs.Settings.{setting_place}
use Rattle.state.specs.Image.{state_in}
use Rattle.lines.specs.Replies.{conf_at}
use Rattle.lines.proofs.Lookups.{setting_in}
use Rattle.lines.proofs.Replying.{conf_laid}
use Rattle.lines.proofs.replies.conf_body.Goals as goal

pub parameter-requires : goal.parameter-requires
parameter-requires c = setting_in c.args.image.series c.args.number c.in-Some.place (sym c.setting_of.ensures ∙ c.in-Some.is)

pub returns-in-Some : goal.returns-in-Some
returns-in-Some c =
    let a = c.args in
    let settings = (state_in a.image.bytes.now).settings in
    let i = c.in-Some.place in
    let found : setting_place a.image.series a.number ≡ Some i = sym c.setting_of.ensures ∙ c.in-Some.is in
    let second = rw (c.from.ensures ∙ c.parameter.ensures) at c.put_number-in-Some.ensures in
    conf_laid a.number (get_or settings i 0) c.put_number.new.out c.put_number-in-Some.new.out c.put_number.ensures second
    ∙ sym (ap (conf_at settings a.number) found)
