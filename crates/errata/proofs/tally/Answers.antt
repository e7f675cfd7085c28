-- `tally` meets its contract: its four fields and LF come to its text.
use Rattle.std.proofs.Common.{rules, ◌∙◌}
use Rattle.figures.specs.Rooms.{Puts}
use Rattle.figures.proofs.Putting.{fills_more, fills_new}
use Rattle.errata.specs.Errata.{tally_text}
use Rattle.errata.proofs.tally.Goals as goal

pub returns : goal.returns
returns c =
    let a = c.args in
    let new = c.new-told.ensures in
    let fills =
    fills_more c.put_field.ensures
    (fills_more c.put_field-2.ensures (fills_more c.put_field-3.ensures (fills_more c.put_field-4.ensures c.put.ensures))) in
    let all : Puts a.room.now 0 (tally_text a.lines a.unchanged a.mended a.refused) c.put.new.self.at c.put.new.self.bytes.now =
    fills_new new.bytes new.at fills in
    let same = fills.same ∙ new.same in
    search rules
