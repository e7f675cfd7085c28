-- The state is what the image says, and what is laid down of it is the setting, one entry and the count.
use Rattle.std.proofs.Common.{arith, ◌≡◌, get_or, set}
use Rattle.std.specs.Prelude.{None}
use lib.Seq.{get_or-set_same}
use Rattle.instrument.proofs.Ranges.{settings_few}
use Rattle.state.specs.Entries.{entry_of, blank_entry}
use Rattle.state.specs.Image.{state_in}
use Rattle.state.specs.declared.entries.Item.TheVariants.{Setting}
use Rattle.state.proofs.Images.{shaped, image_of_lem}
use Rattle.lines.proofs.Altering.{set_laid}
use Rattle.lines.proofs.orders.set.Goals as goal

pub returns : goal.returns
returns c =
    let l = c.args.image.now in
    let im = c.requires.0 in
    let from = state_in l in
    let shape = shaped from (image_of_lem l im.is).0 in
    let i = c.args.place in
    let p = c.args.parameter in
    let e = entry_of (Setting i) (get_or from.settings i 0) None in
    let parameter : get_or (set from.settings i p) i 0 ≡ p =
    get_or-set_same from.settings i p 0 (omega (arith, c.requires.1.0, settings_few c.args.series, shape.settings_long)) in
    let entry : get_or (set from.undo from.count e) from.count blank_entry ≡ e =
    get_or-set_same from.undo from.count e blank_entry (omega (arith, c.requires.1.1, shape.undo_long)) in
    rw (c.put_count.ensures, c.put_entry.ensures, c.put_parameter.ensures, c.state-s.ensures, parameter, entry)
    (set_laid im i p c.requires.1.0 c.requires.1.1)
