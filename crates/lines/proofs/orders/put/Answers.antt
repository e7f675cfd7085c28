-- The state is what the image says, and what is laid down of it is the value, one entry and the count.
use Rattle.std.proofs.Common.{arith, ◌≡◌, get_or, set}
use Rattle.std.specs.Prelude.{None}
use lib.Seq.{get_or-set_same}
use Rattle.state.specs.Entries.{entry_of, blank_entry}
use Rattle.state.specs.Image.{state_in}
use Rattle.state.specs.declared.entries.Item.TheVariants.{Stored}
use Rattle.state.proofs.Images.{shaped, image_of_lem}
use Rattle.lines.proofs.Altering.{put_laid}
use Rattle.lines.proofs.orders.put.Goals as goal

pub returns : goal.returns
returns c =
    let l = c.args.image.now in
    let im = c.requires.0 in
    let from = state_in l in
    let shape = shaped from (image_of_lem l im.is).0 in
    let i = c.args.place in
    let w = c.args.kept in
    let e = entry_of (Stored i) 0 (get_or from.values i None) in
    let value : get_or (set from.values i w) i None ≡ w =
    get_or-set_same from.values i w None (omega (arith, c.requires.1.0, shape.values_long)) in
    let entry : get_or (set from.undo from.count e) from.count blank_entry ≡ e =
    get_or-set_same from.undo from.count e blank_entry (omega (arith, c.requires.1.1, shape.undo_long)) in
    rw (c.put_count.ensures, c.put_entry.ensures, c.put_value.ensures, c.state-s.ensures, value, entry)
    (put_laid im i w c.requires.1.0 c.requires.1.1)
