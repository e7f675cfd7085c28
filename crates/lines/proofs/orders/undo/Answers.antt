-- The state is what the image says, and what is laid down of it is the item that has its former content again, one entry and the count.
use Rattle.std.proofs.Common.{arith, ◌≡◌, ◌-◌, ℕ, get_or, set}
use lib.Seq.{get_or-set_same}
use Rattle.state.specs.Entries.{entries_n, blank_entry}
use Rattle.state.specs.Image.{state_in}
use Rattle.state.proofs.Steps.{state_parts}
use Rattle.state.proofs.Images.{shaped, image_of_lem}
use Rattle.lines.proofs.Altering.{undo_laid_lem}
use Rattle.lines.proofs.orders.undo.Goals as goal

pub returns : goal.returns
returns c =
    let l = c.args.image.now in
    let im = c.requires.0 in
    let from = state_in l in
    let shape = shaped from (image_of_lem l im.is).0 in
    let n : ℕ = from.count - 1 in
    let few = (state_parts entries_n from (image_of_lem l im.is).0).few in
    let entry : get_or (set from.undo n blank_entry) n blank_entry ≡ blank_entry =
    get_or-set_same from.undo n blank_entry blank_entry (omega (arith, c.requires.1, few, shape.undo_long)) in
    rw (c.put_count.ensures, c.put_entry.ensures, c.put_back.ensures, c.blank_entry.ensures, c.state-s.ensures, entry)
    (undo_laid_lem im c.requires.1)
