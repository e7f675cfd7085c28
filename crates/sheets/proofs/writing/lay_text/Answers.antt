-- `lay_text` meets its contract: the text fills the part of the room that it is laid in.
use Rattle.std.proofs.Common.{◌≡◌, ◌≤◌, ◌+◌, ◌-◌, ℕ, List, length, drop, refl, ◌∙◌, arith}
use borrow.Rule.Slice.PartMut.{mid_of, put_mid}
use lib.ListN.{length-drop}
use lib.Seq.{take_all}
use Rattle.figures.specs.Bytes.{laid}
use Rattle.figures.specs.Rooms.{put_at}
use Rattle.figures.proofs.Bytes.{laid_fits, laid_cut, length_mid}
use Rattle.sheets.proofs.writing.lay_text.Goals as goal

filled : (room text last : List ℕ) (at : ℕ) → at + length text ≤ length room → last ≡ laid text (mid_of at (at + length text - at) room)
    → put_mid at (at + length text - at) room last ≡ put_at room at text
filled room text last at h e =
    let n = length text in
    let size : at + n - at ≡ n = omega arith in
    let long = length_mid at n room h in
    let whole : laid text (mid_of at n room) ≡ text = laid_cut text (mid_of at n room) (omega arith) ∙ take_all (length (mid_of at n room)) text (omega arith) in
    rw (e, size, whole, laid_fits text (drop at room) (omega (arith, length-drop at room)))

pub returns : goal.returns
returns c =
    let a = c.args.room.now in
    let t = c.args.text.now in
    let within : a.at + length t ≤ length a.bytes.now = c.requires.within in
    record { puts = (omega arith, filled a.bytes.now t c.lay.new.room a.at within c.lay.ensures); same = refl }
