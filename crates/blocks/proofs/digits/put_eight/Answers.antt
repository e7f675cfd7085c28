-- What `put_eight` leaves of the room: the digits of n are those of its first half and those of its second.
use Rattle.blocks.proofs.Puts.{digit_halves}
use Rattle.blocks.proofs.digits.put_eight.Goals as goal

pub returns : goal.returns
returns c =
    digit_halves c.args.out.now c.put_four.new.out c.put_four-2.new.out 4 c.args.n c.requires.0 c.put_four.ensures c.put_four-2.ensures
