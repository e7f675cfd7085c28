-- What `put_end` leaves of the room: the terminator is the last of the block's bytes.
use Rattle.std.proofs.Common.{arith, ◌-◌}
use Rattle.blocks.proofs.Writing.{set_laid_at, set_crlf}
use Rattle.blocks.proofs.lists.put_end.Goals as goal

pub returns-then-crlf : goal.returns-then-crlf
returns-then-crlf c =
    let n = c.args.size in
    rw c.if-crlf.true (set_crlf c.args.out.now (n - 2) (n - 1) (omega arith) (omega arith))

pub returns-else-crlf : goal.returns-else-crlf
returns-else-crlf c =
    let n = c.args.size in
    rw c.if-crlf.false (set_laid_at c.args.out.now (n - 1) 13 (omega arith))
