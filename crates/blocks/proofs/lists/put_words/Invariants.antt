-- After i turns of `put_words`, the bytes of the first i records are laid in the room, one word after the other.
use Rattle.std.proofs.Common.{◌≡◌, take}
use Rattle.blocks.specs.Judging.{first_at}
use Rattle.blocks.specs.Composing.{words_bytes}
use Rattle.blocks.specs.Keeping.{laid_at}
use Rattle.blocks.proofs.lists.put_words.Given as goal

abbrev pub invariant-loop-i : goal.invariant-loop-i
invariant-loop-i l = l.out ≡ laid_at (first_at l.wide) (words_bytes l.family l.wide (take l.i l.list)) l.fn.out
