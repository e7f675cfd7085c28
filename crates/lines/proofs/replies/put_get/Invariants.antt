-- The words of the groups that were taken off are laid down, and those of the others are left.
use Rattle.std.proofs.Common.{◌≡◌}
use Rattle.state.specs.Image.{state_in}
use Rattle.lines.proofs.Replying.{Got}
use Rattle.lines.proofs.replies.put_get.Given as goal

abbrev pub invariant-loop-group : goal.invariant-loop-group
invariant-loop-group l =
    (l.group-iterator.size ≡ 5) × Got l.wide (state_in l.image.bytes.now).values l.groups l.initial.room l.room l.group-iterator.rest.now l.at
