-- The groups that are left are judged as all of them are.
use Rattle.std.proofs.Common.{◌≡◌}
use Rattle.state.specs.Image.{state_in}
use Rattle.commands.specs.Shapes.{groups_in}
use Rattle.lines.specs.Keeping.{groups_verdict}
use Rattle.lines.proofs.verdicts.get_verdict.Given as goal

abbrev pub invariant-loop-group : goal.invariant-loop-group
invariant-loop-group l =
    let values = (state_in l.image.bytes.now).values in
    let left = l.group-iterator.rest.now in
    (l.group-iterator.size ≡ 5) × (groups_verdict values (groups_in left) left ≡ groups_verdict values (groups_in l.groups) l.groups)
