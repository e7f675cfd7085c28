-- No more lines are accepted than were sent.
use Rattle.std.proofs.Common.{◌≤◌}
use Rattle.benchreadings.proofs.send_often.Given as goal

abbrev pub invariant-loop : goal.invariant-loop
invariant-loop l = l.accepted ≤ l.counter
