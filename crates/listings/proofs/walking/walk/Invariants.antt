-- The loop of `walking::walk` keeps `Walking`, and puts into the room that was lent.
use Rattle.std.proofs.Common.{◌≡◌, ◌-◌}
use Rattle.listings.proofs.Walks.{Walking}
use Rattle.listings.proofs.walking.walk.Given as goal

abbrev pub invariant-loop : goal.invariant-loop
invariant-loop l =
    Walking l.s l.initial.out.bytes.now l.initial.out.at l.wide l.out.bytes.now l.edits l.from l.out.at (32 - l.counter)
    × (l.out.bytes.ghost_name ≡ l.initial.out.bytes.ghost_name)
