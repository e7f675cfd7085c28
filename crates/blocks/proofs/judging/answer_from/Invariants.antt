-- The invariant of the loop in `answer_from`: whatever the records before the start are, the block from there on is what comes from the place on after some n
-- records, which nobody keeps.
use Prim.Native.Nat.{◌-◌, ◌≤◌}
use mathlib.Core.Path.{◌≡◌}
use mathlib.Core.List.{List}
use lib.ListN.{length, drop}
use Rattle.words.specs.declared.records.Word.{Word}
use Rattle.blocks.specs.Judging.{block_from}
use Rattle.blocks.proofs.judging.answer_from.Given as goal

abbrev pub invariant-loop-n : goal.invariant-loop-n
invariant-loop-n l =
    (l.n ≤ 32)
    × (l.at ≤ length l.s)
    × ((vs : List Word) → length vs ≡ l.count → (ws : List Word) × (length ws ≡ l.n)
    × (block_from l.family (32 - l.count) l.wide l.places l.start (drop l.start l.s) vs
    ≡ block_from l.family (32 - l.n) l.wide l.places l.at (drop l.at l.s) ws))

abbrev pub decreases-loop-n : goal.decreases-loop-n
decreases-loop-n l = 32 - l.n
