-- The invariant of the loop in `run_of`: the n words before the place are right.
use Prim.Native.Nat.{◌+◌, ◌*◌}
use mathlib.Core.Path.{◌≡◌}
use Rattle.words.specs.Reading.{word_size}
use Rattle.blocks.specs.Keeping.{Runs}
use Rattle.blocks.proofs.judging.run_of.Given as goal

abbrev pub invariant-loop-n : goal.invariant-loop-n
invariant-loop-n l = (l.at ≡ l.start + l.n * word_size l.wide) × Runs l.family l.wide l.start l.most l.s l.n
