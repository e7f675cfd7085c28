-- After i turns of `fill`, each of the list's first i records is its word's.
use Rattle.std.proofs.Common.{◌≡◌, ◌<◌, ℕ, drop, get_or}
use Rattle.words.specs.Records.{blank}
use Rattle.words.specs.Reading.{word_in, word_of}
use Rattle.blocks.specs.Rules.{word_start}
use Rattle.blocks.proofs.lists.fill.Given as goal

abbrev pub invariant-loop-i : goal.invariant-loop-i
invariant-loop-i l = (k : ℕ) → k < l.i → get_or l.list k blank ≡ word_in (word_of l.family l.wide (drop (word_start l.wide k) l.s))
