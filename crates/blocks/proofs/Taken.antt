-- What `read` knows of a block that is read: how many words it has, and that each is right and gives its record.
use Prim.Native.Nat.{ℕ, ◌<◌}
use mathlib.Core.Path.{◌≡◌, ap}
use mathlib.Core.List.{List}
use native.Mathlib.Omega.{arith}
use lib.ListN.{length, get_or, drop}
use Rattle.std.specs.Prelude.{Ok, Err}
use Rattle.words.specs.Records.{blank}
use Rattle.words.specs.Reading.{word_of, right_word}
use Rattle.units.specs.declared.kinds.Family.{Family}
use Rattle.words.specs.declared.records.Word.{Word}
use Rattle.blocks.specs.declared.answers.Reading.{Reading}
use Rattle.blocks.specs.Judging.{Answer, judged}
use Rattle.blocks.specs.Rules.{word_start}
use Rattle.blocks.proofs.Counts.{Few, judged_by, judged_few}
use Rattle.blocks.proofs.Steps.{apart}
use Rattle.blocks.proofs.Typed.{block_words}

abbrev words_in : Answer → ℕ
words_in (Ok r) = r.words
words_in (Err x) = 0

module _ (f : Family) (s : List ℕ) (places : ℕ) (r : Reading) (e : (judged f s places).answer ≡ Ok r) where
  abbrev ws : List Word
  ws = (judged f s places).words

  pub taken_count : length ws ≡ r.words
  taken_count =
      judged_by f places (λ j. j.answer ≡ Ok r → length j.words ≡ r.words) (λ x small q. apart cc) (λ wide at rest ws small few q. ap words_in q) s e

  pub taken_few : Few r.words places
  taken_few = rw taken_count at (judged_few f places s)

  pub taken_word : (i : ℕ) → i < r.words → word_of f r.wide (drop (word_start r.wide i) s) ≡ right_word (get_or ws i blank)
  taken_word i less = block_words f s places r ws (λ j. record { answer = e j; words = ws }) i (omega (arith, taken_count))
