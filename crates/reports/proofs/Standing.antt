-- Where the words of a piece that was read stand, and that each of them gives the record that was judged.
use Prim.Native.Nat.{ℕ, ◌+◌, ◌<◌, ◌≤◌}
use mathlib.Core.Path.{◌≡◌, ap}
use mathlib.Core.Bool.{Bool}
use mathlib.Core.List.{List}
use native.Mathlib.Nat.{mul-le-mul, le_refl}
use native.Mathlib.Omega.{arith}
use lib.ListN.{length, get_or, drop}
use Rattle.words.specs.Records.{blank}
use Rattle.words.specs.Reading.{word_size, word_of, word_in}
use Rattle.units.specs.declared.kinds.Family.{Family}
use Rattle.words.specs.declared.records.Word.{Word}
use Rattle.blocks.specs.Judging.{judged}
use Rattle.blocks.specs.Rules.{read_as, word_start}
use Rattle.blocks.specs.declared.answers.Reading.{Reading}
use Rattle.std.specs.Prelude.{Ok}
use Rattle.blocks.proofs.Accepted.{accepted}
use Rattle.blocks.proofs.Counts.{judged_few}
use Rattle.blocks.proofs.Typed.{block_words, block_ends}
use Rattle.blocks.proofs.Steps.{is_inside, width_small, start_small}

module _ (f : Family) (s : List ℕ) (r : Reading) (e : (judged f s 32).answer ≡ Ok r) where
  abbrev pub words : List Word
  words = (judged f s 32).words

  is_read : judged f s 32 ≡ read_as r words
  is_read = λ i. record { answer = e i; words = words }

  pub counted : r.words ≡ length words
  counted = (accepted f s 32 r words is_read).counted

  pub few : length words ≤ 32
  few = (judged_few f 32 s).0

  -- the CR stands after the last word, so each starts before it
  pub starts_inside : (i : ℕ) → i ≤ length words → word_start r.wide i ≤ length s
  starts_inside i h =
      let last = is_inside 13 s (word_start r.wide (length words)) (block_ends f s 32 r words is_read) in
      omega (arith, last, mul-le-mul h (le_refl (word_size r.wide)))

  pub word_is : (i : ℕ) → i < length words → word_in (word_of f r.wide (drop (word_start r.wide i) s)) ≡ get_or words i blank
  word_is i h = ap word_in (block_words f s 32 r words is_read i h)

-- a place is small
pub place_small : (wide : Bool) (i : ℕ) → i ≤ 32 → word_start wide i + word_size wide ≤ 793
place_small wide i h =
    let size : word_size wide ≤ 24 = omega (arith, width_small wide) in
    omega (arith, start_small wide, mul-le-mul h size)
