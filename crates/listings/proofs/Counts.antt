-- How many edits mending makes: no more than a dot in each word, a blank and a CR.
use mathlib.Core.Path.{refl}
use mathlib.Core.Bool.{Bool}
use mathlib.Core.List.{List, ◌++◌}
use Prim.Native.Nat.{ℕ, zero, suc, ◌+◌, ◌≤◌}
use native.Mathlib.Omega.{arith}
use lib.ListN.{length, drop, length-append}
use Rattle.figures.proofs.Tests.{by_test}
use Rattle.blocks.specs.Judging.{is_wide, first_at}
use Rattle.listings.specs.Mending.{Mending, word_mended, word_taken, is_end, blank_mended, to_next, mended_from, mended}
use Rattle.listings.specs.Keeping.{one_if}
use Rattle.listings.proofs.Seen.{one_most}
use Rattle.listings.proofs.Turns.{end_small, over, at_end, goes, taken_least, word_edits, blank_ends}

abbrev pub told : Mending → ℕ
told m = length m.edits

-- a dot in each word, and a blank and a CR, which both stand before an end
from_few : (more : ℕ) (wide : Bool) (at : ℕ) (rest : List ℕ) → told (mended_from more wide at rest) + one_if (is_end rest) ≤ more + 2
from_few zero wide at rest = rw (over 0 wide at rest refl) (omega (arith, (end_small at rest).1, one_most (is_end rest)))
from_few (suc more) wide at rest =
    let size = word_taken wide rest in
    let to = to_next wide rest in
    let w = (word_mended wide at rest).edits in
    let b = (blank_mended (at + size) (drop size rest)).edits in
    let next = (mended_from more wide (at + to) (drop to rest)).edits in
    by_test (is_end rest) (λ e. rw (at_end (suc more) wide at rest e, e) (omega (arith, (end_small at rest).1))) (λ e.
    rw (goes more wide at rest e, e)
    (omega (
      arith,
      length-append w (b ++ next),
      length-append b next,
      word_edits wide at rest,
      taken_least wide rest,
      blank_ends wide at rest,
      from_few more wide (at + to) (drop to rest),
    )))

pub mended_few : (s : List ℕ) → told (mended s) ≤ 34
unfolding mended
mended_few s = omega (arith, from_few 32 (is_wide s) (first_at (is_wide s)) (drop (first_at (is_wide s)) s))
