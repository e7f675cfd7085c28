-- The most bytes that mending gives: those of the longest block.
use Prim.Native.Nat.{ℕ, zero, suc, ◌+◌, ◌*◌, ◌≤◌}
use mathlib.Core.Path.{refl}
use mathlib.Core.Bool.{Bool}
use mathlib.Core.List.{List, ◌++◌}
use native.Mathlib.Omega.{arith}
use lib.ListN.{length, drop, length-append}
use Rattle.figures.specs.Text.{star_bytes}
use Rattle.figures.proofs.Tests.{by_test}
use Rattle.blocks.specs.Judging.{is_wide, first_at}
use Rattle.blocks.proofs.Steps.{width_small}
use Rattle.blocks.proofs.Rooms.{star_small}
use Rattle.listings.specs.Mending.{word_taken, is_end, blank_mended, to_next, mended_from, mended}
use Rattle.listings.proofs.Turns.{end_small, over, at_end, goes, word, word_most, blank_most}

from_most : (more : ℕ) (wide : Bool) (at : ℕ) (rest : List ℕ) → length (mended_from more wide at rest).bytes ≤ 24 * more + 2
from_most zero wide at rest = rw (over 0 wide at rest refl) (end_small at rest).0
from_most (suc more) wide at rest =
    let size = word_taken wide rest in
    let to = to_next wide rest in
    let w = word wide at rest in
    let b = (blank_mended (at + size) (drop size rest)).bytes in
    let next = (mended_from more wide (at + to) (drop to rest)).bytes in
    by_test (is_end rest) (λ e. rw (at_end (suc more) wide at rest e) (omega (arith, (end_small at rest).0))) (λ e.
    rw (goes more wide at rest e)
    (omega (
      arith,
      length-append w (b ++ next),
      length-append b next,
      word_most wide at rest,
      width_small wide,
      blank_most (at + size) (drop size rest),
      from_most more wide (at + to) (drop to rest),
    )))

pub mended_most : (s : List ℕ) → length (mended s).bytes ≤ 771
unfolding mended
mended_most s =
    let wide = is_wide s in
    let rest = (mended_from 32 wide (first_at wide) (drop (first_at wide) s)).bytes in
    omega (arith, length-append (star_bytes wide) rest, star_small wide, from_most 32 wide (first_at wide) (drop (first_at wide) s))
