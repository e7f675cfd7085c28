-- A block of a listing is mended by its first 771 bytes: what lies further in its input is never looked at, whatever it holds.
use Prim.Native.Nat.{ℕ, zero, suc, ◌+◌, ◌*◌, ◌≤◌}
use mathlib.Core.Path.{◌≡◌, refl, sym, ap, ◌∙◌}
use mathlib.Core.Bool.{Bool}
use mathlib.Core.List.{List, [], ◌∷◌, ◌++◌}
use native.Mathlib.Omega.{arith}
use borrow.Author.Tests.{leb-true, leb-false}
use lib.Dec.{leb}
use lib.ListN.{length, take, drop, length-drop, take-append-drop}
use lib.Seq.{drop-append-le, take_all, length-take-le}
use Rattle.figures.specs.Text.{star_bytes}
use Rattle.figures.proofs.Tests.{by_test}
use Rattle.blocks.specs.Judging.{is_wide, first_at}
use Rattle.blocks.proofs.Steps.{width_small, start_small}
use Rattle.listings.specs.Mending.{Mending, copied, joined, word_taken, is_end, to_next, mended_from, mended}
use Rattle.listings.proofs.Seen.{ends_on}
use Rattle.listings.proofs.Turns.{over, at_end, step, steps, word_edits, blank_edits, end_on, steps_on}

-- so many words of either width, and an end
from_past : (more : ℕ) (wide : Bool) (at : ℕ) (s rest : List ℕ) → 24 * more + 2 ≤ length s → mended_from more wide at (s ++ rest) ≡ mended_from more wide at s
from_past zero wide at s rest h = rw (over 0 wide at (s ++ rest) refl, over 0 wide at s refl) (end_on at s rest (omega arith))
from_past (suc more) wide at s rest h =
    let to = to_next wide s in
    let small = width_small wide in
    let size = word_edits wide at s in
    let blank = blank_edits at (drop (word_taken wide s) s) in
    by_test (is_end s) (λ e.
    at_end (suc more) wide at (s ++ rest) (ends_on s rest (omega arith) ∙ e) ∙ end_on at s rest (omega arith) ∙ sym (at_end (suc more) wide at s e)) (λ e.
    steps_on wide at s rest (omega arith) more e
    ∙ ap (joined (step wide at s)) (from_past more wide (at + to) (drop to s) rest (omega (arith, length-drop to s)))
    ∙ sym (steps more wide at s e))

pub mended_past : (s rest : List ℕ) → 771 ≤ length s → mended (s ++ rest) ≡ mended s
unfolding mended
mended_past [] rest h = absurd (omega arith)
mended_past (b ∷ s) rest h =
    let wide = is_wide (b ∷ s) in
    let first = first_at wide in
    let small = start_small wide in
    let after = drop first (b ∷ s) in
    ap (λ (m : Mending). joined (copied (star_bytes wide)) m)
    (ap (mended_from 32 wide first) (drop-append-le first (b ∷ s) rest (omega arith))
    ∙ from_past 32 wide first after rest (omega (arith, length-drop first (b ∷ s))))

pub mended_enough : (s : List ℕ) → mended (take 800 s) ≡ mended s
mended_enough s =
    by_test (leb (length s) 800) (λ e. rw (take_all 800 s (leb-true (length s) 800 e))) (λ e.
    let long = leb-false (length s) 800 e in
    let size = length-take-le 800 s (omega arith) in
    sym (mended_past (take 800 s) (drop 800 s) (omega arith)) ∙ ap mended (take-append-drop 800 s))
