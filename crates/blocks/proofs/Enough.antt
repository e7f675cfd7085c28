-- A block is at most 771 bytes, so that what lies further in its input is never looked at, whatever it holds.
use Prim.Native.Nat.{ℕ, zero, suc, ◌+◌, ◌*◌, ◌≤◌}
use mathlib.Core.Path.{◌≡◌, refl, sym, ap, ◌∙◌}
use mathlib.Core.Bool.{Bool, true, false}
use mathlib.Core.List.{List, [], ◌∷◌, ◌++◌}
use native.Mathlib.Omega.{arith}
use borrow.Author.Tests.{lt-ltb, le-ltb, leb-true, leb-false}
use lib.Dec.{leb, eqb-suc-zero}
use lib.ListN.{length, take, drop, length-append, length-drop, take-append-drop}
use lib.Seq.{drop-append-le, take_all, length-take-le}
use Rattle.words.specs.Reading.{word_size}
use Rattle.units.specs.declared.kinds.Family.{Family}
use Rattle.words.specs.declared.records.Word.{Word}
use Rattle.words.proofs.Places.{never_past}
use Rattle.blocks.specs.Judging.{is_at, is_wide, first_at, ended_at, block_from, judged}
use Rattle.blocks.proofs.Steps.{width_small, start_small}

-- a byte of s is looked at in s, whatever follows
at_past : (b : ℕ) (s rest : List ℕ) → 1 ≤ length s → is_at b (s ++ rest) ≡ is_at b s
at_past b [] rest h = absurd (omega arith)
at_past b (x ∷ s) rest h = rw (lt-ltb 0 (suc (length (s ++ rest))) (omega arith), lt-ltb 0 (suc (length s)) (omega arith))

end_past : (wide : Bool) (at : ℕ) (s rest : List ℕ) (n : ℕ) → 2 ≤ length s → ended_at wide at (s ++ rest) n ≡ ended_at wide at s n
end_past wide at s rest n h =
    rw (drop-append-le 1 s rest (omega arith), at_past 10 (drop 1 s) rest (omega (arith, length-drop 1 s)))

-- so many words of either width, and an end
from_past : (f : Family) (more : ℕ) (wide : Bool) (places at : ℕ) (s rest : List ℕ) (ws : List Word) → 24 * more + 2 ≤ length s
    → block_from f more wide places at (s ++ rest) ws ≡ block_from f more wide places at s ws
unfolding block_from
from_past f zero wide places at s rest ws h = rw (at_past 13 s rest (omega arith), end_past wide at s rest (length ws) (omega arith))
from_past f (suc more) wide places at s rest ws h =
    let small = width_small wide in
    let size = word_size wide in
    let left : 24 * more + 2 ≤ length (drop size s) = omega (arith, length-drop size s) in
    rw (
      at_past 13 s rest (omega arith),
      end_past wide at s rest (length ws) (omega arith),
      le-ltb (length (s ++ rest)) size (omega (arith, length-append s rest)),
      le-ltb (length s) size (omega arith),
      never_past f wide s rest (omega arith),
      drop-append-le size s rest (omega arith),
      from_past f more wide places (at + size) (drop size s) rest _ left,
    )

-- "an optional `*`, 1 to 32 words, then CR or CR LF"
pub judged_past : (f : Family) (s rest : List ℕ) (places : ℕ) → 771 ≤ length s → judged f (s ++ rest) places ≡ judged f s places
judged_past f [] rest places h = absurd (omega arith)
judged_past f (b ∷ s) rest places h =
    let wide = is_wide (b ∷ s) in
    let start = first_at wide in
    let small = start_small wide in
    let after = drop start (b ∷ s) in
    let left : 770 ≤ length after = omega (arith, length-drop start (b ∷ s)) in
    rw (
      eqb-suc-zero (length (s ++ rest)),
      eqb-suc-zero (length s),
      drop-append-le start (b ∷ s) rest (omega arith),
      at_past 13 after rest (omega arith),
      from_past f 32 wide places start after rest [] (omega arith),
    )

pub judged_enough : (f : Family) (s : List ℕ) → judged f (take 800 s) 32 ≡ judged f s 32
judged_enough f s = by (leb (length s) 800) refl
  where
    by : (q : Bool) → leb (length s) 800 ≡ q → judged f (take 800 s) 32 ≡ judged f s 32
    by true e = rw (take_all 800 s (leb-true (length s) 800 e))
    by false e =
        let long = leb-false (length s) 800 e in
        let size = length-take-le 800 s (omega arith) in
        sym (judged_past f (take 800 s) (drop 800 s) 32 (omega arith)) ∙ ap (λ t. judged f t 32) (take-append-drop 800 s)
