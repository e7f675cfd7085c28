-- A line's first 800 bytes are mended and told as the whole line is: `mended_enough` of crate listings, and no more of its text is shown.
use Prim.Native.Nat.{ℕ}
use mathlib.Core.Path.{◌≡◌, refl, ap, ◌∙◌}
use mathlib.Core.List.{List, [], ◌∷◌}
use lib.ListN.{take}
use Rattle.std.specs.Prelude.{Ok, Err}
use Rattle.figures.specs.Text.{lf}
use Rattle.figures.specs.Bytes.{run_of, is_other}
use Rattle.units.specs.declared.kinds.Family.{Family}
use Rattle.blocks.specs.Judging.{judged}
use Rattle.blocks.specs.Judging.{Answer}
use Rattle.listings.specs.Mending.{Mending, mended}
use Rattle.listings.specs.declared.edits.Edit.{Edit}
use Rattle.listings.proofs.Enough.{mended_enough}
use Rattle.reports.proofs.Enough.{text_enough}
use Rattle.errata.specs.Errata.{text_of, mended_text, block_by, told_by, fate_by, answer_of, block_of, told_of, fate_of}

pub block_enough : (f : Family) (s : List ℕ) → block_of f (take 800 s) ≡ block_of f s
block_enough f s = ap (λ (m : Mending). block_by (judged f m.bytes 32).answer m) (mended_enough s)

pub fate_enough : (f : Family) (s : List ℕ) → fate_of f (take 800 s) ≡ fate_of f s
fate_enough f s = ap (λ (m : Mending). fate_by (judged f m.bytes 32).answer m) (mended_enough s)

shown_enough : (s : List ℕ) → text_of (take 800 s) ≡ text_of s
shown_enough s = ap (λ t. take (run_of (is_other lf) t) t) (text_enough s)

lines_enough : (number : ℕ) (s : List ℕ) (es : List Edit) → mended_text number (take 800 s) es ≡ mended_text number s es
lines_enough number s [] = refl
lines_enough number s (e ∷ es) = rw (shown_enough s)

answer_enough : (number : ℕ) (s : List ℕ) (a : Answer) (m : Mending) → told_by a number (take 800 s) m ≡ told_by a number s m
answer_enough number s (Err r) m = refl
answer_enough number s (Ok k) m = lines_enough number s m.edits

pub told_enough : (f : Family) (number : ℕ) (s : List ℕ) → told_of f number (take 800 s) ≡ told_of f number s
told_enough f number s =
    ap (λ (m : Mending). told_by (judged f m.bytes 32).answer number (take 800 s) m) (mended_enough s) ∙ answer_enough number s (answer_of f s) (mended s)
