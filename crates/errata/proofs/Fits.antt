-- The block of any line fits 771 bytes, and what is told of it 3,800: 65 for each of at most 34 edits, at most 770 bytes of its text with LF, and at most 771
-- columns of carets with LF; of a refused line 82, its text, and at most 769 blanks with the caret and LF.
use Prim.Native.Nat.{ℕ, ◌+◌, ◌-◌, ◌*◌, ◌≤◌}
use mathlib.Core.Path.{◌≡◌, refl}
use mathlib.Core.List.{List, [], ◌∷◌, ◌++◌}
use native.Mathlib.Omega.{arith}
use borrow.Author.Tests.{ltb-false}
use lib.Dec.{eqb, ltb}
use lib.ListN.{length, replicate, length-append, length-map, length-take, length-replicate}
use Rattle.std.specs.Prelude.{Ok, Err}
use Rattle.figures.specs.Text.{codes, byte}
use Rattle.figures.specs.Pointing.{caret_text}
use Rattle.figures.proofs.Decimal.{digits_length}
use Rattle.figures.proofs.Places.{digits_most}
use Rattle.units.specs.declared.kinds.Family.{Family}
use Rattle.blocks.specs.Answers.{refusal_tells}
use Rattle.blocks.specs.Judging.{Answer}
use Rattle.blocks.proofs.Steps.{cond_by}
use Rattle.listings.specs.Edits.{dot_kind, blank_kind}
use Rattle.listings.specs.Mending.{Mending, mended}
use Rattle.listings.specs.Telling.{taken, InOrder}
use Rattle.listings.specs.declared.edits.Edit.{Edit}
use Rattle.listings.proofs.Counts.{mended_few}
use Rattle.listings.proofs.Sizes.{mended_most}
use Rattle.listings.proofs.Told.{in_order}
use Rattle.reports.specs.Piece.{refusal_text}
use Rattle.reports.proofs.Fits.{refusal_short, told_near}
use Rattle.errata.specs.Errata.{head_text, kind_text, edit_text, edits_text, carets_from, shown_text, mended_text}
use Rattle.errata.specs.Errata.{block_by, told_by, answer_of, block_of, told_of, tally_text}

kind_short : (kind : ℕ) → length (kind_text kind) ≤ 5
kind_short kind =
    cond_by (λ t. length t ≤ 5) (eqb kind dot_kind) _ _ (λ _. omega arith)
    (λ _. cond_by (λ t. length t ≤ 5) (eqb kind blank_kind) _ _ (λ _. omega arith) (λ _. omega arith))

edit_short : (number : ℕ) (e : Edit) → length (edit_text number e) ≤ 65
edit_short number e =
    simp (length-append, digits_length) (omega (arith, digits_most number, digits_most e.place, kind_short e.kind))

edits_short : (number : ℕ) (es : List Edit) → length (edits_text number es) ≤ length es * 65
unfolding edits_text
edits_short number [] = omega arith
edits_short number (e ∷ es) =
    omega (arith, length-append (edit_text number e) (edits_text number es), edit_short number e, edits_short number es)

-- from one column to another, and LF
carets_short : (from at to : ℕ) (es : List Edit) → at ≤ to → InOrder from es to → length (carets_from at es) ≤ to - at + 1
unfolding carets_from InOrder
carets_short from at to [] h o = omega arith
carets_short from at to (e ∷ es) h o =
    let blanks = replicate (e.place - at) (byte " ") in
    let others = carets_from (e.place + 1) es in
    cond_by (λ t. length t ≤ to - at + 1) (ltb e.place at) (carets_from at es) (blanks ++ (codes "^" ++ others))
    (λ _. carets_short e.place at to es h o.2)
    (λ c. omega (
      arith,
      ltb-false e.place at c,
      length-append blanks (codes "^" ++ others),
      length-replicate (e.place - at) (byte " "),
      carets_short e.place (e.place + 1) to es (omega arith) o.2,
    ))

shown_short : (line : List ℕ) → length (shown_text line) ≤ 771
shown_short line = simp (length-append, length-map, length-take) (omega arith)

mended_short : (number : ℕ) (line : List ℕ) (es : List Edit) (to : ℕ) → length es ≤ 34 → to ≤ 771 → InOrder 0 es to → length (mended_text number line es) ≤ 3800
mended_short number line [] to h k o = omega arith
mended_short number line (e ∷ es) to h k o =
    let lines = edits_text number (e ∷ es) in
    let carets = carets_from 0 (e ∷ es) in
    omega (
      arith,
      length-append lines (shown_text line ++ carets),
      length-append (shown_text line) carets,
      edits_short number (e ∷ es),
      shown_short line,
      carets_short 0 0 to (e ∷ es) (omega arith) o,
    )

told_short : (f : Family) (number : ℕ) (line : List ℕ) (a : Answer) → answer_of f line ≡ a → length (told_by a number line (mended line)) ≤ 3800
told_short f number line (Err r) e =
    let place = refusal_tells r in
    let bytes = (mended line).bytes in
    let near = told_near f bytes r e in
    let caret : length (caret_text place) ≤ 771 = simp (length-append, length-replicate) (omega arith) in
    let head : length (head_text number) ≤ 25 = simp digits_length (omega (arith, digits_most number)) in
    omega (
      arith,
      length-append (head_text number) (refusal_text r ++ (shown_text bytes ++ caret_text place)),
      length-append (refusal_text r) (shown_text bytes ++ caret_text place),
      length-append (shown_text bytes) (caret_text place),
      refusal_short r,
      shown_short bytes,
    )
told_short f number line (Ok k) e =
    mended_short number line (mended line).edits (taken (mended line)) (mended_few line) (omega (arith, mended_most line)) (in_order line)

pub told_fits : (f : Family) (number : ℕ) (line : List ℕ) → length (told_of f number line) ≤ 3800
told_fits f number line = told_short f number line (answer_of f line) refl

block_short : (a : Answer) (m : Mending) → length m.bytes ≤ 771 → length (block_by a m) ≤ 771
block_short (Err r) m h = omega arith
block_short (Ok k) m h = h

pub block_fits : (f : Family) (line : List ℕ) → length (block_of f line) ≤ 771
block_fits f line = block_short (answer_of f line) (mended line) (mended_most line)

pub tally_fits : (lines unchanged mended refused : ℕ) → length (tally_text lines unchanged mended refused) ≤ 120
tally_fits lines unchanged mended refused =
    simp (length-append, digits_length) (omega (arith, digits_most lines, digits_most unchanged, digits_most mended, digits_most refused))
