-- The parts of what is told of a line come to the whole: of a line that was mended, and of one that was refused.
use Prim.Native.Nat.{ℕ, zero-le}
use mathlib.Core.Path.{◌≡◌, refl, sym, ◌∙◌}
use mathlib.Core.List.{List, [], ◌∷◌, ◌++◌}
use lib.ListN.{length}
use Rattle.std.specs.Prelude.{Ok, Err}
use Rattle.figures.specs.Pointing.{caret_text}
use Rattle.figures.specs.Rooms.{Puts}
use Rattle.figures.proofs.Putting.{puts_nothing}
use Rattle.units.specs.declared.kinds.Family.{Family}
use Rattle.blocks.specs.Answers.{refusal_tells}
use Rattle.blocks.specs.declared.answers.Refusal.{Refusal}
use Rattle.blocks.specs.declared.answers.Reading.{Reading}
use Rattle.blocks.specs.Judging.{Answer}
use Rattle.listings.specs.Mending.{mended}
use Rattle.listings.specs.declared.edits.Edit.{Edit}
use Rattle.reports.specs.Piece.{refusal_text}
use Rattle.errata.specs.declared.Fate.{Fate}
use Rattle.errata.specs.declared.Fate.TheVariants.{Refused}
use Rattle.errata.specs.Errata.{head_text, edits_text, carets_from, shown_text, mended_text}
use Rattle.errata.specs.Errata.{block_by, told_by, by_edits, fate_by, answer_of, block_of, told_of, fate_of}

pub mended_some : (number : ℕ) (line : List ℕ) (es : List Edit) → (length es ≡ 0 → ⊥)
    → mended_text number line es ≡ edits_text number es ++ (shown_text line ++ carets_from 0 es)
mended_some number line [] h = absurd (h refl)
mended_some number line (e ∷ es) h = refl

-- by what the reader answers of the mended bytes
module _ (f : Family) (s : List ℕ) (number : ℕ) (out text : List ℕ) (given : Answer) (j : given ≡ answer_of f s) where
  on : (a : Answer) (fate : Fate) {out' text' : List ℕ} {m n : ℕ} → given ≡ a → fate ≡ fate_by a (mended s)
      → Puts out 0 (block_by a (mended s)) m out' → Puts text 0 (told_by a number s (mended s)) n text'
      → Puts out 0 (block_of f s) m out' × (Puts text 0 (told_of f number s) n text' × (fate ≡ fate_of f s))
  on a fate is same p q =
      let all : a ≡ answer_of f s = sym is ∙ j in rw (← all) (p, (q, same))

  -- the refusal, the mended text and the caret
  pub refused_on : (r : Refusal) {text' : List ℕ} {n : ℕ} → given ≡ Err r
      → Puts text 0 (head_text number ++ (refusal_text r ++ (shown_text (mended s).bytes ++ caret_text (refusal_tells r)))) n text'
      → Puts out 0 (block_of f s) 0 out × (Puts text 0 (told_of f number s) n text' × (Refused ≡ fate_of f s))
  refused_on r is told = on (Err r) Refused is refl (puts_nothing out 0 zero-le) told

  -- the block, and what was mended
  pub read_on : (r : Reading) (fate : Fate) {one two : List ℕ} {m n : ℕ} → given ≡ Ok r → fate ≡ by_edits (mended s).edits
      → Puts out 0 (mended s).bytes m one → Puts text 0 (mended_text number s (mended s).edits) n two
      → Puts out 0 (block_of f s) m one × (Puts text 0 (told_of f number s) n two × (fate ≡ fate_of f s))
  read_on r fate is same block told = on (Ok r) fate is same block told
