-- An input cut into pieces: it "cuts after each CR (with LF if next) .. a last piece without CR included".
use Rattle.std.specs.Prelude.{ℕ, zero, suc, ◌+◌, Bool, true, false, cond, List, [], ◌∷◌, ◌++◌, eqb, length, take, drop}
use Rattle.figures.specs.Text.{codes, cr, lf}
use Rattle.figures.specs.Bytes.{starts_with}
use Rattle.pieces.specs.declared.Mark.{Mark}
use Rattle.pieces.specs.declared.Mark.TheVariants.{Open, Cr, Whole}

-- the length of the first piece
unfoldable pub cut_of : List ℕ → ℕ
cut_of [] = 0
cut_of (b ∷ l) = cond (eqb b cr) (cond (starts_with (codes "\n") l) 2 1) (cut_of l + 1)

-- the pieces, at most n of them: an input has no more pieces than bytes
unfoldable pub pieces_by : ℕ → List ℕ → List (List ℕ)
pieces_by zero l = []
pieces_by (suc n) l = cond (eqb (length l) 0) [] (take (cut_of l) l ∷ pieces_by n (drop (cut_of l) l))

abbrev pub pieces : List ℕ → List (List ℕ)
pieces l = pieces_by (length l) l

-- the same byte by byte: whether the next byte belongs to the piece that comes in, and how far the piece has got with it
abbrev pub is_joined : Mark → ℕ → Bool
is_joined Open b = true
is_joined Cr b = eqb b lf
is_joined Whole b = false

abbrev pub mark_after : Mark → ℕ → Mark
mark_after Open b = cond (eqb b cr) Cr Open
mark_after Cr b = Whole
mark_after Whole b = Whole

-- the pieces of what comes in after the start of one; `fed_pieces`, in proofs/Fed.antt, shows that they are the same
unfoldable pub fed_from : Mark → List ℕ → List ℕ → List (List ℕ)
fed_from m p [] = cond (eqb (length p) 0) [] (p ∷ [])
fed_from m p (b ∷ s) = cond (is_joined m b) (fed_from (mark_after m b) (p ++ (b ∷ [])) s) (p ∷ fed_from (mark_after Open b) (b ∷ []) s)
