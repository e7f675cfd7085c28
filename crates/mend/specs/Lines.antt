-- The lines of a listing: each goes up to its CR, CR LF or LF, and a last one may have none.
use Rattle.std.specs.Prelude.{ℕ, Bool, true, false, cond, not, ◌&&◌, ◌||◌, eqb, length}
use mathlib.Core.List.{List, [], ◌∷◌, ◌++◌, flatten}
use Rattle.figures.specs.Text.{codes, cr, lf}
use Rattle.figures.specs.Bytes.{starts_with}
use Rattle.pieces.specs.Pieces.{is_joined}
use Rattle.pieces.specs.declared.Mark.{Mark}
use Rattle.pieces.specs.declared.Mark.TheVariants.{Open, Cr, Whole}

-- how far the line that comes in has got with the next byte
abbrev pub line_after : Mark → ℕ → Mark
line_after Open b = cond (eqb b cr) Cr (cond (eqb b lf) Whole Open)
line_after Cr b = Whole
line_after Whole b = Whole

-- the lines of what comes in after the start of one, byte by byte
unfoldable pub lines_from : Mark → List ℕ → List ℕ → List (List ℕ)
lines_from m p [] = cond (eqb (length p) 0) [] (p ∷ [])
lines_from m p (b ∷ s) = cond (is_joined m b) (lines_from (line_after m b) (p ++ (b ∷ [])) s) (p ∷ lines_from (line_after Open b) (b ∷ []) s)

abbrev pub lines_of : List ℕ → List (List ℕ)
lines_of s = lines_from Open [] s

-- what a line is, where these bytes follow it: its end is a CR, with LF if next, or an LF, and before its end stands neither. At the listing's end a line may
-- have none
unfoldable pub is_line : List ℕ → List ℕ → Bool
is_line [] rest = false
is_line (b ∷ []) rest = cond (eqb b cr) (not (starts_with (codes "\n") rest)) (eqb b lf || eqb (length rest) 0)
is_line (b ∷ c ∷ s) rest = cond (eqb b cr) (eqb c lf && eqb (length s) 0) (not (eqb b lf) && is_line (c ∷ s) rest)

unfoldable pub are_lines : List (List ℕ) → Bool
are_lines [] = true
are_lines (p ∷ ps) = is_line p (flatten ps) && are_lines ps
