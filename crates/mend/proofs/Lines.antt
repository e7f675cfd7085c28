-- The lines of a listing are all of it: `lines_whole`; each is a line, and ends where it should: `lines_right`; and it has no others: `lines_only`.
use Prim.Native.Nat.{ℕ, ◌<◌}
use mathlib.Core.Path.{◌≡◌, refl, sym, ap, ◌∙◌}
use mathlib.Core.Bool.{Bool, true, false, cond, not, ◌&&◌, ◌||◌, false≢true, and-eq-true_iff}
use mathlib.Core.List.{List, [], ◌∷◌, ◌++◌, append_assoc, append-nil, flatten}
use native.Mathlib.Omega.{arith}
use borrow.Author.Tests.{eqb-true, ne_eqb, not-true}
use lib.Dec.{eqb, eqb-suc-zero}
use lib.ListN.{length, length-append}
use Rattle.figures.specs.Bytes.{starts_with}
use Rattle.pieces.specs.Pieces.{is_joined}
use Rattle.pieces.specs.declared.Mark.{Mark}
use Rattle.pieces.specs.declared.Mark.TheVariants.{Open, Cr, Whole}
use Rattle.mend.specs.Lines.{line_after, lines_from, lines_of, is_line, are_lines}

longer : (p : List ℕ) (b : ℕ) → 0 < length (p ++ (b ∷ []))
longer p b = omega (arith, length-append p (b ∷ []))

-- what came in since a line's start comes out, with what is still to come

whole_from : (s : List ℕ) (m : Mark) (p : List ℕ) → flatten (lines_from m p s) ≡ p ++ s
unfolding lines_from flatten
whole_from [] m [] = refl
whole_from [] m (x ∷ p) = rw (eqb-suc-zero (length p))
whole_from (b ∷ s) m p = by (is_joined m b) (λ n q. whole_from s n q)
  where
    by : (t : Bool) → ((n : Mark) (q : List ℕ) → flatten (lines_from n q s) ≡ q ++ s)
        → flatten (cond t (lines_from (line_after m b) (p ++ (b ∷ [])) s) (p ∷ lines_from (line_after Open b) (b ∷ []) s)) ≡ p ++ (b ∷ s)
    by true ih = ih (line_after m b) (p ++ (b ∷ [])) ∙ append_assoc p (b ∷ []) s
    by false ih = ap (λ l. p ++ l) (ih (line_after Open b) (b ∷ []))

pub lines_whole : (s : List ℕ) → flatten (lines_of s) ≡ s
lines_whole s = whole_from s Open []

-- what came in since a line's start: nothing that ends a line, a line that an LF may belong to, or a line

abbrev Stands : Mark → List ℕ → Type 0
Stands Open p = ((c : ℕ) (s rest : List ℕ) → is_line (p ++ (c ∷ s)) rest ≡ is_line (c ∷ s) rest) × (0 < length p → is_line p [] ≡ true)
Stands Cr p =
    ((rest : List ℕ) → starts_with (10 ∷ []) rest ≡ false → is_line p rest ≡ true)
    × ((b : ℕ) (rest : List ℕ) → eqb b 10 ≡ true → is_line (p ++ (b ∷ [])) rest ≡ true)
Stands Whole p = (rest : List ℕ) → is_line p rest ≡ true

stands_none : Stands Open []
stands_none = (λ c s rest. refl, λ h. absurd (omega arith))

stands_more : (p : List ℕ) (b : ℕ) → Stands Open p → Stands (line_after Open b) (p ++ (b ∷ []))
unfolding is_line
stands_more p b st = by (eqb b 13) refl (eqb b 10) refl
  where
    by : (x : Bool) → eqb b 13 ≡ x → (y : Bool) → eqb b 10 ≡ y → Stands (cond x Cr (cond y Whole Open)) (p ++ (b ∷ []))
    by true e y e' = (
      λ rest none. st.0 b [] rest ∙ rw (e, none),
      λ c rest is. rw (append_assoc p (b ∷ []) (c ∷ [])) (st.0 b (c ∷ []) rest ∙ rw (e, is)),
    )
    by false e true e' = λ rest. st.0 b [] rest ∙ rw (e, e')
    by false e false e' = (
      λ c s rest. rw (append_assoc p (b ∷ []) (c ∷ s)) (st.0 b (c ∷ s) rest ∙ rw (e, e')),
      λ _. st.0 b [] [] ∙ rw (e, e'),
    )

last_right : (m : Mark) (p : List ℕ) → 0 < length p → Stands m p → is_line p [] ≡ true
unfolding starts_with
last_right Open p h st = st.1 h
last_right Cr p h st = st.0 [] refl
last_right Whole p h st = st []

right_from : (s : List ℕ) (m : Mark) (p : List ℕ) → Stands m p → are_lines (lines_from m p s) ≡ true
unfolding lines_from are_lines flatten starts_with
right_from [] m [] st = refl
right_from [] m (x ∷ p) st = rw (eqb-suc-zero (length p), last_right m (x ∷ p) (omega arith) st)
right_from (b ∷ s) Open p st = right_from s (line_after Open b) (p ++ (b ∷ [])) (stands_more p b st)
right_from (b ∷ s) Cr p st = by (eqb b 10) refl (λ n q. right_from s n q)
  where
    by : (t : Bool) → eqb b 10 ≡ t → ((n : Mark) (q : List ℕ) → Stands n q → are_lines (lines_from n q s) ≡ true)
        → are_lines (cond t (lines_from Whole (p ++ (b ∷ [])) s) (p ∷ lines_from (line_after Open b) (b ∷ []) s)) ≡ true
    by true e ih = ih Whole (p ++ (b ∷ [])) (λ rest. st.1 b rest e)
    by false e ih =
        rw (whole_from s (line_after Open b) (b ∷ []), st.0 (b ∷ s) (rw e)) (ih (line_after Open b) (b ∷ []) (stands_more [] b stands_none))
right_from (b ∷ s) Whole p st =
    rw (st (flatten (lines_from (line_after Open b) (b ∷ []) s))) (right_from s (line_after Open b) (b ∷ []) (stands_more [] b stands_none))

pub lines_right : (s : List ℕ) → are_lines (lines_of s) ≡ true
lines_right s = right_from s Open [] stands_none

-- a line that has its end takes nothing more, nor does one at the listing's end

open_ends : (p s : List ℕ) → 0 < length p → eqb (length s) 0 ≡ true → lines_from Open p s ≡ p ∷ lines_from Open [] s
unfolding lines_from
open_ends p [] h e = rw (ne_eqb (length p) 0 (λ e. omega arith))
open_ends p (b ∷ s) h e = absurd (omega (arith, eqb-true (length (b ∷ s)) 0 e))

cr_ends : (p s : List ℕ) → 0 < length p → starts_with (10 ∷ []) s ≡ false → lines_from Cr p s ≡ p ∷ lines_from Open [] s
unfolding lines_from starts_with
cr_ends p [] h e = rw (ne_eqb (length p) 0 (λ e. omega arith))
cr_ends p (b ∷ s) h e = by (eqb b 10) e
  where
    by : (t : Bool) → (t && true) ≡ false
        → cond t (lines_from Whole (p ++ (b ∷ [])) s) (p ∷ lines_from (line_after Open b) (b ∷ []) s) ≡ p ∷ lines_from (line_after Open b) (b ∷ []) s
    by true e = absurd (false≢true (sym e))
    by false e = refl

whole_ends : (p s : List ℕ) → 0 < length p → lines_from Whole p s ≡ p ∷ lines_from Open [] s
unfolding lines_from
whole_ends p [] h = rw (ne_eqb (length p) 0 (λ e. omega arith))
whole_ends p (b ∷ s) h = refl

lf_ends : (p s rest : List ℕ) → 0 < length p → eqb (length s) 0 ≡ true → lines_from Whole p (s ++ rest) ≡ (p ++ s) ∷ lines_from Open [] rest
lf_ends p [] rest h e = rw (append-nil p) (whole_ends p rest h)
lf_ends p (b ∷ s) rest h e = absurd (omega (arith, eqb-true (length (b ∷ s)) 0 e))

first : (p q rest : List ℕ) → is_line p rest ≡ true → lines_from Open q (p ++ rest) ≡ (q ++ p) ∷ lines_from Open [] rest
unfolding is_line lines_from
first [] q rest h = absurd (false≢true h)
first (b ∷ []) q rest h = by (eqb b 13) (eqb b 10) h
  where
    by : (x y : Bool) → cond x (not (starts_with (10 ∷ []) rest)) (y || eqb (length rest) 0) ≡ true
        → lines_from (cond x Cr (cond y Whole Open)) (q ++ (b ∷ [])) rest ≡ (q ++ (b ∷ [])) ∷ lines_from Open [] rest
    by true y h = cr_ends (q ++ (b ∷ [])) rest (longer q b) (not-true (starts_with (10 ∷ []) rest) h)
    by false true h = whole_ends (q ++ (b ∷ [])) rest (longer q b)
    by false false h = open_ends (q ++ (b ∷ [])) rest (longer q b) h
first (b ∷ c ∷ s) q rest h = by (eqb b 13) (eqb b 10) h (first (c ∷ s) (q ++ (b ∷ [])) rest)
  where
    so : (((q ++ (b ∷ [])) ++ (c ∷ s)) ∷ lines_from Open [] rest) ≡ (q ++ (b ∷ c ∷ s)) ∷ lines_from Open [] rest
    so = ap (λ l. l ∷ lines_from Open [] rest) (append_assoc q (b ∷ []) (c ∷ s))

    by : (x y : Bool) → cond x (eqb c 10 && eqb (length s) 0) (not y && is_line (c ∷ s) rest) ≡ true
        → (is_line (c ∷ s) rest ≡ true → lines_from Open (q ++ (b ∷ [])) (c ∷ (s ++ rest)) ≡ ((q ++ (b ∷ [])) ++ (c ∷ s)) ∷ lines_from Open [] rest)
        → lines_from (cond x Cr (cond y Whole Open)) (q ++ (b ∷ [])) (c ∷ (s ++ rest)) ≡ (q ++ (b ∷ c ∷ s)) ∷ lines_from Open [] rest
    by true y h ih =
        let are = (and-eq-true_iff (eqb c 10) (eqb (length s) 0)).0 h in
        let p = (q ++ (b ∷ [])) ++ (c ∷ []) in
        let all = ap (λ l. l ∷ lines_from Open [] rest) (append_assoc (q ++ (b ∷ [])) (c ∷ []) s) in
        rw are.0 (lf_ends p s rest (longer (q ++ (b ∷ [])) c) are.1 ∙ all ∙ so)
    by false true h ih = absurd (false≢true h)
    by false false h ih = ih h ∙ so

pub lines_only : (ps : List (List ℕ)) → are_lines ps ≡ true → lines_of (flatten ps) ≡ ps
unfolding are_lines flatten lines_from
lines_only [] h = refl
lines_only (p ∷ ps) h =
    let are = (and-eq-true_iff (is_line p (flatten ps)) (are_lines ps)).0 h in
    first p [] (flatten ps) are.0 ∙ ap (λ (l : List (List ℕ)). p ∷ l) (lines_only ps are.1)
