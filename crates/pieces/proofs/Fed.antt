-- The pieces that come of an input byte by byte are those that it is cut into.
use Prim.Native.Nat.{ℕ, zero, suc, ◌+◌, ◌<◌, ◌≤◌}
use mathlib.Core.Path.{◌≡◌, refl, sym, ap, ◌∙◌}
use mathlib.Core.Bool.{Bool, true, false, cond, ◌&&◌}
use mathlib.Core.List.{List, [], ◌∷◌, ◌++◌, append_assoc, append-nil}
use native.Mathlib.Numerals.{add-one}
use native.Mathlib.Omega.{arith}
use borrow.Author.Tests.{ne_eqb}
use lib.Dec.{eqb}
use lib.ListN.{length, take, drop, length-append, length-drop}
use Rattle.figures.specs.Bytes.{starts_with}
use Rattle.pieces.specs.Pieces.{cut_of, pieces_by, pieces, mark_after, fed_from}
use Rattle.pieces.specs.declared.Mark.TheVariants.{Open, Cr, Whole}
use Rattle.pieces.proofs.Pieces.{cut_some, pieces_more}

-- a piece that has its CR and its LF takes nothing more
fed_whole : (p s : List ℕ) → 0 < length p → fed_from Whole p s ≡ p ∷ fed_from Open [] s
unfolding fed_from
fed_whole p [] h = rw (ne_eqb (length p) 0 (λ e. omega arith))
fed_whole p (b ∷ s) h = refl

-- one that has got its CR takes an LF
fed_cr : (p : List ℕ) (b : ℕ) (s : List ℕ) (n : ℕ) → n ≡ cond (starts_with (10 ∷ []) s) 2 1
    → fed_from Cr (p ++ (b ∷ [])) s ≡ (p ++ take n (b ∷ s)) ∷ fed_from Open [] (drop n (b ∷ s))
unfolding fed_from starts_with
fed_cr p b [] n e = rw (e, ne_eqb (length (p ++ (b ∷ []))) 0 (λ e. omega (arith, length-append p (b ∷ []))))
fed_cr p b (c ∷ s) n e = rw e (by (eqb c 10))
  where
    by : (q : Bool)
        → cond q (fed_from Whole ((p ++ (b ∷ [])) ++ (c ∷ [])) s) ((p ++ (b ∷ [])) ∷ fed_from (mark_after Open c) (c ∷ []) s)
        ≡ (p ++ take (cond (q && true) 2 1) (b ∷ c ∷ s)) ∷ fed_from Open [] (drop (cond (q && true) 2 1) (b ∷ c ∷ s))
    by true = rw (append_assoc p (b ∷ []) (c ∷ [])) (fed_whole (p ++ (b ∷ c ∷ [])) s (omega (arith, length-append p (b ∷ c ∷ []))))
    by false = refl

-- one that is open takes what is left of the first piece
fed_open : (p s : List ℕ) → 0 < length p + length s → fed_from Open p s ≡ (p ++ take (cut_of s) s) ∷ fed_from Open [] (drop (cut_of s) s)
unfolding fed_from cut_of
fed_open p [] h = rw (ne_eqb (length p) 0 (λ e. omega arith), append-nil)
fed_open p (b ∷ s) h = by (eqb b 13) (fed_open (p ++ (b ∷ [])) s (omega (arith, length-append p (b ∷ []))))
  where
    by : (q : Bool) → fed_from Open (p ++ (b ∷ [])) s ≡ ((p ++ (b ∷ [])) ++ take (cut_of s) s) ∷ fed_from Open [] (drop (cut_of s) s)
        → fed_from (cond q Cr Open) (p ++ (b ∷ [])) s
        ≡ (p ++ take (cond q (cond (starts_with (10 ∷ []) s) 2 1) (cut_of s + 1)) (b ∷ s))
        ∷ fed_from Open [] (drop (cond q (cond (starts_with (10 ∷ []) s) 2 1) (cut_of s + 1)) (b ∷ s))
    by true further = fed_cr p b s _ refl
    by false further = rw (add-one (cut_of s), ← append_assoc p (b ∷ []) (take (cut_of s) s)) further

fed_by : (n : ℕ) (s : List ℕ) → length s ≤ n → fed_from Open [] s ≡ pieces s
unfolding fed_from pieces_by
fed_by zero [] h = refl
fed_by zero (b ∷ s) h = absurd (omega arith)
fed_by (suc n) [] h = refl
fed_by (suc n) (b ∷ s) h =
    let c = cut_of (b ∷ s) in
    let some = cut_some (b ∷ s) (omega arith) in
    fed_open [] (b ∷ s) (omega arith)
    ∙ ap (λ ps. take c (b ∷ s) ∷ ps) (fed_by n (drop c (b ∷ s)) (omega (arith, length-drop c (b ∷ s))))
    ∙ sym (pieces_more (b ∷ s) (omega arith))

pub fed_pieces : (s : List ℕ) → fed_from Open [] s ≡ pieces s
fed_pieces s = fed_by (length s) s (omega arith)
