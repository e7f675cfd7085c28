-- Laws of the pieces of an input: a piece ends within what is left, and pieces are taken one after the other to the end.
use Prim.Native.Nat.{ℕ, zero, suc, ◌+◌, ◌-◌, ◌<◌, ◌≤◌}
use mathlib.Core.Path.{◌≡◌, ◌∙◌, refl, ap}
use mathlib.Core.Bool.{Bool, true, false, cond, not}
use mathlib.Core.List.{List, [], ◌∷◌}
use native.Mathlib.Omega.{arith}
use borrow.Author.Tests.{eq-eqb}
use lib.Dec.{eqb, eqb-suc-zero}
use lib.ListN.{length, take, drop, length-drop}
use lib.Seq.{take_all}
use Rattle.figures.specs.Bytes.{run_of, is_other, starts_with}
use Rattle.pieces.specs.Pieces.{cut_of, pieces_by, pieces}

-- the first piece, by the place of the first CR

pub cut_all : (s : List ℕ) → run_of (is_other 13) s ≡ length s → cut_of s ≡ length s
unfolding cut_of run_of
cut_all [] e = refl
cut_all (b ∷ s) e = by (eqb b 13) (cut_all s) e
  where
    by : (q : Bool) → (run_of (is_other 13) s ≡ length s → cut_of s ≡ length s) → cond (not q) (suc (run_of (is_other 13) s)) 0 ≡ suc (length s) → cond q (cond (starts_with (10 ∷ []) s) 2 1) (cut_of s + 1) ≡ suc (length s)
    by true on e = absurd (omega arith)
    by false on e = omega (arith, on (omega arith))

pub cut_at : (s : List ℕ) → run_of (is_other 13) s < length s
    → cut_of s ≡ run_of (is_other 13) s + cond (starts_with (10 ∷ []) (drop (run_of (is_other 13) s + 1) s)) 2 1
unfolding cut_of run_of
cut_at [] h = absurd (omega arith)
cut_at (b ∷ s) h = by (eqb b 13) (cut_at s) h
  where
    by : (q : Bool)
        → (run_of (is_other 13) s < length s → cut_of s ≡ run_of (is_other 13) s + cond (starts_with (10 ∷ []) (drop (run_of (is_other 13) s + 1) s)) 2 1)
        → cond (not q) (suc (run_of (is_other 13) s)) 0 < suc (length s)
        → cond q (cond (starts_with (10 ∷ []) s) 2 1) (cut_of s + 1)
        ≡ cond (not q) (suc (run_of (is_other 13) s)) 0 + cond (starts_with (10 ∷ []) (drop (cond (not q) (suc (run_of (is_other 13) s)) 0 + 1) (b ∷ s))) 2 1
    by true on h = omega arith
    by false on h =
        let past : suc (run_of (is_other 13) s) + 1 ≡ suc (run_of (is_other 13) s + 1) = omega arith in
        rw past (omega (arith, on (omega arith)))

-- the same of what was found: where the CR is, and whether what is left starts with an LF
pub cut_found : (s : List ℕ) {r : ℕ} {b : Bool} → r ≡ run_of (is_other 13) s → r < length s
    → b ≡ starts_with (10 ∷ []) (take (length s - (r + 1)) (drop (r + 1) s)) → cut_of s ≡ r + cond b 2 1
cut_found s {r} {b} er h eb =
    let rest : take (length s - (r + 1)) (drop (r + 1) s) ≡ drop (r + 1) s = take_all (length s - (r + 1)) (drop (r + 1) s) (omega (arith, length-drop (r + 1) s)) in
    cut_at s (omega arith) ∙ rw (← er, rw rest at eb)

-- a piece has a byte at least, and no more than there are

pub cut_some : (l : List ℕ) → 0 < length l → 0 < cut_of l
unfolding cut_of
cut_some [] h = h
cut_some (b ∷ l) h = by (eqb b 13) (starts_with (10 ∷ []) l)
  where
    by : (p q : Bool) → 0 < cond p (cond q 2 1) (cut_of l + 1)
    by true true = omega arith
    by true false = omega arith
    by false q = omega arith

pub cut_fits : (l : List ℕ) → cut_of l ≤ length l
unfolding cut_of starts_with
cut_fits [] = omega arith
cut_fits (b ∷ []) = by (eqb b 13)
  where
    by : (p : Bool) → cond p 1 1 ≤ 1
    by true = omega arith
    by false = omega arith
cut_fits (b ∷ c ∷ l) = by (eqb b 13) (starts_with (10 ∷ []) (c ∷ l)) (cut_fits (c ∷ l))
  where
    by : (p q : Bool) → cut_of (c ∷ l) ≤ suc (length l) → cond p (cond q 2 1) (cut_of (c ∷ l) + 1) ≤ suc (suc (length l))
    by true true h = omega arith
    by true false h = omega arith
    by false q h = omega arith

-- the pieces, however many may be taken

pub pieces_enough : (n m : ℕ) (l : List ℕ) → length l ≤ n → length l ≤ m → pieces_by n l ≡ pieces_by m l
unfolding pieces_by
pieces_enough zero zero l h k = refl
pieces_enough zero (suc m) l h k = rw (eq-eqb (length l) 0 (omega arith))
pieces_enough (suc n) zero l h k = rw (eq-eqb (length l) 0 (omega arith))
pieces_enough (suc n) (suc m) [] h k = refl
pieces_enough (suc n) (suc m) (b ∷ l) h k =
    let c = cut_of (b ∷ l) in
    let some = cut_some (b ∷ l) (omega arith) in
    let left : length (drop c (b ∷ l)) ≤ length l = omega (arith, length-drop c (b ∷ l)) in
    rw (eqb-suc-zero (length l)) (ap (λ (ps : List (List ℕ)). take c (b ∷ l) ∷ ps) (pieces_enough n m (drop c (b ∷ l)) (omega arith) (omega arith)))

pub pieces_none : (l : List ℕ) → length l ≤ 0 → pieces l ≡ []
unfolding pieces_by
pieces_none [] h = refl
pieces_none (b ∷ l) h = absurd (omega arith)

pub pieces_more : (l : List ℕ) → 0 < length l → pieces l ≡ take (cut_of l) l ∷ pieces (drop (cut_of l) l)
unfolding pieces_by
pieces_more [] h = absurd (omega arith)
pieces_more (b ∷ l) h =
    let c = cut_of (b ∷ l) in
    let some = cut_some (b ∷ l) (omega arith) in
    let rest = drop c (b ∷ l) in
    let left : length rest ≤ length l = omega (arith, length-drop c (b ∷ l)) in
    let enough = pieces_enough (length l) (length rest) rest left (omega arith) in
    rw (eqb-suc-zero (length l)) (ap (λ (ps : List (List ℕ)). take c (b ∷ l) ∷ ps) enough)
