-- The bytes before the first that fails its test: they don't go by what comes later, and others that pass may come after them.
use Prim.Native.Nat.{ℕ, zero, suc, ◌≤◌}
use mathlib.Core.Path.{◌≡◌, refl}
use mathlib.Core.Bool.{Bool, true, false, cond}
use mathlib.Core.List.{List, [], ◌∷◌, ◌++◌}
use native.Mathlib.Omega.{arith}
use lib.ListN.{length, take, drop, replicate}
use Rattle.figures.proofs.Tests.{clash}
use Rattle.words.specs.Reading.{passing}

-- the same bytes up to and including the first that fails: it is the first again
pub passing_again : (ts : List (ℕ → Bool)) (s u : List ℕ) → take (suc (passing ts s)) u ≡ take (suc (passing ts s)) s → passing ts u ≡ passing ts s
passing_again [] s u e = refl
passing_again (t ∷ ts) [] [] e = refl
passing_again (t ∷ ts) [] (c ∷ u) e = absurd (clash (cc))
passing_again (t ∷ ts) (b ∷ s) [] e = absurd (clash (cc))
passing_again (t ∷ ts) (b ∷ s) (c ∷ u) e = go (t b) refl e (passing_again ts s u)
  where
    go : (r : Bool) → t b ≡ r → take (suc (cond r (suc (passing ts s)) 0)) (c ∷ u) ≡ take (suc (cond r (suc (passing ts s)) 0)) (b ∷ s)
        → (take (suc (passing ts s)) u ≡ take (suc (passing ts s)) s → passing ts u ≡ passing ts s)
        → cond (t c) (suc (passing ts u)) 0 ≡ cond r (suc (passing ts s)) 0
    go true q h later =
        let same : c ≡ b = cc in
        let rest : take (suc (passing ts s)) u ≡ take (suc (passing ts s)) s = cc in
        rw (same, q, later rest)
    go false q h later = let same : c ≡ b = cc in rw (same, q)

-- bytes that pass, and then others that do
pub passing_on : (ts : List (ℕ → Bool)) (n : ℕ) (s fill : List ℕ) → n ≤ passing ts s → passing ts fill ≡ length ts
    → passing ts (take n s ++ drop n fill) ≡ length ts
passing_on ts zero s fill h e = e
passing_on [] (suc n) s fill h e = refl
passing_on (t ∷ ts) (suc n) [] fill h e = absurd (omega arith)
passing_on (t ∷ ts) (suc n) (b ∷ s) [] h e = absurd (omega arith)
passing_on (t ∷ ts) (suc n) (b ∷ s) (c ∷ fill) h e = go (t b) (t c) h e (passing_on ts n s fill)
  where
    go : (p q : Bool) → suc n ≤ cond p (suc (passing ts s)) 0 → cond q (suc (passing ts fill)) 0 ≡ suc (length ts)
        → (n ≤ passing ts s → passing ts fill ≡ length ts → passing ts (take n s ++ drop n fill) ≡ length ts)
        → cond p (suc (passing ts (take n s ++ drop n fill))) 0 ≡ suc (length ts)
    go true true g f later = omega (arith, later (omega arith) (omega arith))
    go true false g f later = absurd (omega arith)
    go false q g f later = absurd (omega arith)

-- one test for all
pub passing_same : (p : ℕ → Bool) (b : ℕ) → p b ≡ true → (n : ℕ) → passing (replicate n p) (replicate n b) ≡ n
passing_same p b e zero = refl
passing_same p b e (suc n) = rw (e, passing_same p b e n)
