-- The data of a word, byte by byte: how many pass their tests, where one test is for all, and of a pair by its halves.
use Prim.Native.Nat.{ℕ, suc, ◌+◌, ◌-◌, ◌<◌, ◌≤◌}
use mathlib.Core.Path.{◌≡◌, refl, sym, ap, ◌∙◌}
use mathlib.Core.Bool.{Bool, true, false, cond, ◌&&◌, false≢true}
use mathlib.Core.List.{List, [], ◌∷◌, ◌++◌}
use native.Mathlib.Omega.{arith}
use borrow.Author.Tests.{eq-eqb, ne_eqb, eqb-true, eqb-false}
use lib.Dec.{eqb}
use lib.ListN.{length, replicate, length-append, length-drop, length-replicate}
use lib.Seq.{split_at, length-take-le}
use Rattle.figures.specs.Bytes.{every, run_of}
use Rattle.figures.specs.Decimal.{is_digit}
use Rattle.figures.proofs.Bytes.{run_all, run_every, run_other}
use Rattle.units.specs.Kinds.{is_textual}
use Rattle.units.specs.Information.{is_sign}
use Rattle.units.specs.declared.kinds.Kind.{Kind}
use Rattle.units.specs.declared.kinds.Kind.TheVariants as kind
use Rattle.words.specs.Records.{is_graphic}
use Rattle.words.specs.Reading.{ppm_in, under_in, mm_in, passing, data_at, data_right}

pub passing_most : (ts : List (ℕ → Bool)) (d : List ℕ) → passing ts d ≤ length d
passing_most [] d = omega arith
passing_most (t ∷ ts) [] = omega arith
passing_most (t ∷ ts) (b ∷ d) = go (t b) (passing_most ts d)
  where
    go : (r : Bool) → passing ts d ≤ length d → cond r (suc (passing ts d)) 0 ≤ suc (length d)
    go true h = omega arith
    go false h = omega arith

-- bytes and more bytes
pub passing_append : (us : List (ℕ → Bool)) (r : List ℕ) (ts : List (ℕ → Bool)) (d : List ℕ) → length ts ≡ length d
    → passing (ts ++ us) (d ++ r) ≡ cond (eqb (passing ts d) (length d)) (length d + passing us r) (passing ts d)
passing_append us r [] [] l = omega arith
passing_append us r [] (b ∷ d) l = absurd (omega arith)
passing_append us r (t ∷ ts) [] l = absurd (omega arith)
passing_append us r (t ∷ ts) (b ∷ d) l = rw (passing_append us r ts d (omega arith)) (go (t b) (eqb (passing ts d) (length d)) refl)
  where
    go : (a p : Bool) → eqb (passing ts d) (length d) ≡ p
        → cond a (suc (cond p (length d + passing us r) (passing ts d))) 0
        ≡ cond (eqb (cond a (suc (passing ts d)) 0) (suc (length d))) (suc (length d) + passing us r) (cond a (suc (passing ts d)) 0)
    go true true e = rw (eq-eqb (suc (passing ts d)) (suc (length d)) (ap suc (eqb-true (passing ts d) (length d) e))) (omega arith)
    go true false e = rw (ne_eqb (suc (passing ts d)) (suc (length d)) (λ q. eqb-false (passing ts d) (length d) e (omega arith)))
    go false p e = rw (ne_eqb 0 (suc (length d)) (λ q. omega arith))

-- one test for all

pub passing_one : (p : ℕ → Bool) (d : List ℕ) → passing (replicate (length d) p) d ≡ run_of p d
unfolding run_of
passing_one p [] = refl
passing_one p (b ∷ d) = rw (passing_one p d)

pub one_right : (p : ℕ → Bool) (d : List ℕ) → eqb (passing (replicate (length d) p) d) (length d) ≡ every p d
one_right p d = rw (passing_one p d) (run_all p d)

pub text_right : (k : Kind) (d : List ℕ) → is_textual k ≡ true → data_right k d ≡ every is_graphic d
text_right kind.Missing d e = absurd (false≢true e)
text_right kind.Numbered d e = one_right is_graphic d
text_right kind.Text d e = one_right is_graphic d
text_right kind.Angle d e = absurd (false≢true e)
text_right kind.Length d e = absurd (false≢true e)
text_right kind.Constant d e = absurd (false≢true e)
text_right kind.Pair d e = absurd (false≢true e)

-- none at all

pub missing_at : (d : List ℕ) → data_at kind.Missing d ≡ 0
missing_at [] = refl
missing_at (b ∷ d) = refl

pub missing_right : (d : List ℕ) → 4 ≤ length d → data_right kind.Missing d ≡ false
missing_right d h = rw (missing_at d) (ne_eqb 0 (length d) (λ q. omega arith))

-- a pair

pub record Halves (d : List ℕ) : Type 0 where
  pub whole : ppm_in d ++ (under_in d ∷ mm_in d) ≡ d
  pub front : length (ppm_in d) ≡ length d - 4
  pub back : length (mm_in d) ≡ 3

pub halves_in : (d : List ℕ) → 4 ≤ length d → Halves d
halves_in d h =
    let at : suc (length d - 4) ≡ length d - 3 = omega arith in
    record {
      whole = sym (split_at d (length d - 4) 0 (omega arith) ∙ rw at);
      front = length-take-le (length d - 4) d (omega arith);
      back = length-drop (length d - 3) d ∙ omega arith;
    }

module _ (a : List ℕ) (x : ℕ) (b : List ℕ) (back : length b ≡ 3) where
  pub halves_at : data_at kind.Pair (a ++ (x ∷ b)) ≡ cond (every is_digit a) (length a + cond (is_sign x) (suc (run_of is_digit b)) 0) (run_of is_digit a)
  halves_at =
      let front : length (a ++ (x ∷ b)) - 4 ≡ length a = omega (arith, length-append a (x ∷ b)) in
      let three : passing (replicate 3 is_digit) b ≡ run_of is_digit b = rw back at (passing_one is_digit b) in
      rw front
      (passing_append (is_sign ∷ replicate 3 is_digit) (x ∷ b) (replicate (length a) is_digit) a (length-replicate (length a) is_digit)
      ∙ rw (one_right is_digit a, passing_one is_digit a, three))

  pub halves_right : data_right kind.Pair (a ++ (x ∷ b)) ≡ every is_digit a && (is_sign x && every is_digit b)
  halves_right =
      rw (halves_at, length-append a (x ∷ b))
      (go (every is_digit a) (is_sign x) (every is_digit b) (run_other is_digit a) (run_every is_digit b) (run_other is_digit b))
    where
      go : (p q r : Bool) → (p ≡ false → run_of is_digit a < length a) → (r ≡ true → run_of is_digit b ≡ length b) → (r ≡ false → run_of is_digit b < length b)
          → eqb (cond p (length a + cond q (suc (run_of is_digit b)) 0) (run_of is_digit a)) (length a + suc (length b)) ≡ p && (q && r)
      go true true true l m n = eq-eqb (length a + suc (run_of is_digit b)) (length a + suc (length b)) (omega (arith, m refl))
      go true true false l m n = ne_eqb (length a + suc (run_of is_digit b)) (length a + suc (length b)) (λ e. omega (arith, n refl))
      go true false r l m n = ne_eqb (length a + 0) (length a + suc (length b)) (λ e. omega arith)
      go false q r l m n = ne_eqb (run_of is_digit a) (length a + suc (length b)) (λ e. omega (arith, l refl))

module _ (d : List ℕ) (h : 4 ≤ length d) where
  pub pair_at_lem : data_at kind.Pair d
      ≡ cond (every is_digit (ppm_in d)) (length d - 4 + cond (is_sign (under_in d)) (suc (run_of is_digit (mm_in d))) 0) (run_of is_digit (ppm_in d))
  pair_at_lem =
      let p = halves_in d h in
      ap (data_at kind.Pair) (sym p.whole) ∙ halves_at (ppm_in d) (under_in d) (mm_in d) p.back ∙ rw p.front

  pub pair_right : data_right kind.Pair d ≡ every is_digit (ppm_in d) && (is_sign (under_in d) && every is_digit (mm_in d))
  pair_right =
      let p = halves_in d h in
      ap (data_right kind.Pair) (sym p.whole) ∙ halves_right (ppm_in d) (under_in d) (mm_in d) p.back
