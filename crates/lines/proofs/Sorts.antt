-- The cases of a verdict, once: accepted, a PUT word's, or any other, which is a refusal by its number alone.
use Prim.Native.Nat.{ℕ, ◌≤◌}
use mathlib.Core.Path.{◌≡◌, refl}
use mathlib.Core.Bool.{true, false≢true}
use native.Mathlib.Omega.{arith}
use borrow.Author.Tests.{ne_eqb}
use lib.Dec.{eqb}
use Rattle.figures.proofs.Tests.{clash}
use Rattle.words.specs.declared.reading.Fault.{Fault}
use Rattle.lines.specs.Verdicts.{refuses, sort_of, verdict_number, of_word, is_accepted}
use Rattle.lines.specs.Verdicts.{Verdict}
use Rattle.lines.specs.Verdicts.{accepted}
use Rattle.lines.specs.declared.verdicts.Refused.TheVariants.{Unended, Long, Keyword, Shape, Setting, ReadOnly, Parameter, Index, Word}
use Rattle.lines.specs.declared.verdicts.Refused.TheVariants.{NeverPut, Full, NoEntry, Room, NoState}
use Rattle.std.specs.Prelude.{Ok, Err}

pub data Case (v : Verdict) : Type 0 where
  is_accepted_lem : v ≡ accepted → Case v
  is_word : (x : Fault) (at : ℕ) → v ≡ Err (Word x at) → Case v
  is_number : (n : ℕ) → sort_of v ≡ refuses n → 20 ≤ n → n ≤ 39 → Case v

pub case_of : (v : Verdict) → Case v
case_of (Ok u) = is_accepted_lem refl
case_of (Err Unended) = is_number 20 refl (omega arith) (omega arith)
case_of (Err Long) = is_number 21 refl (omega arith) (omega arith)
case_of (Err Keyword) = is_number 22 refl (omega arith) (omega arith)
case_of (Err Shape) = is_number 39 refl (omega arith) (omega arith)
case_of (Err Setting) = is_number 23 refl (omega arith) (omega arith)
case_of (Err ReadOnly) = is_number 38 refl (omega arith) (omega arith)
case_of (Err Parameter) = is_number 24 refl (omega arith) (omega arith)
case_of (Err Index) = is_number 25 refl (omega arith) (omega arith)
case_of (Err (Word x at)) = is_word x at refl
case_of (Err NeverPut) = is_number 27 refl (omega arith) (omega arith)
case_of (Err Full) = is_number 28 refl (omega arith) (omega arith)
case_of (Err NoEntry) = is_number 29 refl (omega arith) (omega arith)
case_of (Err Room) = is_number 30 refl (omega arith) (omega arith)
case_of (Err NoState) = is_number 31 refl (omega arith) (omega arith)

pub accepted_is : (v : Verdict) → is_accepted v ≡ true → v ≡ accepted
accepted_is (Ok u) a = refl
accepted_is (Err r) a = absurd (false≢true a)

-- a line is accepted exactly where its number is 0
pub accepted_number : (v : Verdict) → is_accepted v ≡ eqb (verdict_number v) 0
accepted_number v = by (case_of v)
  where
    by : Case v → is_accepted v ≡ eqb (verdict_number v) 0
    by (is_accepted_lem e) = rw e
    by (is_word x at e) = rw e
    by (is_number n e low high) = go v e
      where
        go : (w : Verdict) → sort_of w ≡ refuses n → is_accepted w ≡ eqb (verdict_number w) 0
        go (Ok u) q = absurd (clash (cc))
        go (Err r) q = rw (q, ne_eqb n 0 (omega arith))

pub verdict_small : (v : Verdict) → verdict_number v ≤ 39
verdict_small v = by (case_of v)
  where
    by : Case v → verdict_number v ≤ 39
    by (is_accepted_lem e) = rw e (omega arith)
    by (is_word x at e) = rw e (omega arith)
    by (is_number n e low high) = rw e high

-- what holds of each fault with its byte, and of nothing told, holds of what a verdict tells
pub of_word_lem : {A : Type 0} (of : Fault → ℕ → A) (other : A) (P : A → Type 0) (v : Verdict) → ((x : Fault) (at : ℕ) → v ≡ Err (Word x at) → P (of x at)) → P other
    → P (of_word of other v)
of_word_lem of other P v p q = by (case_of v)
  where
    by : Case v → P (of_word of other v)
    by (is_accepted_lem e) = rw e q
    by (is_word x at e) = rw e (p x at e)
    by (is_number n e low high) = rw e q
