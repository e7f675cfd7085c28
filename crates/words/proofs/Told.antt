-- The byte that a word's refusal tells is one of the word's own.
use Prim.Native.Nat.{ℕ, ◌+◌, ◌<◌, ◌≤◌}
use mathlib.Core.Path.{◌≡◌, refl, ap}
use mathlib.Core.Bool.{Bool, true, false, cond}
use mathlib.Core.List.{List}
use native.Mathlib.Omega.{arith}
use lib.Dec.{eqb, leb}
use Rattle.std.specs.Prelude.{Ok, Err}
use lib.ListN.{length, get_or, drop, length-take}
use Rattle.figures.specs.Decimal.{is_digit, are_digits}
use Rattle.figures.proofs.Tests.{clash}
use Rattle.units.specs.Kinds.{first_other, listed_by}
use Rattle.units.specs.Information.{all_right, sign_right}
use Rattle.units.proofs.Positions.{first_most}
use Rattle.words.specs.Records.{width}
use Rattle.words.specs.Reading.{OneWord, Judged, judged_in, judged_wrong, fault_number, word_size, pos, kind_at, data_in, marks_in, data_tests, data_at, data_right, value_in, is_counted, unless, word_of}
use Rattle.units.specs.declared.kinds.Family.{Family}
use Rattle.words.specs.declared.reading.Fault.{Fault}
use Rattle.words.specs.declared.reading.Fault.TheVariants.{Short, Index, Unlisted, Information, Sign, Characters, Separator, Value}
use Rattle.words.proofs.Letters.{passing_most}
use Rattle.words.proofs.Checks.{width_bounds}

-- what an answer tells
abbrev pub fault_in : Judged → Fault
fault_in (Ok u) = Short
fault_in (Err e) = e.fault

abbrev pub told_at : Judged → ℕ
told_at (Ok u) = 0
told_at (Err e) = e.at

-- the answer tells a place below n, if any
abbrev Within : ℕ → OneWord → Type 0
Within n o = (x : Fault) (at : ℕ) → judged_in o ≡ judged_wrong x at → at < n

keep : (n : ℕ) (b : Bool) (x : Fault) (at : ℕ) (r : OneWord) → at < n → Within n r → Within n (unless b x at r)
keep n true x at r h w = w
keep n false x at r h w = λ y p e. let same : at ≡ p = ap told_at e in omega arith

-- a refusal is by a later rule where an earlier one has another number
pub past : (x : Fault) (at : ℕ) (b : Bool) (y : Fault) (p : ℕ) (r : OneWord) → (fault_number y ≡ fault_number x → ⊥) → judged_in (unless b y p r) ≡ judged_wrong x at
    → (b ≡ true) × (judged_in r ≡ judged_wrong x at)
past x at true y p r other e = (refl, e)
past x at false y p r other e = let same : y ≡ x = ap fault_in e in absurd (other (ap fault_number same))

other_small : (t : ℕ) → first_other t ≤ 1
other_small t = go (is_digit t)
  where
    go : (b : Bool) → cond b 1 0 ≤ 1
    go true = omega arith
    go false = omega arith

pub told_within : (f : Family) (wide : Bool) (s : List ℕ) (x : Fault) (at : ℕ) → judged_in (word_of f wide s) ≡ judged_wrong x at → at < word_size wide
told_within f wide s =
    let n = word_size wide in
    let least = width_bounds wide in
    let letters : 7 + data_at (kind_at f s) (data_in wide s) < n =
    omega (arith, passing_most (data_tests (kind_at f s) (length (data_in wide s))) (data_in wide s), length-take (width wide) (drop 7 s)) in
    keep n (leb (word_size wide) (length s)) Short 0 _ (omega arith)
    (keep n (are_digits (pos 1 s) (pos 2 s)) Index _ _ (omega (arith, other_small (pos 1 s)))
    (keep n (listed_by f (pos 1 s) (pos 2 s) (pos 3 s)) Unlisted _ _ (omega arith)
    (keep n (all_right (marks_in f s)) Information _ _ (omega (arith, first_most (marks_in f s)))
    (keep n (sign_right (kind_at f s) (pos 7 s)) Sign _ _ (omega arith)
    (keep n (data_right (kind_at f s) (data_in wide s)) Characters _ _ letters
    (keep n (eqb (get_or s (7 + width wide) 0) 32) Separator _ _ (omega arith)
    (keep n (is_counted (value_in f wide s)) Value _ _ (omega arith)
    (λ x at e. absurd (clash (cc))))))))))
