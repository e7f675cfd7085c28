-- Data of noughts: they pass the tests of their kind, and count.
use Prim.Native.Nat.{ℕ, zero, suc, ◌-◌, ◌≤◌}
use mathlib.Core.Path.{◌≡◌, refl, sym, ◌∙◌}
use mathlib.Core.Bool.{true, false, false≢true}
use mathlib.Core.List.{List, ◌∷◌, ◌++◌}
use native.Mathlib.Omega.{arith}
use borrow.Author.Tests.{eq-eqb}
use lib.ListN.{length, replicate, length-append, length-replicate}
use Rattle.figures.specs.Decimal.{is_digit, number_from, number_of}
use Rattle.units.specs.Kinds.{is_listed}
use Rattle.units.specs.Information.{is_sign}
use Rattle.units.specs.Counts.{value_at}
use Rattle.units.specs.declared.kinds.Kind.{Kind}
use Rattle.units.specs.declared.kinds.Kind.TheVariants.{Missing, Numbered, Text, Angle, Length, Constant, Pair}
use Rattle.words.specs.Records.{is_graphic}
use Rattle.words.specs.Reading.{data_tests, passing, figures_in, is_counted}
use Rattle.words.proofs.Values.{by_unit}
use Rattle.words.proofs.Letters.{passing_append}
use Rattle.damage.proofs.Passed.{passing_same}

pub tests_length : (k : Kind) (n : ℕ) → 4 ≤ n → length (data_tests k n) ≡ n
tests_length Missing n h = length-replicate n (λ (b : ℕ). false)
tests_length Numbered n h = length-replicate n is_graphic
tests_length Text n h = length-replicate n is_graphic
tests_length Angle n h = length-replicate n is_digit
tests_length Length n h = length-replicate n is_digit
tests_length Constant n h = length-replicate n is_digit
tests_length Pair n h = length-append (replicate (n - 4) is_digit) (is_sign ∷ replicate 3 is_digit) ∙ omega (arith, length-replicate (n - 4) is_digit)

-- data of noughts

abbrev pub noughts : Kind → ℕ → List ℕ
noughts Missing n = replicate n 48
noughts Numbered n = replicate n 48
noughts Text n = replicate n 48
noughts Angle n = replicate n 48
noughts Length n = replicate n 48
noughts Constant n = replicate n 48
noughts Pair n = replicate (n - 4) 48 ++ (43 ∷ replicate 3 48)

pub noughts_length : (k : Kind) (n : ℕ) → 4 ≤ n → length (noughts k n) ≡ n
noughts_length Missing n h = length-replicate n 48
noughts_length Numbered n h = length-replicate n 48
noughts_length Text n h = length-replicate n 48
noughts_length Angle n h = length-replicate n 48
noughts_length Length n h = length-replicate n 48
noughts_length Constant n h = length-replicate n 48
noughts_length Pair n h = length-append (replicate (n - 4) 48) (43 ∷ replicate 3 48) ∙ omega (arith, length-replicate {A = ℕ} (n - 4) 48)

pub noughts_pass : (k : Kind) (n : ℕ) → 4 ≤ n → is_listed k ≡ true → passing (data_tests k n) (noughts k n) ≡ n
noughts_pass Missing n h e = absurd (false≢true e)
noughts_pass Numbered n h e = passing_same is_graphic 48 refl n
noughts_pass Text n h e = passing_same is_graphic 48 refl n
noughts_pass Angle n h e = passing_same is_digit 48 refl n
noughts_pass Length n h e = passing_same is_digit 48 refl n
noughts_pass Constant n h e = passing_same is_digit 48 refl n
noughts_pass Pair n h e =
    let long : length {A = ℕ} (replicate (n - 4) 48) ≡ n - 4 = length-replicate {A = ℕ} (n - 4) 48 in
    passing_append (is_sign ∷ replicate 3 is_digit) (43 ∷ replicate 3 48) (replicate (n - 4) is_digit) (replicate (n - 4) 48)
    (length-replicate (n - 4) is_digit ∙ sym long)
    ∙ rw (passing_same is_digit 48 refl (n - 4), long, eq-eqb (n - 4) (n - 4) refl) (omega arith)

nought : (n : ℕ) → number_of (replicate n 48) ≡ 0
unfolding number_from
nought zero = refl
nought (suc n) = nought n

-- they count, with any unit and sign
pub noughts_count : (k : Kind) (i u m n : ℕ) → is_counted (value_at k i u m (figures_in k (noughts k n))) ≡ true
noughts_count Missing i u m n = refl
noughts_count Numbered i u m n = refl
noughts_count Text i u m n = refl
noughts_count Angle i u m n = rw (nought n) (by_unit (λ at of. is_counted (at m 0) ≡ true) refl refl refl refl u)
noughts_count Length i u m n = refl
noughts_count Constant i u m n = refl
noughts_count Pair i u m n = refl
