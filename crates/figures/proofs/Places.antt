-- How many digits a number has: 20 at most, and one for each time that it can be divided by ten.
use Prim.Native.Nat.{ℕ, zero, suc, ◌+◌, ◌-◌, ◌/◌, ◌^◌, ◌<◌, ◌≤◌}
use mathlib.Core.Path.{◌≡◌, refl, sym, ◌∙◌}
use mathlib.Core.Bool.{Bool, true, false, cond}
use native.Mathlib.Nat.{pow-suc, div-lt_iff_lt-mul}
use native.Mathlib.Omega.{arith}
use borrow.Author.Tests.{ltb-true, ltb-false, ne_eqb}
use lib.Dec.{ltb, eqb}
use Rattle.figures.specs.Decimal.{digits_nBy, digits_n}

most_by : (k n : ℕ) → digits_nBy k n ≤ suc k
unfolding digits_nBy
most_by zero n = omega arith
most_by (suc k) n = by (ltb n 10) (most_by k (n / 10))
  where
    by : (small : Bool) → digits_nBy k (n / 10) ≤ suc k → cond small 1 (suc (digits_nBy k (n / 10))) ≤ suc (suc k)
    by true h = omega arith
    by false h = omega arith

pub digits_most : (n : ℕ) → digits_n n ≤ 20
digits_most n = most_by 19 n

-- the digits of a number that is left once some are off, when there are no more than so many
abbrev pub left_digits : ℕ → ℕ → ℕ
left_digits k left = cond (eqb left 0) 0 (digits_nBy (k - 1) left)

one_off : (k n : ℕ) → digits_nBy (suc k) n ≡ suc (left_digits (suc k) (n / 10))
unfolding digits_nBy
one_off k n = by (ltb n 10) refl
  where
    by : (small : Bool) → ltb n 10 ≡ small → cond small 1 (suc (digits_nBy k (n / 10))) ≡ suc (left_digits (suc k) (n / 10))
    by true e = let none : n / 10 ≡ 0 = omega (arith, ltb-true n 10 e) in rw none
    by false e =
        let some : n / 10 ≡ 0 → ⊥ = λ z. omega (arith, ltb-false n 10 e) in
        let q : suc k - 1 ≡ k = omega arith in
        rw (ne_eqb (n / 10) 0 some, q)

tenth_below : (n j : ℕ) → n < 10 ^ suc j → n / 10 < 10 ^ j
tenth_below n j h = (div-lt_iff_lt-mul {k = 10} {x = n} {y = 10 ^ j} (omega arith)).1 (rw (pow-suc 10 j) at h)

-- k digits are off, and so many can be left that there are 20 at most
abbrev pub Off : ℕ → ℕ → ℕ → Type 0
Off n left k = (j : ℕ) × (k + j ≡ 20) × (left < 10 ^ j) × (digits_n n ≡ k + left_digits j left)

pub off_one : (n : ℕ) → n < 2 ^ 64 → Off n (n / 10) 1
off_one n h = (19, refl, tenth_below n 19 (omega arith), one_off 18 n ∙ omega arith)

off_by : (n left k j : ℕ) → 0 < left → k + j ≡ 20 → left < 10 ^ j → digits_n n ≡ k + left_digits j left → Off n (left / 10) (k + 1)
unfolding digits_nBy
off_by n left k zero h all below is = absurd (omega arith)
off_by n left k (suc zero) h all below is =
    let some : left ≡ 0 → ⊥ = λ z. omega arith in
    let none : left / 10 ≡ 0 = omega arith in
    (0, omega arith, omega arith, is ∙ rw (ne_eqb left 0 some, none) (omega arith))
off_by n left k (suc (suc j)) h all below is =
    let some : left ≡ 0 → ⊥ = λ z. omega arith in
    let q : suc (suc j) - 1 ≡ suc j = omega arith in
    (suc j, omega arith, tenth_below left (suc j) below, is ∙ rw (ne_eqb left 0 some, q, one_off j left) (omega arith))

pub off_more : (n left k : ℕ) → 0 < left → Off n left k → Off n (left / 10) (k + 1)
off_more n left k h o = off_by n left k o.0 h o.1 o.2 o.3

pub off_all : (n left k : ℕ) → left ≡ 0 → Off n left k → k ≡ digits_n n
off_all n left k e o = sym (o.3 ∙ rw e (omega arith))
