-- Laws of decimal digits: a number and its digits say each other.
use Prim.Native.Nat.{ℕ, zero, suc, ◌+◌, ◌-◌, ◌*◌, ◌/◌, ◌%◌, ◌^◌, ◌<◌, ◌≤◌}
use mathlib.Core.Path.{◌≡◌, refl, ◌∙◌}
use mathlib.Core.Bool.{true, false, and-eq-true_iff}
use mathlib.Core.List.{List, [], ◌∷◌, ◌++◌, append-nil}
use native.Mathlib.Nat.{add-zero, zero-add, pow-suc, pow-succ', mul_assoc, mul-le-mul_right, lt_of_lt_of_le, one-mul, div-lt_iff_lt-mul, pow-le-pow_right}
use native.Mathlib.Numerals.{add-one}
use native.Mathlib.Omega.{arith}
use borrow.Author.Tests.{ne_eqb}
use borrow.Rule.Slice.PartMut.{put_mid, mid_of}
use lib.Dec.{eqb}
use lib.ListN.{length, get_or, set, take, drop, length-append, drop_of_length-le}
use lib.Seq.{drop-cons, set_split, append_snoc, drop_at, length-take-le}
use Rattle.figures.specs.Bytes.{every}
use Rattle.figures.specs.Decimal.{is_digit, number_from, number_of, digits_of}
use Rattle.figures.proofs.Bytes.{within_bounds, bounds_within, every_append, length_on, length_mid, fill_on}

-- a digit is none of the bytes below `0`
pub digit_not : (b n : ℕ) → is_digit b ≡ true → n < 48 → eqb b n ≡ false
digit_not b n e h = let d = within_bounds 48 57 b e in ne_eqb b n (λ q. omega arith)

pub digits_length : (k n : ℕ) → length (digits_of k n) ≡ k
unfolding digits_of
digits_length zero n = refl
digits_length (suc k) n = length-append (digits_of k (n / 10)) ((48 + n % 10) ∷ []) ∙ rw (digits_length k (n / 10), add-one k)

pub digits_are : (k n : ℕ) → every is_digit (digits_of k n) ≡ true
unfolding digits_of every
digits_are zero n = refl
digits_are (suc k) n =
    every_append is_digit (digits_of k (n / 10)) ((48 + n % 10) ∷ []) ∙ rw (digits_are k (n / 10), bounds_within 48 57 (48 + n % 10) (omega arith) (omega arith))

pub number_snoc : (n : ℕ) (l : List ℕ) (b : ℕ) → number_from n (l ++ (b ∷ [])) ≡ number_from n l * 10 + (b - 48)
unfolding number_from
number_snoc n [] b = refl
number_snoc n (x ∷ l) b = number_snoc (n * 10 + (x - 48)) l b

pub number_digits : (k n : ℕ) → n < 10 ^ k → number_of (digits_of k n) ≡ n
unfolding digits_of
number_digits zero n h = unfold number_from in omega arith
number_digits (suc k) n h =
    let up : n < 10 ^ k * 10 = rw (pow-suc 10 k) at h in
    let down : number_of (digits_of k (n / 10)) ≡ n / 10 = number_digits k (n / 10) ((div-lt_iff_lt-mul (omega arith)).1 up) in
    number_snoc 0 (digits_of k (n / 10)) (48 + n % 10) ∙ rw down (omega arith)

-- the digits of a number that a list goes on with
pub digits_from : (k n : ℕ) (l : List ℕ) → every is_digit l ≡ true → digits_of (k + length l) (number_from n l) ≡ digits_of k n ++ l
unfolding digits_of number_from every
digits_from k n [] e = rw (add-zero, append-nil)
digits_from k n (b ∷ l) e =
    let both = (and-eq-true_iff (is_digit b) (every is_digit l)).0 e in
    let bounds = within_bounds 48 57 b both.0 in
    let m : ℕ = n * 10 + (b - 48) in
    let up : k + suc (length l) ≡ suc k + length l = omega arith in
    let front : m / 10 ≡ n = omega arith in
    let end : 48 + m % 10 ≡ b = omega arith in
    rw up (digits_from (suc k) m l both.1 ∙ rw (front, end, append_snoc (digits_of k n) b l))

pub digits_number : (l : List ℕ) → every is_digit l ≡ true → digits_of (length l) (number_of l) ≡ l
unfolding digits_of
digits_number l e = rw zero-add at (digits_from 0 0 l e)

pub below_from : (n : ℕ) (l : List ℕ) → every is_digit l ≡ true → number_from n l < suc n * 10 ^ length l
unfolding number_from every
below_from n [] e = omega arith
below_from n (b ∷ l) e =
    let both = (and-eq-true_iff (is_digit b) (every is_digit l)).0 e in
    let bounds = within_bounds 48 57 b both.0 in
    let m : ℕ = n * 10 + (b - 48) in
    lt_of_lt_of_le (below_from m l both.1) (rw (pow-succ' 10 (length l), ← mul_assoc) (mul-le-mul_right (10 ^ length l) (omega arith)))

pub number_below : (l : List ℕ) → every is_digit l ≡ true → number_of l < 10 ^ length l
number_below l e = rw (one-mul (10 ^ length l)) at (below_from 0 l e)

-- a turn of a loop that reads digits
pub number_more : (n : ℕ) (s : List ℕ) (i : ℕ) → i < length s → number_from n (drop i s) ≡ number_from (n * 10 + (get_or s i 0 - 48)) (drop (i + 1) s)
unfolding number_from
number_more n s i h = rw (drop-cons s i 0 h, add-one i)

pub number_all : (n : ℕ) (s : List ℕ) (i : ℕ) → length s ≤ i → number_from n (drop i s) ≡ n
unfolding number_from
number_all n s i h = rw (drop_of_length-le s h)

-- a turn of a loop that writes digits, from the last
pub digits_more : (n i : ℕ) (out : List ℕ) → 0 < i → i ≤ length out
    → digits_of i n ++ drop i out ≡ digits_of (i - 1) (n / 10) ++ drop (i - 1) (set out (i - 1) (48 + n % 10))
unfolding digits_of
digits_more n zero out h hl = absurd (omega arith)
digits_more n (suc j) out h hl =
    let last : ℕ = 48 + n % 10 in
    let q : suc j - 1 ≡ j = omega arith in
    let rest = drop (suc j) out in
    let dropped = drop_at (take j out) (last ∷ rest) j (length-take-le j out (omega arith)) in
    rw (q, set_split out j last hl, dropped, append_snoc (digits_of j (n / 10)) last rest)

pub digits_done : (n i : ℕ) (out : List ℕ) → i ≡ 0 → digits_of i n ++ drop i out ≡ out
unfolding digits_of
digits_done n i out e = rw e

-- a number that at most fifteen digits say
pub few_digits : (n i : ℕ) → i < 16 → n < 10 ^ i → n < 10 ^ 15
few_digits n i h e = lt_of_lt_of_le e (pow-le-pow_right {n = 10} (omega arith) {i = i} {j = 15} (omega arith))

pub one_digit_more : (n d i : ℕ) → d < 10 → n < 10 ^ i → n * 10 + d < 10 ^ (i + 1)
one_digit_more n d i h e = rw (add-one i, pow-suc 10 i) (omega arith)

-- `put_number` filled the k bytes after done
pub digits_on : (done room₀ room last : List ℕ) (a k n : ℕ) → a ≡ length done → length done + k ≤ length room₀
    → room ≡ done ++ drop (length done) room₀ → last ≡ digits_of (length (mid_of a k room)) n
    → put_mid a k room last ≡ (done ++ digits_of k n) ++ drop (length (done ++ digits_of k n)) room₀
digits_on done room₀ room last a k n ea h e el =
    let fits = length_on done room₀ room (omega arith) e in
    let is : last ≡ digits_of k n = rw (length_mid a k room (omega arith)) at el in
    rw is (fill_on done room₀ room (digits_of k n) a k ea e (digits_length k n))
