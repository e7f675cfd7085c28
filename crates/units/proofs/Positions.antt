-- Positions 1-7: an index and its two digits, and a sign and its byte, say each other.
use Prim.Native.Nat.{ℕ, ◌+◌, ◌/◌, ◌%◌, ◌<◌, ◌≤◌}
use mathlib.Core.Path.{◌≡◌, refl, sym, ap, ◌∙◌}
use mathlib.Core.Bool.{Bool, true, false, cond, not, false≢true}
use mathlib.Core.List.{List, [], ◌∷◌}
use native.Mathlib.Omega.{arith}
use borrow.Author.Tests.{eqb-true, eqb-false, leb-true, leb-false}
use lib.Dec.{eqb, leb}
use Rattle.figures.specs.Bytes.{among, every}
use Rattle.figures.specs.Decimal.{is_digit, digits_of}
use Rattle.figures.proofs.Bytes.{within_bounds, bounds_within, above_within}
use Rattle.units.specs.Kinds.{station_kind, is_listed, is_textual, index_of}
use Rattle.units.specs.Information.{first_wrong, sign_byte, sign_of, is_sign, sign_right}
use Rattle.units.specs.declared.information.Marks.{Marks}
use Rattle.units.specs.declared.kinds.Kind.{Kind}
use Rattle.units.specs.declared.kinds.Kind.TheVariants.{Missing}
use Rattle.figures.proofs.Tests.{both, by_test, among_above}

-- the index

-- a total station's kind, by its two parts: the kinds that hold numbers, and those that hold text
pub text_part : (k : Kind) {n t : Kind} → n ≡ cond (is_textual k) Missing k → n ≡ Missing → t ≡ cond (is_textual k) k Missing → t ≡ k
text_part k e none f = f ∙ by_test (is_textual k) (λ q. rw q) (λ q. rw q (sym none ∙ rw q at e))

pub number_part : (k : Kind) {n : Kind} → n ≡ cond (is_textual k) Missing k → (n ≡ Missing → ⊥) → n ≡ k
number_part k e some = by_test (is_textual k) (λ q. absurd (some (rw q at e))) (λ q. rw q at e)

-- no index of the table is above 88
pub none_above : (n : ℕ) → 88 < n → station_kind n ≡ Missing
unfolding every
none_above n h =
    let none : (l : List ℕ) → every (λ x. leb x 88) l ≡ true → among n l ≡ false = λ l e. among_above 88 l e n h in
    rw (
      none (11 ∷ 41 ∷ []) refl,
      none (12 ∷ 13 ∷ 16 ∷ 18 ∷ 19 ∷ 52 ∷ 53 ∷ []) refl,
      above_within 42 49 n (omega arith) (omega arith),
      above_within 71 79 n (omega arith) (omega arith),
      none (21 ∷ 22 ∷ 24 ∷ []) refl,
      above_within 31 34 n (omega arith) (omega arith),
      above_within 81 88 n (omega arith) (omega arith),
      none (58 ∷ 59 ∷ []) refl,
      none (51 ∷ []) refl,
    )

pub index_below : (n : ℕ) → is_listed (station_kind n) ≡ true → n < 100
index_below n e =
    by_test (leb n 88) (λ q. omega (arith, leb-true n 88 q)) (λ q. absurd (false≢true (ap is_listed (sym (none_above n (leb-false n 88 q))) ∙ e)))

pub index_back : (tens ones : ℕ) → is_digit tens ≡ true → is_digit ones ≡ true → digits_of 2 (index_of tens ones) ≡ tens ∷ ones ∷ []
unfolding digits_of
index_back tens ones et eo =
    let t = within_bounds 48 57 tens et in
    let o = within_bounds 48 57 ones eo in
    let e : 48 + index_of tens ones / 10 % 10 ≡ tens = omega arith in
    let f : 48 + index_of tens ones % 10 ≡ ones = omega arith in
    rw (e, f)

pub two_digits : (tens ones : ℕ) → is_digit tens ≡ true → is_digit ones ≡ true → index_of tens ones < 100
two_digits tens ones et eo =
    let t = within_bounds 48 57 tens et in
    let o = within_bounds 48 57 ones eo in
    omega arith

-- the two digits of an index of the table
abbrev pub tens_of : ℕ → ℕ
tens_of n = 48 + n / 10 % 10

abbrev pub ones_of : ℕ → ℕ
ones_of n = 48 + n % 10

pub index_digits : (n : ℕ) → digits_of 2 n ≡ tens_of n ∷ ones_of n ∷ []
unfolding digits_of
index_digits n = refl

pub index_on : (n : ℕ) → n < 100 → index_of (tens_of n) (ones_of n) ≡ n
index_on n h = omega arith

pub tens_digit : (n : ℕ) → is_digit (tens_of n) ≡ true
tens_digit n = bounds_within 48 57 (tens_of n) (omega arith) (omega arith)

pub ones_digit : (n : ℕ) → is_digit (ones_of n) ≡ true
ones_digit n = bounds_within 48 57 (ones_of n) (omega arith) (omega arith)

-- the information

pub first_most : (m : Marks) → first_wrong m ≤ 3
first_most m = go m.0 m.1 m.2
  where
    go : (a b c : Bool) → cond a (cond b (cond c 3 2) 1) 0 ≤ 3
    go true true true = omega arith
    go true true false = omega arith
    go true false c = omega arith
    go false b c = omega arith

-- the sign

-- a plus or a minus; text has a plus only
pub record SignFor (k : Kind) (m : ℕ) : Type 0 where
  pub small : m ≤ 1
  pub plus : is_textual k ≡ true → m ≡ 0

pub sign_small : (b : ℕ) → sign_of b ≤ 1
sign_small b = by_test (eqb b 43) (λ q. rw q (omega arith)) (λ q. rw q (omega arith))

pub sign_back : (b : ℕ) → is_sign b ≡ true → sign_byte (sign_of b) ≡ b
sign_back b e = by_test (eqb b 43) (λ q. rw q (sym (eqb-true b 43 q))) (λ q. rw q (sym (eqb-true b 45 (rw q at e))))

pub sign_byte_is : (m : ℕ) → is_sign (sign_byte m) ≡ true
sign_byte_is m = by_test (eqb m 0) (λ q. rw q) (λ q. rw q)

pub sign_on : (m : ℕ) → m ≤ 1 → sign_of (sign_byte m) ≡ m
sign_on m h = by_test (eqb m 0) (λ q. rw q (sym (eqb-true m 0 q))) (λ q. rw q (omega (arith, eqb-false m 0 q)))

pub sign_of_lem : (k : Kind) (b : ℕ) → sign_right k b ≡ true → (is_sign b ≡ true) × SignFor k (sign_of b)
sign_of_lem k b e =
    by_test (eqb b 43) (λ q. (rw q, record { small = sign_small b; plus = λ t. rw q }))
    (λ q.
    let minus = both (eqb b 45) (not (is_textual k)) (rw q at e) in
    (rw q minus.0, record { small = sign_small b; plus = λ t. absurd (false≢true (rw t at minus.1)) }))

pub sign_right_lem : (k : Kind) (m : ℕ) → SignFor k m → sign_right k (sign_byte m) ≡ true
sign_right_lem k m h = by_test (eqb m 0) (λ q. rw q) (λ q. by_test (is_textual k) (λ t. absurd (eqb-false m 0 q (h.plus t))) (λ t. rw (q, t)))
