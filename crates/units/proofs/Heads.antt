-- Positions 1-6 over the family: what they say as index and information, and the bytes that an index with its information has, say each other.
use Prim.Native.Nat.{ℕ, ◌+◌, ◌/◌, ◌%◌, ◌<◌, ◌≤◌}
use mathlib.Core.Path.{◌≡◌, refl, sym, ap, ◌∙◌}
use mathlib.Core.Bool.{true, false, cond, false≢true}
use mathlib.Core.List.{List, [], ◌∷◌}
use native.Mathlib.Omega.{arith}
use borrow.Author.Tests.{eqb-true, ltb-true, ltb-false, lt-ltb, le-ltb}
use lib.Dec.{eqb, ltb}
use Rattle.std.specs.Prelude.{Ok}
use Rattle.figures.specs.Decimal.{is_digit, digits_of, are_digits}
use Rattle.figures.proofs.Bytes.{within_bounds}
use Rattle.figures.proofs.Tests.{both, by_test}
use Rattle.units.specs.Classes.{number, text, numbered, class_of}
use Rattle.units.specs.Kinds.{station_kind, level_kind, class_kind, kind_of, is_listed, index_of, three_of, listed_at, index_by, listed_by}
use Rattle.units.specs.Information.{is_dot, is_lead, level_marks, all_right, info_right, lead_of, head_of}
use Rattle.units.specs.declared.kinds.Family.{Family}
use Rattle.units.specs.declared.kinds.Family.TheVariants.{Station, Level}
use Rattle.units.specs.declared.kinds.Kind.{Kind}
use Rattle.units.specs.declared.kinds.Kind.TheVariants.{Missing, Numbered, Text, Angle, Length, Constant, Pair}
use Rattle.units.proofs.ThreeDigits.{numbered_class, class_high}
use Rattle.units.proofs.Levels.{Found, alone, block, long, an_index, of_kind_lem, found, three_below, two_back}
use Rattle.units.proofs.Positions.{index_below, index_back, index_on, two_digits, tens_of, ones_of, tens_digit, ones_digit}

-- from the positions

-- positions 1-6 of the index and information that they say
abbrev said_head : Family → ℕ → ℕ → ℕ → ℕ → ℕ → ℕ → List ℕ
said_head f t o c b m u = head_of (index_by f t o c) (lead_of (index_by f t o c) c ∷ b ∷ m ∷ u ∷ [])

three_digits : (t o c : ℕ) → is_digit t ≡ true → is_digit o ≡ true → is_digit c ≡ true → digits_of 3 (three_of (index_of t o) c) ≡ t ∷ o ∷ c ∷ []
unfolding digits_of
three_digits t o c dt dq dc =
    let a = within_bounds 48 57 t dt in
    let b = within_bounds 48 57 o dq in
    let d = within_bounds 48 57 c dc in
    let e : 48 + index_of t o / 10 % 10 ≡ t = omega arith in
    let f : 48 + index_of t o % 10 ≡ o = omega arith in
    let g : 48 + three_of (index_of t o) c % 10 ≡ c = omega arith in
    rw (g, two_back (index_of t o) c dc, e, f)

module _ (t o c b m u : ℕ) (dt : is_digit t ≡ true) (dq : is_digit o ≡ true) where
  abbrev HeadAt : ℕ → Type 0
  HeadAt i = head_of i (lead_of i c ∷ b ∷ m ∷ u ∷ []) ≡ t ∷ o ∷ c ∷ b ∷ m ∷ u ∷ []

  short : HeadAt (index_of t o)
  short = rw (lt-ltb (index_of t o) 100 (two_digits t o dt dq), index_back t o dt dq)

  by_level : (i : ℕ) (k : Kind) → Found (index_of t o) c i k → HeadAt i
  by_level i k (alone d l) = short
  by_level i k (block d l) = short
  by_level i k (long d high l) = rw (le-ltb (three_of (index_of t o) c) 100 high, three_digits t o c dt dq d)

  by_family : (f : Family) (i : ℕ) (k : Kind) → listed_at f (index_of t o) c ≡ Ok (i, k) → HeadAt i
  by_family Station i k is = let (l, index, kind) = of_kind_lem (index_of t o) i (station_kind (index_of t o)) k is in rw (← index) short
  by_family Level i k is = by_level i k (found (index_of t o) c i k is)

pub head_back : (f : Family) (t o c b m u : ℕ) → are_digits t o ≡ true → listed_by f t o c ≡ true → said_head f t o c b m u ≡ t ∷ o ∷ c ∷ b ∷ m ∷ u ∷ []
head_back f t o c b m u digits listed =
    let (dt, dq) = both (is_digit t) (is_digit o) digits in
    let (i, k, is) = an_index (listed_at f (index_of t o) c) listed in
    rw is (by_family t o c b m u dt dq f i k is)

-- from the index and its information

-- the digits at positions 1-2, and position 3
abbrev pub two_of : ℕ → ℕ
two_of i = cond (ltb i 100) i (i / 10)

abbrev pub third_of : ℕ → ℕ → ℕ
third_of i a = cond (ltb i 100) a (48 + i % 10)

pub head_is : (i a b m u : ℕ) → head_of i (a ∷ b ∷ m ∷ u ∷ []) ≡ tens_of (two_of i) ∷ ones_of (two_of i) ∷ third_of i a ∷ b ∷ m ∷ u ∷ []
unfolding digits_of
head_is i a b m u = by_test (ltb i 100) (λ q. rw q) (λ q. rw q)

pub head_digits : (i : ℕ) → are_digits (tens_of (two_of i)) (ones_of (two_of i)) ≡ true
head_digits i = rw (tens_digit (two_of i), ones_digit (two_of i))

-- they say the index and the information's first byte
pub record Says (f : Family) (i a : ℕ) : Type 0 where
  pub listed : listed_by f (tens_of (two_of i)) (ones_of (two_of i)) (third_of i a) ≡ true
  pub index : index_by f (tens_of (two_of i)) (ones_of (two_of i)) (third_of i a) ≡ i
  pub lead : lead_of i (third_of i a) ≡ a

-- information that is right is that of a kind
kind_listed : (f : Family) (i : ℕ) (k : Kind) (a b m u : ℕ) → info_right f i k a b m u ≡ true → is_listed k ≡ true
kind_listed Station i Missing a b m u h = h
kind_listed Level i Missing a b m u h = h
kind_listed f i Numbered a b m u h = refl
kind_listed f i Text a b m u h = refl
kind_listed f i Angle a b m u h = refl
kind_listed f i Length a b m u h = refl
kind_listed f i Constant a b m u h = refl
kind_listed f i Pair a b m u h = refl

station_says : (i a : ℕ) → is_listed (station_kind i) ≡ true → Says Station i a
station_says i a l =
    let h = index_below i l in
    let low = lt-ltb i 100 h in
    let on = index_on i h in
    record { listed = rw (low, on, l); index = rw (low, on, l); lead = rw low }

-- a level's index of two digits: a digit at position 3 is a block number's first
two_says : (i a : ℕ) → i < 100 → is_listed (level_kind i) ≡ true → (is_digit a ≡ true → class_of (three_of i a) ≡ numbered) → Says Level i a
two_says i a h l first =
    let low = lt-ltb i 100 h in
    let on = index_on i h in
    by_test (is_digit a)
    (λ d.
    let class = first d in
    record { listed = rw (low, on, d, class); index = rw (low, on, d, class); lead = rw low })
    (λ d. record { listed = rw (low, on, d, l); index = rw (low, on, d, l); lead = rw low })

-- of three digits
three_says : (i a : ℕ) → 100 ≤ i → is_listed (class_kind (class_of i)) ≡ true → a ≡ 0 → Says Level i a
three_says i a low l zero =
    let far = le-ltb i 100 low in
    let near : i < 1000 =
    by_test (ltb 574 i) (λ q. absurd (false≢true (rw (class_high i (ltb-true 574 i q)) at l))) (λ q. omega (arith, ltb-false 574 i q)) in
    let own : eqb (class_of i) numbered ≡ false =
    by_test (eqb (class_of i) numbered) (λ q. absurd (false≢true (rw (eqb-true (class_of i) numbered q) at l))) (λ q. q) in
    let on = index_on (i / 10) (omega arith) in
    let all : three_of (i / 10) (48 + i % 10) ≡ i = omega arith in
    record { listed = rw (far, on, ones_digit i, all, own, l); index = rw (far, on, ones_digit i, all, own, l); lead = rw far (sym zero) }

-- a dot is no digit
dot_apart : {A : Type 0} (a : ℕ) → is_dot a ≡ true → is_digit a ≡ true → A
dot_apart a e d = let is = eqb-true a 46 e in let low = within_bounds 48 57 a d in absurd (omega arith)

module _ (i a b m u : ℕ) where
  level_two : i < 100 → all_right (level_marks i (level_kind i) a b m u) ≡ true → Says Level i a
  level_two h e =
      let low = lt-ltb i 100 h in
      two_says i a h (kind_listed Level i (level_kind i) a b m u e)
      (λ d. numbered_class (three_of i a) (three_below i a h d) (ap level_kind (two_back i a d) ∙ kind low d (level_kind i) e))
    where
      kind : ltb i 100 ≡ true → is_digit a ≡ true → (k : Kind) → all_right (level_marks i k a b m u) ≡ true → k ≡ Numbered
      kind low d Missing f = absurd (false≢true f)
      kind low d Numbered f = refl
      kind low d Text f = dot_apart a (rw low at (both (is_lead i a) _ f).0) d
      kind low d Angle f = absurd (false≢true f)
      kind low d Length f = dot_apart a (rw low at (both (is_lead i a) _ f).0) d
      kind low d Constant f = absurd (false≢true f)
      kind low d Pair f = absurd (false≢true f)

  level_three : 100 ≤ i → all_right (level_marks i (class_kind (class_of i)) a b m u) ≡ true → Says Level i a
  level_three low e =
      let zero : is_lead i a ≡ true → a ≡ 0 = λ l. eqb-true a 0 (rw (le-ltb i 100 low) at l) in
      three_says i a low (kind_listed Level i (class_kind (class_of i)) a b m u e)
      (by_test (eqb (class_of i) number) (λ q. zero (both (is_lead i a) _ (rw q at e)).0)
      (λ q. by_test (eqb (class_of i) text) (λ r. zero (both (is_lead i a) _ (rw (q, r) at e)).0) (λ r. absurd (false≢true (rw (q, r) at e)))))

pub head_says : (f : Family) (i a b m u : ℕ) → info_right f i (kind_of f i) a b m u ≡ true → Says f i a
head_says Station i a b m u e = station_says i a (kind_listed Station i (station_kind i) a b m u e)
head_says Level i a b m u e =
    by_test (ltb i 100) (λ q. level_two i a b m u (ltb-true i 100 q) (rw q at e)) (λ q. level_three i a b m u (ltb-false i 100 q) (rw q at e))
