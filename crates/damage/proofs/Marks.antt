-- Positions 3-6, byte by byte: the test of each by position 3, bytes that pass them, and what may stand at position 3.
use Prim.Native.Nat.{ℕ, ◌<◌, zero-le}
use mathlib.Core.Path.{◌≡◌, refl, sym, ap, ◌∙◌}
use mathlib.Core.Bool.{Bool, true, false, cond, false≢true}
use borrow.Author.Tests.{lt-ltb, le-ltb}
use lib.Dec.{eqb}
use Rattle.figures.specs.Bytes.{among}
use Rattle.figures.specs.Decimal.{is_digit, are_digits}
use Rattle.figures.proofs.Tests.{both, by_test, along}
use Rattle.units.specs.Classes.{number, text, class_of}
use Rattle.units.specs.Kinds.{station_kind, level_kind, kind_of, is_listed, index_of, three_of, of_kind, level_at, is_index, index_or, listed_by, index_by}
use Rattle.units.specs.Information.{is_dot, marks, four_marks, numbered_marks, info_marks, lead_of}
use Rattle.units.specs.declared.information.Marks.{Marks}
use Rattle.units.specs.declared.kinds.Family.{Family}
use Rattle.units.specs.declared.kinds.Family.TheVariants.{Station, Level}
use Rattle.units.specs.declared.kinds.Kind.{Kind}
use Rattle.units.specs.declared.kinds.Kind.TheVariants.{Missing, Numbered, Text, Angle, Length, Constant, Pair}
use Rattle.units.proofs.Levels.{Found, alone, block, long, an_index, found, found_kind}
use Rattle.units.proofs.Positions.{two_digits}

-- the tests of a kind's information, whose first byte is a
abbrev pub first_right : Family → ℕ → Kind → ℕ → Bool
first_right f i k a = (info_marks f i k a 0 0 0).0

abbrev pub second_right : Family → ℕ → Kind → ℕ → ℕ → Bool
second_right f i k a b = (info_marks f i k a b 0 0).1

abbrev pub mode_right : Family → ℕ → Kind → ℕ → ℕ → Bool
mode_right f i k a c = (info_marks f i k a 0 c 0).2

abbrev pub unit_right : Family → ℕ → Kind → ℕ → ℕ → Bool
unit_right f i k a d = (info_marks f i k a 0 0 d).3

-- four digits or four dots, where it is known which
abbrev chosen : Bool → ℕ → ℕ → ℕ → ℕ → Marks
chosen digits a b c d = cond digits (four_marks is_digit a b c d) (four_marks is_dot a b c d)

numbered_each : (a b c d : ℕ)
    → numbered_marks a b c d ≡ marks (numbered_marks a 0 0 0).0 (numbered_marks a b 0 0).1 (numbered_marks a 0 c 0).2 (numbered_marks a 0 0 d).3
numbered_each a b c d = go (is_digit a)
  where
    go : (t : Bool) → chosen t a b c d ≡ marks (chosen t a 0 0 0).0 (chosen t a b 0 0).1 (chosen t a 0 c 0).2 (chosen t a 0 0 d).3
    go true = refl
    go false = refl

pub marks_each : (f : Family) (i : ℕ) (k : Kind) (a b c d : ℕ)
    → info_marks f i k a b c d ≡ marks (first_right f i k a) (second_right f i k a b) (mode_right f i k a c) (unit_right f i k a d)
marks_each Station i Missing a b c d = refl
marks_each Station i Numbered a b c d = numbered_each a b c d
marks_each Station i Text a b c d = refl
marks_each Station i Angle a b c d = refl
marks_each Station i Length a b c d = refl
marks_each Station i Constant a b c d = refl
marks_each Station i Pair a b c d = refl
marks_each Level i Missing a b c d = refl
marks_each Level i Numbered a b c d = numbered_each a b c d
marks_each Level i Text a b c d = refl
marks_each Level i Angle a b c d = refl
marks_each Level i Length a b c d = refl
marks_each Level i Constant a b c d = refl
marks_each Level i Pair a b c d = refl

-- a byte for positions 4 and 5, and one for 6

abbrev pub fit_mode : Kind → ℕ → ℕ
fit_mode Missing a = 46
fit_mode Numbered a = cond (is_digit a) 48 46
fit_mode Text a = 46
fit_mode Angle a = 46
fit_mode Length a = 46
fit_mode Constant a = 46
fit_mode Pair a = 46

abbrev pub fit_unit : Kind → ℕ → ℕ
fit_unit Missing a = 46
fit_unit Numbered a = cond (is_digit a) 48 46
fit_unit Text a = 46
fit_unit Angle a = 50
fit_unit Length a = 48
fit_unit Constant a = 54
fit_unit Pair a = 46

abbrev Fits : Family → ℕ → Kind → ℕ → Type 0
Fits f i k a =
    (is_listed k ≡ true) × (second_right f i k a (fit_mode k a) ≡ true) × (mode_right f i k a (fit_mode k a) ≡ true) × (unit_right f i k a (fit_unit k a) ≡ true)

numbered_fits : (a : ℕ) → Fits Station 0 Numbered a
numbered_fits a = go (is_digit a)
  where
    go : (t : Bool) → (is_listed Numbered ≡ true) × ((chosen t a (cond t 48 46) 0 0).1 ≡ true) × ((chosen t a 0 (cond t 48 46) 0).2 ≡ true)
        × ((chosen t a 0 0 (cond t 48 46)).3 ≡ true)
    go true = (refl, refl, refl, refl)
    go false = (refl, refl, refl, refl)

-- where the first byte is right, the kind is listed, and the bytes pass
pub fits : (f : Family) (i : ℕ) (k : Kind) (a : ℕ) → first_right f i k a ≡ true → Fits f i k a
unfolding among
fits Station i Missing a e = absurd (false≢true e)
fits Station i Numbered a e = numbered_fits a
fits Station i Text a e = (refl, refl, refl, refl)
fits Station i Angle a e = (refl, refl, refl, refl)
fits Station i Length a e = (refl, refl, refl, refl)
fits Station i Constant a e = (refl, refl, refl, refl)
fits Station i Pair a e = (refl, refl, refl, refl)
fits Level i Missing a e = absurd (false≢true e)
fits Level i Numbered a e = numbered_fits a
fits Level i Text a e = (refl, refl, refl, refl)
fits Level i Angle a e = absurd (false≢true e)
fits Level i Length a e = (refl, refl, refl, refl)
fits Level i Constant a e = absurd (false≢true e)
fits Level i Pair a e = absurd (false≢true e)

-- position 3

-- whether it is right for an index, and for the one that positions 1-2 say with it
abbrev right_for : Family → ℕ → ℕ → Bool
right_for f i c = first_right f i (kind_of f i) (lead_of i c)

abbrev pub third_right : Family → ℕ → ℕ → ℕ → Bool
third_right f t o c = right_for f (index_by f t o c) c

-- a digit there is part of a level's index, or of the number after 11 or 41
module _ (two c : ℕ) (h : two < 100) (digit : is_digit c ≡ true) where
  by_found : (i : ℕ) (k : Kind) → Found two c i k → first_right Level i k (lead_of i c) ≡ true
  by_found i k (alone d l) = absurd (false≢true (sym d ∙ digit))
  by_found i k (block d class) = rw (lt-ltb two 100 h) (ap (λ t. (chosen t c 0 0 0).0) digit ∙ digit)
  by_found i k (long d high l) =
      let class = class_of (three_of two c) in
      let far = le-ltb (three_of two c) 100 high in
      by_test (eqb class number) (λ q. rw (q, far))
      (λ q. by_test (eqb class text) (λ r. rw (q, r, far)) (λ r. absurd (false≢true (rw (q, r) at l))))

  digit_right : is_index (level_at two c) ≡ true → right_for Level (index_or (level_at two c)) c ≡ true
  digit_right listed =
      let (i, k, is) = an_index (level_at two c) listed in
      let this = found two c i k is in
      rw (is, found_kind two c h i k this) (by_found i k this)

-- a dot is right after two digits that are an index
dot_after : (f : Family) (n : ℕ) → n < 100 → is_listed (kind_of f n) ≡ true → right_for f n 46 ≡ true
unfolding among
dot_after Station n h e = sym (rw e at (along (λ m. cond (is_listed (kind_of Station m)) (right_for Station m 46) true) 0 100 refl zero-le h))
dot_after Level n h e = sym (rw e at (along (λ m. cond (is_listed (kind_of Level m)) (right_for Level m 46) true) 0 100 refl zero-le h))

listed_of : (i : ℕ) (k : Kind) → is_index (of_kind i k) ≡ true → is_listed k ≡ true
listed_of i k e = by_test (is_listed k) (λ q. q) (λ q. absurd (false≢true (rw q at e)))

-- where it is wrong a dot may stand there: the index is listed and the dot is right
pub dot_right : (f : Family) (t o c : ℕ) → are_digits t o ≡ true → listed_by f t o c ≡ true → third_right f t o c ≡ false
    → (listed_by f t o 46 ≡ true) × (third_right f t o 46 ≡ true)
dot_right f t o c digits listed wrong =
    let (tens, ones) = both (is_digit t) (is_digit o) digits in
    go f (two_digits t o tens ones) listed wrong
  where
    go : (g : Family) → index_of t o < 100 → listed_by g t o c ≡ true → third_right g t o c ≡ false
        → (listed_by g t o 46 ≡ true) × (third_right g t o 46 ≡ true)
    go Station h l w =
        let own = listed_of (index_of t o) (station_kind (index_of t o)) l in
        (l, rw own (dot_after Station (index_of t o) h own))
    go Level h l w =
        by_test (is_digit c) (λ q. absurd (false≢true (sym w ∙ digit_right (index_of t o) c h q l)))
        (λ q.
        let own = listed_of (index_of t o) (level_kind (index_of t o)) (rw q at l) in
        (rw own, rw own (dot_after Level (index_of t o) h (rw (lt-ltb (index_of t o) 100 h) own))))
