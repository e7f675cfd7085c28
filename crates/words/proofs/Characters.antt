-- Positions 8-15 or 8-23: a word's data, and what they say with the text that its record keeps, say each other.
use Prim.Native.Nat.{ℕ, zero, suc, ◌+◌, ◌-◌, ◌^◌, ◌<◌, ◌≤◌}
use mathlib.Core.Path.{◌≡◌, refl, sym, ap, ◌∙◌}
use mathlib.Core.Bool.{Bool, true, ◌&&◌, false≢true}
use mathlib.Core.List.{List, [], ◌∷◌, ◌++◌}
use native.Mathlib.Nat.{sub-zero, zero-sub, suc-sub-suc}
use native.Mathlib.Omega.{arith}
use lib.ListN.{length, take, drop, replicate, length-append, length-drop, length-replicate, take-append-drop}
use lib.Seq.{take_at, drop_at, get_or_at, drop-append-add, length-take-le}
use Rattle.figures.specs.Bytes.{every, laid}
use Rattle.figures.specs.Decimal.{is_digit, number_of, digits_of}
use Rattle.figures.proofs.Bytes.{within_bounds, laid_fits}
use Rattle.figures.proofs.Decimal.{digits_length, digits_are, number_digits, digits_number, number_below}
use Rattle.units.specs.Information.{sign_byte, is_sign}
use Rattle.words.specs.Records.{width, is_graphic, is_zero, text_right}
use Rattle.words.specs.Reading.{ppm_in, under_in, mm_in, data_right, figures_in, text_field}
use Rattle.words.specs.Writing.{data_of}
use Rattle.units.specs.declared.kinds.Kind.{Kind}
use Rattle.units.specs.declared.kinds.Kind.TheVariants as kind
use Rattle.units.specs.declared.counts.Figures.{Figures}
use Rattle.units.specs.declared.counts.Figures.TheVariants as figures
use Rattle.words.proofs.Letters.{one_right, missing_right, halves_in, halves_right, pair_right}
use Rattle.words.proofs.Checks.{width_bounds}
use Rattle.figures.proofs.Tests.{both}
use Rattle.units.proofs.Positions.{sign_back, sign_byte_is, sign_on, sign_small}

-- figures that n characters of a word of that kind can say
pub data Fit (n : ℕ) : Kind → Figures → Type 0 where
  of_numbered : Fit n kind.Numbered figures.Text
  of_text : Fit n kind.Text figures.Text
  of_angle : {v : ℕ} → v < 10 ^ n → Fit n kind.Angle (figures.Number v)
  of_length : {v : ℕ} → v < 10 ^ n → Fit n kind.Length (figures.Number v)
  of_constant : {v : ℕ} → v < 10 ^ n → Fit n kind.Constant (figures.Number v)
  of_pair : {p s q : ℕ} → p < 10 ^ (n - 4) → s ≤ 1 → q < 1000 → Fit n kind.Pair (figures.Pair p s q)

-- text

zeros : (l : List ℕ) → every is_zero l ≡ true → l ≡ replicate (length l) 0
unfolding every
zeros [] e = refl
zeros (b ∷ l) e =
    let parts = both (is_zero b) (every is_zero l) e in
    let low = within_bounds 0 0 b parts.0 in
    let is : b ≡ 0 = omega arith in
    let rest = zeros l parts.1 in
    cc

every_same : (p : ℕ → Bool) (n b : ℕ) → p b ≡ true → every p (replicate n b) ≡ true
unfolding every
every_same p zero b e = refl
every_same p (suc n) b e = rw e (every_same p n b e)

drop_same : (k n b : ℕ) → drop k (replicate n b) ≡ replicate (n - k) b
drop_same zero n b = rw sub-zero
drop_same (suc k) zero b = rw zero-sub
drop_same (suc k) (suc n) b = rw suc-sub-suc (drop_same k n b)

-- the text of 16 bytes that starts with d
text_is : (d : List ℕ) → length d ≤ 16 → laid d (replicate 16 0) ≡ d ++ replicate (16 - length d) 0
text_is d h = laid_fits d (replicate 16 0) h ∙ rw (drop_same (length d) 16 0)

text_long : (d : List ℕ) → length d ≤ 16 → length (laid d (replicate 16 0)) ≡ 16
text_long d h = rw (text_is d h, length-append d (replicate (16 - length d) 0), length-replicate {A = ℕ} (16 - length d) 0) (omega arith)

text_start : (d : List ℕ) → length d ≤ 16 → take (length d) (laid d (replicate 16 0)) ≡ d
text_start d h = rw (text_is d h) (take_at d (replicate (16 - length d) 0) (length d) refl)

text_rest : (d : List ℕ) → length d ≤ 16 → every is_zero (drop (length d) (laid d (replicate 16 0))) ≡ true
text_rest d h = rw (text_is d h, drop_at d (replicate (16 - length d) 0) (length d) refl) (every_same is_zero (16 - length d) 0 refl)

text_again : (n : ℕ) (t : List ℕ) → n ≤ 16 → length t ≡ 16 → every is_zero (drop n t) ≡ true → laid (take n t) (replicate 16 0) ≡ t
text_again n t h l e =
    let short : length (take n t) ≡ n = length-take-le n t (omega arith) in
    let left : length (drop n t) ≡ 16 - n = length-drop n t ∙ rw l in
    text_is (take n t) (omega arith) ∙ rw (short, ← left, ← zeros (drop n t) e) (take-append-drop n t)

-- a pair

record Joined (d a : List ℕ) (s : ℕ) (b : List ℕ) : Type 0 where
  ppm : ppm_in d ≡ a
  under : under_in d ≡ s
  mm : mm_in d ≡ b

halves_of : (a : List ℕ) (s : ℕ) (b : List ℕ) → length b ≡ 3 → Joined (a ++ (s ∷ b)) a s b
halves_of a s b h =
    let l : length (a ++ (s ∷ b)) ≡ length a + suc (length b) = length-append a (s ∷ b) in
    let four : length (a ++ (s ∷ b)) - 4 ≡ length a = omega arith in
    let three : length (a ++ (s ∷ b)) - 3 ≡ length a + 1 = omega arith in
    record {
      ppm = rw four (take_at a (s ∷ b) (length a) refl);
      under = rw four (get_or_at a s b 0 (length a) refl);
      mm = rw three (drop-append-add a (s ∷ b) 1);
    }

-- from the data to what they say

pub fit_read : (k : Kind) (d : List ℕ) → 4 ≤ length d → data_right k d ≡ true → Fit (length d) k (figures_in k d)
fit_read kind.Missing d h e = absurd (false≢true (sym (missing_right d h) ∙ e))
fit_read kind.Numbered d h e = of_numbered
fit_read kind.Text d h e = of_text
fit_read kind.Angle d h e = of_angle (number_below d (sym (one_right is_digit d) ∙ e))
fit_read kind.Length d h e = of_length (number_below d (sym (one_right is_digit d) ∙ e))
fit_read kind.Constant d h e = of_constant (number_below d (sym (one_right is_digit d) ∙ e))
fit_read kind.Pair d h e =
    let parts = both (every is_digit (ppm_in d)) (is_sign (under_in d) && every is_digit (mm_in d)) (sym (pair_right d h) ∙ e) in
    let two = both (is_sign (under_in d)) (every is_digit (mm_in d)) parts.1 in
    let p = halves_in d h in
    of_pair (rw p.front at (number_below (ppm_in d) parts.0)) (sign_small (under_in d)) (rw p.back at (number_below (mm_in d) two.1))

pub data_back : (k : Kind) (d : List ℕ) → 4 ≤ length d → length d ≤ 16 → data_right k d ≡ true → data_of (length d) (figures_in k d) (text_field k d) ≡ d
data_back kind.Missing d h l e = absurd (false≢true (sym (missing_right d h) ∙ e))
data_back kind.Numbered d h l e = text_start d l
data_back kind.Text d h l e = text_start d l
data_back kind.Angle d h l e = digits_number d (sym (one_right is_digit d) ∙ e)
data_back kind.Length d h l e = digits_number d (sym (one_right is_digit d) ∙ e)
data_back kind.Constant d h l e = digits_number d (sym (one_right is_digit d) ∙ e)
data_back kind.Pair d h l e =
    let parts = both (every is_digit (ppm_in d)) (is_sign (under_in d) && every is_digit (mm_in d)) (sym (pair_right d h) ∙ e) in
    let two = both (is_sign (under_in d)) (every is_digit (mm_in d)) parts.1 in
    let p = halves_in d h in
    let a : digits_of (length d - 4) (number_of (ppm_in d)) ≡ ppm_in d = rw p.front at (digits_number (ppm_in d) parts.0) in
    let b : digits_of 3 (number_of (mm_in d)) ≡ mm_in d = rw p.back at (digits_number (mm_in d) two.1) in
    rw (a, b, sign_back (under_in d) two.0) p.whole

-- the text that a record keeps of right data
abbrev pub Kept : Bool → Kind → List ℕ → Type 0
Kept wide k t = (length t ≡ 16) × (text_right wide k t ≡ true)

words_kept : (wide : Bool) (d : List ℕ) → length d ≡ width wide → every is_graphic d ≡ true → Kept wide kind.Text (text_field kind.Text d)
words_kept wide d l e =
    let h : length d ≤ 16 = omega (arith, (width_bounds wide).1) in
    (text_long d h, rw (← l, text_start d h, e) (text_rest d h))

none_kept : (wide : Bool) → Kept wide kind.Angle (replicate 16 0)
unfolding every
none_kept wide = (refl, refl)

pub text_read : (wide : Bool) (k : Kind) (d : List ℕ) → length d ≡ width wide → data_right k d ≡ true → Kept wide k (text_field k d)
text_read wide kind.Missing d l e = none_kept wide
text_read wide kind.Numbered d l e = words_kept wide d l (sym (one_right is_graphic d) ∙ e)
text_read wide kind.Text d l e = words_kept wide d l (sym (one_right is_graphic d) ∙ e)
text_read wide kind.Angle d l e = none_kept wide
text_read wide kind.Length d l e = none_kept wide
text_read wide kind.Constant d l e = none_kept wide
text_read wide kind.Pair d l e = none_kept wide

-- from what they say to the data

-- d are right data of the width, which say f and keep t
abbrev pub Spelling : Bool → Kind → Figures → List ℕ → List ℕ → Type 0
Spelling wide k f t d = (length d ≡ width wide) × (data_right k d ≡ true) × (figures_in k d ≡ f) × (text_field k d ≡ t)

words_spelt : (wide : Bool) (t : List ℕ) → Kept wide kind.Text t → Spelling wide kind.Text figures.Text t (take (width wide) t)
words_spelt wide t (l, e) =
    let most = (width_bounds wide).1 in
    let parts = both (every is_graphic (take (width wide) t)) (every is_zero (drop (width wide) t)) e in
    (length-take-le (width wide) t (omega arith), one_right is_graphic (take (width wide) t) ∙ parts.0, refl, text_again (width wide) t most l parts.1)

none_spelt : (wide : Bool) (t : List ℕ) → Kept wide kind.Angle t → replicate 16 0 ≡ t
none_spelt wide t (l, e) = sym (zeros t e ∙ rw l)

number_spelt : (wide : Bool) (v : ℕ) (t : List ℕ) → v < 10 ^ width wide → Kept wide kind.Angle t
    → Spelling wide kind.Angle (figures.Number v) t (digits_of (width wide) v)
number_spelt wide v t h kept =
    let n = width wide in
    (digits_length n v, one_right is_digit (digits_of n v) ∙ digits_are n v, ap figures.Number (number_digits n v h), none_spelt wide t kept)

pub spelt : (wide : Bool) {k : Kind} {f : Figures} (t : List ℕ) → Fit (width wide) k f → Kept wide k t → Spelling wide k f t (data_of (width wide) f t)
spelt wide t of_numbered kept = words_spelt wide t kept
spelt wide t of_text kept = words_spelt wide t kept
spelt wide t (of_angle {v} h) kept = number_spelt wide v t h kept
spelt wide t (of_length {v} h) kept = number_spelt wide v t h kept
spelt wide t (of_constant {v} h) kept = number_spelt wide v t h kept
spelt wide t (of_pair {p} {s} {q} hp hs hq) kept =
    let least = (width_bounds wide).0 in
    let a : List ℕ = digits_of (width wide - 4) p in
    let b : List ℕ = digits_of 3 q in
    let la : length a ≡ width wide - 4 = digits_length (width wide - 4) p in
    let lb : length b ≡ 3 = digits_length 3 q in
    let j = halves_of a (sign_byte s) b lb in (
      length-append a (sign_byte s ∷ b) ∙ omega arith,
      halves_right a (sign_byte s) b lb ∙ rw (digits_are (width wide - 4) p, sign_byte_is s, digits_are 3 q),
      rw (j.ppm, j.under, j.mm, number_digits (width wide - 4) p hp, sign_on s hs, number_digits 3 q hq),
      none_spelt wide t kept,
    )
