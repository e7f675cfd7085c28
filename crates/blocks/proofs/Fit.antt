-- The data of a word: what every byte of them is, by parts of eight bytes or, of a pair, by its parts, and the number that they say.
use Prim.Native.Nat.{ℕ, zero, suc, ◌+◌, ◌-◌, ◌*◌, ◌^◌, ◌≤◌, ◌<◌}
use mathlib.Core.Path.{◌≡◌, refl, sym, ap, ◌∙◌}
use mathlib.Core.Bool.{Bool, true, false, cond, ◌&&◌, and-true, and-eq-true_iff}
use mathlib.Core.List.{List, [], ◌∷◌, ◌++◌}
use native.Mathlib.Nat.{pow-succ', add-mul, mul_assoc}
use native.Mathlib.Omega.{arith}
use borrow.Rule.Slice.PartMut.{mid_of}
use lib.ListN.{length, get_or, drop}
use lib.Seq.{take-add, drop-drop}
use Rattle.figures.specs.Bytes.{every}
use Rattle.figures.specs.Decimal.{is_digit, number_from, number_of}
use Rattle.figures.proofs.Bytes.{within_bounds, every_append, length_mid}
use Rattle.figures.proofs.Tests.{and_on, and_off}
use Rattle.std.specs.Prelude.{Option, Some, None, is_some, Ok, Err, is_ok}
use Rattle.units.specs.Counts.{value_at}
use Rattle.units.specs.Information.{is_sign, sign_of, sign_right, sign_at, info_right, lead_of}
use Rattle.units.specs.Kinds.{Indexed, index_at}
use Rattle.units.specs.declared.kinds.Family.{Family}
use Rattle.units.specs.declared.kinds.Kind.{Kind}
use Rattle.units.specs.declared.kinds.Kind.TheVariants as kind
use Rattle.words.specs.Keeping.{parted_at, listed_word}
use Rattle.words.specs.Reading.{OneWord, word_size, pos, data_in, data_right, ppm_in, under_in, mm_in, figures_in, is_counted, right_word, word_of}
use Rattle.words.specs.Records.{width}
use Rattle.words.specs.declared.reading.Wrong.{Wrong}
use Rattle.words.specs.declared.records.Word.{Word}
use Rattle.words.proofs.Checks.{or_wrong, word_read}
use Rattle.words.proofs.Letters.{pair_right}

every_at : (p : ℕ → Bool) (s : List ℕ) (i : ℕ) → every p s ≡ true → i < length s → p (get_or s i 0) ≡ true
unfolding every
every_at p [] i e h = absurd (omega arith)
every_at p (b ∷ s) zero e h = ((and-eq-true_iff (p b) (every p s)).0 e).0
every_at p (b ∷ s) (suc i) e h = every_at p s i ((and-eq-true_iff (p b) (every p s)).0 e).1 (omega arith)

pub digit_bounds : (s : List ℕ) (i : ℕ) → every is_digit s ≡ true → i < length s → (48 ≤ get_or s i 0) × (get_or s i 0 ≤ 57)
digit_bounds s i e h = within_bounds 48 57 (get_or s i 0) (every_at is_digit s i e h)

-- a word is long enough for both parts where it is wide, and otherwise for the first
pub data_long : (wide : Bool) {n : ℕ} → word_size wide ≤ n → 16 ≤ n
data_long true h = omega arith
data_long false h = h

pub wide_long : {wide : Bool} {n : ℕ} → wide ≡ true → word_size wide ≤ n → 24 ≤ n
wide_long e h = rw e at h

-- wide data are two such parts, and narrow data are the first
wide_data : (s : List ℕ) → data_in true s ≡ mid_of 7 8 s ++ mid_of 15 8 s
wide_data s = take-add 8 8 (drop 7 s) ∙ rw (drop-drop 8 7 s)

module _ (p : ℕ → Bool) where
  every_wide : (s : List ℕ) → every p (data_in true s) ≡ every p (mid_of 7 8 s) && every p (mid_of 15 8 s)
  every_wide s = ap (every p) (wide_data s) ∙ every_append p (mid_of 7 8 s) (mid_of 15 8 s)

  pub first_off : (wide : Bool) (s : List ℕ) → every p (mid_of 7 8 s) ≡ false → every p (data_in wide s) ≡ false
  first_off true s e = every_wide s ∙ and_off (every p (mid_of 15 8 s)) e
  first_off false s e = e

  pub first_on : (wide : Bool) (s : List ℕ) → every p (data_in wide s) ≡ true → every p (mid_of 7 8 s) ≡ true
  first_on true s e = ((and-eq-true_iff (every p (mid_of 7 8 s)) (every p (mid_of 15 8 s))).0 (sym (every_wide s) ∙ e)).0
  first_on false s e = e

  pub second_on : {wide : Bool} (s : List ℕ) → wide ≡ true → every p (data_in wide s) ≡ true → every p (mid_of 15 8 s) ≡ true
  second_on s w e = ((and-eq-true_iff (every p (mid_of 7 8 s)) (every p (mid_of 15 8 s))).0 (sym (every_wide s) ∙ rw w at e)).1

  pub second_by : (s : List ℕ) → every p (mid_of 7 8 s) ≡ true → every p (mid_of 15 8 s) ≡ every p (data_in true s)
  second_by s e = sym (every_wide s ∙ and_on e)

-- what the check of a sign says of it
pub sign_some : (k : Kind) (b : ℕ) {r : Option ℕ} → r ≡ sign_at k b → is_some r ≡ sign_right k b
sign_some k b e = rw e (go (sign_right k b))
  where
    go : (q : Bool) → is_some (cond q (Some (sign_of b)) None) ≡ q
    go true = refl
    go false = refl

-- a pair's data, check by check
pub pair_checked : (d : List ℕ) → 4 ≤ length d → data_right kind.Pair d
    ≡ cond (every is_digit (ppm_in d)) (cond (is_some (sign_at kind.Pair (under_in d))) (every is_digit (mm_in d)) false) false
pair_checked d h = pair_right d h ∙ rw signed (go (every is_digit (ppm_in d)) (is_sign (under_in d)))
  where
    signed : is_some (sign_at kind.Pair (under_in d)) ≡ is_sign (under_in d)
    signed = sign_some kind.Pair (under_in d) refl ∙ rw and-true

    go : (p q : Bool) → p && (q && every is_digit (mm_in d)) ≡ cond p (cond q (every is_digit (mm_in d)) false) false
    go true true = refl
    go true false = refl
    go false q = refl

-- a word of its width, check by check

fit_all : (x y z w u : Wrong) (r : Word) (m g d p v : Bool)
    → is_ok (cond m (cond g (cond d (cond p (cond v (right_word r) (Err u)) (Err w)) (Err z)) (Err y)) (Err x))
    ≡ cond m (cond g (cond d (cond p v false) false) false) false
fit_all x y z w u r true true true true true = refl
fit_all x y z w u r true true true true false = refl
fit_all x y z w u r true true true false v = refl
fit_all x y z w u r true true false p v = refl
fit_all x y z w u r true false d p v = refl
fit_all x y z w u r false g d p v = refl

abbrev pub on_index : Indexed → (ℕ → Kind → Bool) → Bool
on_index (Ok p) fit = fit p.0 p.1
on_index (Err u) fit = false

module _ (f : Family) (wide : Bool) (s : List ℕ) where
  abbrev pub listed_fit : ℕ → Kind → Bool
  listed_fit i k =
      cond (info_right f i k (lead_of i (pos 3 s)) (pos 4 s) (pos 5 s) (pos 6 s))
      (cond (is_some (sign_at k (pos 7 s)))
      (cond (data_right k (data_in wide s))
      (cond (parted_at (get_or s (7 + width wide) 0)) (is_counted (value_at k i (pos 6 s) (sign_of (pos 7 s)) (figures_in k (data_in wide s)))) false)
      false)
      false)
      false

  word_fit : (a : Indexed) → is_ok (or_wrong a (λ p. listed_word f wide p.0 p.1 s)) ≡ on_index a listed_fit
  word_fit (Err u) = refl
  word_fit (Ok p) =
      let k = p.1 in
      let d = data_in wide s in
      rw (sign_some k (pos 7 s) refl)
      (fit_all _ _ _ _ _ _ (info_right f p.0 k (lead_of p.0 (pos 3 s)) (pos 4 s) (pos 5 s) (pos 6 s)) (sign_right k (pos 7 s)) (data_right k d)
      (parted_at (get_or s (7 + width wide) 0)) (is_counted (value_at k p.0 (pos 6 s) (sign_of (pos 7 s)) (figures_in k d))))

  pub word_checked : 7 + width wide < length s → is_ok (word_of f wide s) ≡ on_index (index_at f (pos 1 s) (pos 2 s) (pos 3 s)) listed_fit
  word_checked h = ap (λ (o : OneWord). is_ok o) (word_read f wide s h) ∙ word_fit (index_at f (pos 1 s) (pos 2 s) (pos 3 s))

-- a number, and the digits of another after it
number_on : (n : ℕ) (a b : List ℕ) → number_from n (a ++ b) ≡ number_from (number_from n a) b
unfolding number_from
number_on n [] b = refl
number_on n (x ∷ a) b = number_on (n * 10 + (x - 48)) a b

digit_on : (n d p q : ℕ) → (n * 10 + d) * p + q ≡ n * (10 * p) + (d * p + q)
digit_on n d p q = rw (add-mul (n * 10) d p, mul_assoc n 10 p) (omega arith)

number_after : (n : ℕ) (l : List ℕ) → number_from n l ≡ n * 10 ^ length l + number_of l
unfolding number_from
number_after n [] = omega arith
number_after n (b ∷ l) =
    let p : ℕ = 10 ^ length l in
    let d : ℕ = b - 48 in
    let none : 0 * 10 + d ≡ d = omega arith in
    let low : number_from (0 * 10 + d) l ≡ d * p + number_of l = ap (λ (m : ℕ). number_from m l) none ∙ number_after d l in
    number_after (n * 10 + d) l ∙ digit_on n d p (number_of l) ∙ rw (pow-succ' 10 (length l)) (ap (λ (t : ℕ). n * (10 * p) + t) (sym low))

pub wide_number : (s : List ℕ) → word_size true ≤ length s → number_of (data_in true s) ≡ number_of (mid_of 7 8 s) * 100000000 + number_of (mid_of 15 8 s)
wide_number s h =
    let eight : length (mid_of 15 8 s) ≡ 8 = length_mid 15 8 s (omega arith) in
    let low = rw eight at (number_after (number_of (mid_of 7 8 s)) (mid_of 15 8 s)) in
    ap number_of (wide_data s) ∙ number_on 0 (mid_of 7 8 s) (mid_of 15 8 s) ∙ low
