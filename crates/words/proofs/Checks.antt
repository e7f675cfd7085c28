-- What a check says of the rule that it tests: from its answer, and from the test of that answer.
use Prim.Native.Nat.{ℕ, suc, ◌+◌, ◌-◌, ◌≤◌, ◌<◌}
use mathlib.Core.Path.{◌≡◌, refl, sym, ap, ◌∙◌}
use mathlib.Core.Bool.{Bool, true, false, cond, ◌&&◌, and-true, and_assoc}
use mathlib.Core.List.{List, [], ◌∷◌}
use native.Mathlib.Omega.{arith}
use borrow.Author.Tests.{le-leb, lt-leb, lt-ltb, le-ltb, leb-true, leb-false}
use borrow.Rule.Slice.PartMut.{mid_of}
use lib.Dec.{eqb, leb, ltb}
use lib.ListN.{length, get_or, drop, length-drop, drop_of_length-le}
use lib.Seq.{take_all, length-take-le}
use Rattle.figures.specs.Bytes.{every, run_of}
use Rattle.figures.specs.Decimal.{is_digit, number_of, number_in, are_digits}
use Rattle.std.specs.Prelude.{Option, Some, None, Ok, Err, is_some}
use Rattle.units.specs.Kinds.{Indexed, is_textual, kind_of, first_other, index_of, listed_at, index_at, listed_by, index_by}
use Rattle.units.proofs.Positions.{two_digits}
use Rattle.units.proofs.Levels.{listed_kind, no_other}
use Rattle.units.specs.Information.{info_marks, info_right, first_wrong, lead_of, is_sign, sign_right, sign_of, sign_at}
use Rattle.units.specs.Counts.{value_at}
use Rattle.words.specs.Records.{width, record_of, text_right, is_graphic}
use Rattle.words.specs.Reading.{OneWord, word_size, pos, data_in, index_in, kind_at, data_right, data_at, ppm_in, under_in, mm_in, figures_in, text_field}
use Rattle.words.specs.Reading.{is_counted, count_or, faulty, right_word, wrong_index, unless, word_of}
use Rattle.words.specs.declared.reading.Fault.TheVariants.{Information, Sign, Characters, Separator, Value}
use Rattle.figures.proofs.Bytes.{run_every, run_other}
use Rattle.figures.proofs.Tests.{clash, both, by_test}
use Rattle.words.specs.Keeping.{pair_at, spelled_at, data_word, listed_word}
use Rattle.words.proofs.Letters.{one_right, missing_right, pair_at_lem, pair_right}
use Rattle.units.specs.declared.kinds.Family.{Family}
use Rattle.units.specs.declared.kinds.Kind.{Kind}
use Rattle.units.specs.declared.counts.Count.{Count}
use Rattle.units.specs.declared.counts.Figures.TheVariants as figures
use Rattle.units.specs.declared.kinds.Kind.TheVariants as kind
use Rattle.units.specs.declared.kinds.Unindexed.TheVariants as unindexed

-- what the check on positions 1-3 says of them

pub index_other : (f : Family) (t o c : ℕ) {r : Indexed} {at : ℕ} → r ≡ index_at f t o c → r ≡ Err (unindexed.Other at)
    → (are_digits t o ≡ false) × (at ≡ first_other t)
index_other f t o c e is =
    by_test (are_digits t o) (λ q. absurd (no_other f (index_of t o) c _ (rw q at (sym e ∙ is)))) (λ q. let told = rw q at (sym e ∙ is) in (q, cc))

pub index_digits : (f : Family) (t o c : ℕ) {r x : Indexed} → r ≡ index_at f t o c → r ≡ x → ((at : ℕ) → Err (unindexed.Other at) ≡ x → ⊥)
    → (are_digits t o ≡ true) × (listed_at f (index_of t o) c ≡ x)
index_digits f t o c e is apart =
    by_test (are_digits t o) (λ q. (q, rw q at (sym e ∙ is))) (λ q. absurd (apart (first_other t) (rw q at (sym e ∙ is))))

pub index_is : (f : Family) (t o c : ℕ) {r : Indexed} {i : ℕ} {k : Kind} → r ≡ index_at f t o c → r ≡ Ok (i, k)
    → ((are_digits t o ≡ true) × (listed_by f t o c ≡ true)) × (i ≡ index_by f t o c) × (k ≡ kind_of f (index_by f t o c))
index_is f t o c {r} {i} {k} e is =
    let (digits, told) = index_digits f t o c e is (λ at q. clash (cc)) in
    let (tens, ones) = both (is_digit t) (is_digit o) digits in
    ((digits, rw told), rw told, rw told (sym (listed_kind f (index_of t o) c i k (two_digits t o tens ones) told)))

-- what `number` takes: no more than 16 digits
abbrev pub is_number : List ℕ → Bool
is_number s = leb (length s) 16 && every is_digit s

pub said_not : (s : List ℕ) {r : Option ℕ} → r ≡ number_in s → r ≡ None → is_number s ≡ false
said_not s e f = by_test (is_number s) (λ q. let told = rw q at (sym e ∙ f) in absurd (clash (cc))) (λ q. q)

pub said_number : (s : List ℕ) {r : Option ℕ} {n : ℕ} → r ≡ number_in s → r ≡ Some n → (is_number s ≡ true) × (n ≡ number_of s)
said_number s e f =
    by_test (is_number s) (λ q. let told = rw q at (sym e ∙ f) in (q, cc)) (λ q. let told = rw q at (sym e ∙ f) in absurd (clash (cc)))

-- the three checks of a pair's data: its ppm, its sign, its mm
abbrev pub pair_parts : List ℕ → Bool
pair_parts d = is_number (ppm_in d) && (sign_right kind.Pair (under_in d) && is_number (mm_in d))

few : (n : ℕ) → 4 ≤ n → (b : Bool) → leb (n - 4) 16 ≡ b → leb n 20 ≡ b
few n h true e = le-leb n 20 (omega (arith, leb-true (n - 4) 16 e))
few n h false e = lt-leb n 20 (omega (arith, leb-false (n - 4) 16 e))

pub pair_by : (d : List ℕ) → 4 ≤ length d → pair_at d ≡ cond (pair_parts d) (Some (figures_in kind.Pair d)) None
pair_by d h =
    let front = length-take-le (length d - 4) d (omega arith) in
    let back : length (mm_in d) ≡ 3 = omega (arith, length-drop (length d - 3) d) in
    rw (le-leb 4 (length d) h, few (length d) h (leb (length d - 4) 16) refl, pair_right d h, front, back, and-true, and_assoc)

-- the same, check by check
abbrev pub or_else : {A B : Type 0} → Option A → B → (A → B) → B
or_else None b f = b
or_else (Some x) b f = f x

pub pair_read : (d : List ℕ) → 4 ≤ length d → pair_at d
    ≡ or_else (number_in (ppm_in d)) None
    (λ p. or_else (sign_at kind.Pair (under_in d)) None (λ u. or_else (number_in (mm_in d)) None (λ q. Some (figures.Pair p u q))))
pair_read d h = pair_by d h ∙ go (is_number (ppm_in d)) (sign_right kind.Pair (under_in d)) (is_number (mm_in d))
  where
    go : (a b c : Bool) → cond (a && (b && c)) (Some (figures_in kind.Pair d)) None
        ≡ or_else (cond a (Some (number_of (ppm_in d))) None) None
        (λ p. or_else (cond b (Some (sign_of (under_in d))) None) None (λ u. or_else (cond c (Some (number_of (mm_in d))) None) None (λ q. Some (figures.Pair p u q))))
    go true true true = refl
    go true true false = refl
    go true false c = refl
    go false b c = refl

-- the mm as they are lent
pub mm_part : (d : List ℕ) → 4 ≤ length d → mid_of (length d - 4 + 1) (length d - (length d - 4 + 1)) d ≡ mm_in d
mm_part d h =
    let from : length d - 4 + 1 ≡ length d - 3 = omega arith in
    rw (from, take_all (length d - (length d - 3)) (mm_in d) (omega (arith, length-drop (length d - 3) d)))

-- the first wrong byte of a pair's data, check by check
module _ (d : List ℕ) (h : 4 ≤ length d) where
  pub pair_told : data_at kind.Pair d
      ≡ cond (ltb (run_of is_digit (ppm_in d)) (length d - 4)) (run_of is_digit (ppm_in d))
      (cond (is_some (sign_at kind.Pair (under_in d))) (length d - 4 + 1 + run_of is_digit (mm_in d)) (length d - 4))
  pair_told = pair_at_lem d h ∙ rw signed (go (every is_digit (ppm_in d)) (is_sign (under_in d)) refl)
    where
      front : length (ppm_in d) ≡ length d - 4
      front = length-take-le (length d - 4) d (omega arith)

      is : (q : Bool) → is_some (cond q (Some (sign_of (under_in d))) None) ≡ q
      is true = refl
      is false = refl

      signed : is_some (sign_at kind.Pair (under_in d)) ≡ is_sign (under_in d)
      signed = rw and-true (is (is_sign (under_in d)))

      go : (p q : Bool) → every is_digit (ppm_in d) ≡ p
          → cond p (length d - 4 + cond q (suc (run_of is_digit (mm_in d))) 0) (run_of is_digit (ppm_in d))
          ≡ cond (ltb (run_of is_digit (ppm_in d)) (length d - 4)) (run_of is_digit (ppm_in d))
          (cond q (length d - 4 + 1 + run_of is_digit (mm_in d)) (length d - 4))
      go true q e = rw (le-ltb (run_of is_digit (ppm_in d)) (length d - 4) (omega (arith, run_every is_digit (ppm_in d) e, front))) (rest q)
        where
          rest : (q : Bool) → length d - 4 + cond q (suc (run_of is_digit (mm_in d))) 0
              ≡ cond q (length d - 4 + 1 + run_of is_digit (mm_in d)) (length d - 4)
          rest true = omega arith
          rest false = omega arith
      go false q e = rw (lt-ltb (run_of is_digit (ppm_in d)) (length d - 4) (omega (arith, run_other is_digit (ppm_in d) e, front)))

-- the data of a word: no more than `number` takes, and no fewer than a pair has
pub width_bounds : (wide : Bool) → (8 ≤ width wide) × (width wide ≤ 16)
width_bounds true = (omega arith, omega arith)
width_bounds false = (omega arith, omega arith)

pub data_length : (wide : Bool) (s : List ℕ) → word_size wide ≤ length s → length (data_in wide s) ≡ width wide
data_length wide s h = length-take-le (width wide) (drop 7 s) (omega (arith, length-drop 7 s))

-- the data as `read_word` lends them
pub data_part : (wide : Bool) (s : List ℕ) (n : ℕ) → n ≡ width wide → mid_of 7 (7 + n - 7) s ≡ data_in wide s
data_part wide s n e = let q : 7 + n - 7 ≡ width wide = omega arith in rw q

pub data_fits : (wide : Bool) (s : List ℕ) (n : ℕ) → n ≡ width wide → word_size wide ≤ length s
    → (4 ≤ length (mid_of 7 (7 + n - 7) s)) × (length (mid_of 7 (7 + n - 7) s) ≤ 16)
data_fits wide s n e h =
    let long : length (mid_of 7 (7 + n - 7) s) ≡ width wide = rw (data_part wide s n e) (data_length wide s h) in
    let some = width_bounds wide in
    (omega arith, omega arith)

pub spelled_by : (k : Kind) (d : List ℕ) → 4 ≤ length d → length d ≤ 16
    → spelled_at k d ≡ cond (data_right k d) (Some (figures_in k d)) None
spelled_by kind.Missing d h g = rw (missing_right d h)
spelled_by kind.Numbered d h g = rw (one_right is_graphic d)
spelled_by kind.Text d h g = rw (one_right is_graphic d)
spelled_by kind.Angle d h g = rw (le-leb (length d) 16 g, one_right is_digit d)
spelled_by kind.Length d h g = rw (le-leb (length d) 16 g, one_right is_digit d)
spelled_by kind.Constant d h g = rw (le-leb (length d) 16 g, one_right is_digit d)
spelled_by kind.Pair d h g = rw (le-leb 4 (length d) h, le-leb (length d) 20 (omega arith))

-- `data_word`, `listed_word` and `word_of`, check by check

module _ (i : ℕ) (k : Kind) (info : List ℕ) (u m : ℕ) (d : List ℕ) (b : ℕ) (h : 4 ≤ length d) (g : length d ≤ 16) where
  abbrev pub counts : Option Count → OneWord
  counts v = or_else v (faulty Value 7) (λ c. right_word (record_of i info c (text_field k d)))

  pub data_read : data_word i k info u m d b
      ≡ or_else (spelled_at k d) (faulty Characters (7 + data_at k d)) (λ y. unless (eqb b 32) Separator (7 + length d) (counts (value_at k i u m y)))
  data_read = rw (spelled_by k d h g) (go (data_right k d))
    where
      counted : (v : Option Count) → unless (is_counted v) Value 7 (right_word (record_of i info (count_or v) (text_field k d))) ≡ counts v
      counted None = refl
      counted (Some c) = refl

      go : (p : Bool) → unless p Characters (7 + data_at k d)
          (unless (eqb b 32) Separator (7 + length d)
          (unless (is_counted (value_at k i u m (figures_in k d))) Value 7
          (right_word (record_of i info (count_or (value_at k i u m (figures_in k d))) (text_field k d)))))
          ≡ or_else (cond p (Some (figures_in k d)) None) (faulty Characters (7 + data_at k d))
          (λ y. unless (eqb b 32) Separator (7 + length d) (counts (value_at k i u m y)))
      go true = ap (unless (eqb b 32) Separator (7 + length d)) (counted (value_at k i u m (figures_in k d)))
      go false = refl

-- a word whose positions 1-3 are an index
pub listed_by_lem : (f : Family) (wide : Bool) (s : List ℕ) → word_size wide ≤ length s → are_digits (pos 1 s) (pos 2 s) ≡ true
    → listed_by f (pos 1 s) (pos 2 s) (pos 3 s) ≡ true → word_of f wide s ≡ listed_word f wide (index_in f s) (kind_at f s) s
listed_by_lem f wide s h d l = rw (le-leb (word_size wide) (length s) h, d, l, data_length wide s h)

module _ (f : Family) (wide : Bool) (i : ℕ) (k : Kind) (s : List ℕ) where
  abbrev pub info_of : List ℕ
  info_of = lead_of i (pos 3 s) ∷ pos 4 s ∷ pos 5 s ∷ pos 6 s ∷ []

  pub listed_read : listed_word f wide i k s
      ≡ unless (info_right f i k (lead_of i (pos 3 s)) (pos 4 s) (pos 5 s) (pos 6 s)) Information
      (2 + first_wrong (info_marks f i k (lead_of i (pos 3 s)) (pos 4 s) (pos 5 s) (pos 6 s)))
      (or_else (sign_at k (pos 7 s)) (faulty Sign 6) (λ m. data_word i k info_of (pos 6 s) m (data_in wide s) (get_or s (7 + width wide) 0)))
  listed_read = go (info_right f i k (lead_of i (pos 3 s)) (pos 4 s) (pos 5 s) (pos 6 s)) (sign_right k (pos 7 s))
    where
      rest : ℕ → OneWord
      rest m = data_word i k info_of (pos 6 s) m (data_in wide s) (get_or s (7 + width wide) 0)

      at : ℕ
      at = 2 + first_wrong (info_marks f i k (lead_of i (pos 3 s)) (pos 4 s) (pos 5 s) (pos 6 s))

      go : (p q : Bool) → unless p Information at (unless q Sign 6 (rest (sign_of (pos 7 s))))
          ≡ unless p Information at (or_else (cond q (Some (sign_of (pos 7 s))) None) (faulty Sign 6) rest)
      go true true = refl
      go true false = refl
      go false q = refl

abbrev pub or_wrong : Indexed → (ℕ × Kind → OneWord) → OneWord
or_wrong (Ok p) f = f p
or_wrong (Err u) f = Err (wrong_index u)

pub word_read : (f : Family) (wide : Bool) (s : List ℕ) → 7 + width wide < length s
    → word_of f wide s ≡ or_wrong (index_at f (pos 1 s) (pos 2 s) (pos 3 s)) (λ p. listed_word f wide p.0 p.1 s)
word_read f wide s h = go (index_at f (pos 1 s) (pos 2 s) (pos 3 s)) refl
  where
    long : leb (word_size wide) (length s) ≡ true
    long = le-leb (word_size wide) (length s) (omega arith)

    go : (a : Indexed) → a ≡ index_at f (pos 1 s) (pos 2 s) (pos 3 s) → word_of f wide s ≡ or_wrong a (λ p. listed_word f wide p.0 p.1 s)
    go (Ok p) e =
        let ok = index_is f (pos 1 s) (pos 2 s) (pos 3 s) e refl in
        listed_by_lem f wide s (omega arith) ok.0.0 ok.0.1 ∙ (λ t. listed_word f wide (sym ok.1 t) (sym ok.2 t) s)
    go (Err (unindexed.Other at)) e = let (digits, place) = index_other f (pos 1 s) (pos 2 s) (pos 3 s) e refl in rw (long, digits, ← place)
    go (Err unindexed.Unlisted) e =
        let (digits, told) = index_digits f (pos 1 s) (pos 2 s) (pos 3 s) e refl (λ at q. clash (cc)) in
        rw (long, digits, told)

-- all of a wide word's text is data
pub wide_text : (k : Kind) (t : List ℕ) → is_textual k ≡ true → length t ≡ 16 → text_right true k t ≡ every is_graphic t
unfolding every
wide_text k t e h = rw (e, take_all 16 t (omega arith), drop_of_length-le t {i = 16} (omega arith), and-true)
