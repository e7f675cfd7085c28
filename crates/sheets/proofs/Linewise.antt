-- Laws of lines: one line more, whether the next one fits, and how long a line is.
use Prim.Native.Nat.{ℕ, suc, ◌+◌, ◌*◌, ◌/◌, ◌%◌, ◌^◌, ◌<◌, ◌≤◌}
use mathlib.Core.Path.{◌≡◌, refl, sym, ap, subst, ◌∙◌}
use mathlib.Core.Bool.{cond}
use mathlib.Core.List.{List, [], ◌∷◌, ◌++◌, append_assoc, append-nil, foldr}
use native.Mathlib.Nat.{add-zero}
use native.Mathlib.Numerals.{add-one}
use native.Mathlib.Omega.{arith}
use borrow.Author.Tests.{ltb-true, lt-ltb, le-ltb}
use lib.Dec.{ltb}
use lib.ListN.{length, get_or, take, drop, length-append, take-append-drop, drop_of_length-le}
use lib.Seq.{take-suc, take_all, drop-cons, length-take-le}
use Rattle.figures.specs.Text.{codes, byte}
use Rattle.figures.specs.Decimal.{digits_of, digits_nBy, digits_n, decimal_of}
use Rattle.figures.specs.Rooms.{Fills}
use Rattle.figures.specs.declared.rooms.Room.{Room}
use Rattle.figures.proofs.Decimal.{digits_length}
use Rattle.figures.proofs.Tests.{by_test}
use Rattle.figures.proofs.Putting.{puts_nothing, puts_long, fills_more, fills_as}
use Rattle.instrument.specs.Settings.{rows100, rows300, rows_of, settings_n, row_at, no_row, held}
use Rattle.instrument.specs.Values.{is_put}
use Rattle.instrument.specs.declared.settings.Series.{Series}
use Rattle.instrument.specs.declared.settings.Series.TheVariants.{Tps100, Tps300}
use Rattle.instrument.specs.declared.settings.Row.{Row}
use Rattle.instrument.specs.Values.{Kept}
use Rattle.state.specs.declared.entries.State.{State}
use Rattle.sheets.specs.Lines.{LinesOf, lines_by}
use Rattle.sheets.specs.Sheet.{series_line, setting_key, setting_lines, characters_n, characters_of, value_key, kept_line, value_lines, sheet_of}
use Rattle.sheets.specs.Keeping.{Fits, keys_n, kept_text}
use Rattle.sheets.proofs.Keyed.{value_name}
use Rattle.std.specs.Prelude.{Some, None}

-- of a text in two parts that fits, the first does, and then the second

pub fits_first : {a : Room} (s t : List ℕ) → Fits a (s ++ t) → Fits a s
fits_first s t h = record { within = omega (arith, h.within, length-append s t) }

pub fits_next : {a b : Room} (s t : List ℕ) → Fits a (s ++ t) → Fills a s b → Fits b t
fits_next {a = a} s t h p = record { within = omega (arith, h.within, length-append s t, p.puts.0, puts_long a.bytes.now a.at s p.puts) }

pub fits_as : {a : Room} {s t : List ℕ} → Fits a s → s ≡ t → Fits a t
fits_as {a} p e = subst (λ x. Fits a x) e p

-- one line more, whatever a line is

module _ {A : Type 0} (l : LinesOf A) where
  pub lines_append : (k : ℕ) (xs ys : List A) → lines_by l k (xs ++ ys) ≡ lines_by l k xs ++ lines_by l (k + length xs) ys
  unfolding lines_by
  lines_append k [] ys = rw add-zero
  lines_append k (x ∷ xs) ys =
      let q : k + 1 + length xs ≡ k + suc (length xs) = omega arith in
      rw (lines_append (k + 1) xs ys, q, append_assoc)

  pub lines_more : (xs : List A) (i : ℕ) (d : A) → i < length xs → lines_by l 0 (take (i + 1) xs) ≡ lines_by l 0 (take i xs) ++ l.write i (get_or xs i d)
  unfolding lines_by
  lines_more xs i d h =
      let place : 0 + length (take i xs) ≡ i = omega (arith, length-take-le i xs (omega arith)) in
      let all : take (i + 1) xs ≡ take i xs ++ (get_or xs i d ∷ []) = ap (λ n. take n xs) (add-one i) ∙ take-suc xs i d h in
      ap (lines_by l 0) all
      ∙ lines_append 0 (take i xs) (get_or xs i d ∷ [])
      ∙ ap (λ t. lines_by l 0 (take i xs) ++ t) (append-nil _ ∙ ap (λ n. l.write n (get_or xs i d)) place)

  pub lines_none : (xs : List A) {a : Room} → a.at ≤ length a.bytes.now → Fills a (lines_by l 0 (take 0 xs)) a
  unfolding lines_by
  lines_none xs {a} h = record { puts = puts_nothing a.bytes.now a.at h; same = refl }

  -- how long the lines before a place are: none, and one more

  pub long_none : (xs : List A) → length (lines_by l 0 (take 0 xs)) ≡ 0
  unfolding lines_by
  long_none xs = refl

  pub long_more : (xs : List A) (i : ℕ) (d : A) → i < length xs
      → length (lines_by l 0 (take (i + 1) xs)) ≡ length (lines_by l 0 (take i xs)) + length (l.write i (get_or xs i d))
  long_more xs i d h = ap length (lines_more xs i d h) ∙ length-append (lines_by l 0 (take i xs)) (l.write i (get_or xs i d))

  long_all : (xs : List A) (i : ℕ) → length (lines_by l 0 (take i xs)) ≤ length (lines_by l 0 xs)
  long_all xs i =
      let done = take i xs in
      let whole = ap (lines_by l 0) (sym (take-append-drop i xs)) ∙ lines_append 0 done (drop i xs) in
      omega (arith, ap length whole, length-append (lines_by l 0 done) (lines_by l (0 + length done) (drop i xs)))

  -- where all lines fit the next does
  pub lines_fit : (xs : List A) (i : ℕ) (d : A) {a b : Room} → i < length xs → Fits a (lines_by l 0 xs) → Fills a (lines_by l 0 (take i xs)) b
      → Fits b (l.write i (get_or xs i d))
  lines_fit xs i d {a} h fits p =
      let done = lines_by l 0 (take i xs) in
      record { within = omega (arith, p.puts.0, puts_long a.bytes.now a.at done p.puts, fits.within, long_more xs i d h, long_all xs (i + 1)) }

  -- the line of the next place is put after those before it
  pub lines_put : (xs : List A) (i : ℕ) (d : A) {a b c : Room} {text : List ℕ} → i < length xs → text ≡ l.write i (get_or xs i d)
      → Fills a (lines_by l 0 (take i xs)) b → Fills b text c → Fills a (lines_by l 0 (take (i + 1) xs)) c
  lines_put xs i d h e p q = fills_as (fills_more p q) (ap (λ t. lines_by l 0 (take i xs) ++ t) e ∙ sym (lines_more xs i d h))

  pub lines_all : (xs : List A) (i : ℕ) {a b : Room} → length xs ≤ i → Fills a (lines_by l 0 (take i xs)) b → Fills a (lines_by l 0 xs) b
  lines_all xs i h p = fills_as p (ap (lines_by l 0) (take_all i xs h))

-- a number of up to three digits, by them

module _ (n : ℕ) where
  pub one_digit : n < 10 → decimal_of n ≡ (48 + n % 10) ∷ []
  unfolding digits_nBy digits_of
  one_digit h = rw (lt-ltb n 10 h)

  pub two_digits : 10 ≤ n → n < 100 → decimal_of n ≡ (48 + n / 10 % 10) ∷ (48 + n % 10) ∷ []
  unfolding digits_nBy digits_of
  two_digits low h = rw (le-ltb n 10 low, lt-ltb (n / 10) 10 (omega arith))

  pub three_digits : 100 ≤ n → n < 1000 → decimal_of n ≡ (48 + n / 100 % 10) ∷ (48 + n / 10 % 10) ∷ (48 + n % 10) ∷ []
  unfolding digits_nBy digits_of
  three_digits low h =
      let first : n / 10 / 10 ≡ n / 100 = omega arith in
      rw (le-ltb n 10 (omega arith), le-ltb (n / 10) 10 (omega arith), lt-ltb (n / 10 / 10) 10 (omega arith), first)

  -- and how many they are
  pub digits_as : {t : List ℕ} → decimal_of n ≡ t → digits_n n ≡ length t
  digits_as e = sym (digits_length (digits_n n) n) ∙ ap length e

-- how long a line is

pub short_decimal : (n : ℕ) → n < 1000 → (digits_n n ≤ 3) × (n < 10 ^ digits_n n)
unfolding digits_nBy
short_decimal n h =
    by_test (ltb n 10) (λ a. rw a (omega (arith, ltb-true n 10 a)))
    (λ a. by_test (ltb (n / 10) 10) (λ b. rw (a, b) (omega (arith, ltb-true (n / 10) 10 b)))
    (λ b. rw (a, b, lt-ltb (n / 10 / 10) 10 (omega arith)) (omega arith)))

pub setting_long : (k : Series) (i p : ℕ) → length ((setting_lines k).write i p) ≡ length (setting_key (row_at k i)) + 1 + digits_n p
setting_long k i p =
    omega (arith, length-append (setting_key (row_at k i)) (decimal_of p ++ codes "\n"), length-append (decimal_of p) (codes "\n"), digits_length (digits_n p) p)

-- a value's name, a separator, what was put, LF

pub text_long : (i separator : ℕ) (k : Kept) → length (kept_text i separator k) ≡ length (value_name i) + 2 + characters_n * cond (is_put k) 1 0
text_long i separator None = omega (arith, length-append (value_name i) (separator ∷ codes "\n"))
text_long i separator (Some p) =
    let c = characters_of i (Some p) in
    omega (arith, length-append (value_name i) (separator ∷ (c ++ codes "\n")), length-append c (codes "\n"))

pub kept_text_lem : (i : ℕ) (k : Kept) → kept_line i k ≡ kept_text i (byte "=") k
kept_text_lem i k = append_assoc (value_name i) (codes "=") (characters_of i k ++ codes "\n")

pub kept_long : (i : ℕ) (k : Kept) → length (kept_line i k) ≡ length (value_key i) + 1 + characters_n * cond (is_put k) 1 0
kept_long i k = omega (arith, ap length (kept_text_lem i k), text_long i (byte "=") k, length-append (value_name i) (codes "="))

-- the lines of the settings before the place i, and the keys and LFs of those from there on

abbrev pub keys_from : Series → ℕ → ℕ
keys_from k i = foldr (λ (r : Row) n. length (setting_key r) + 1 + n) 0 (drop i (rows_of k))

abbrev pub size_to : Series → List ℕ → ℕ → ℕ
size_to k ps i = length (lines_by (setting_lines k) 0 (take i ps)) + keys_from k i

pub keys_few : (k : Series) → keys_n k ≤ 164
unfolding keys_n rows100 rows300 digits_of digits_nBy
keys_few Tps100 = omega arith
keys_few Tps300 = omega arith

pub size_none : (k : Series) (ps : List ℕ) → keys_n k ≡ size_to k ps 0
unfolding keys_n
size_none k ps = omega (arith, long_none (setting_lines k) ps)

module _ (k : Series) (ps : List ℕ) (all : length ps ≡ settings_n k) where
  pub size_more : (i : ℕ) → i < length ps → size_to k ps (i + 1) ≡ size_to k ps i + digits_n (get_or ps i 0)
  size_more i h =
      let keys : keys_from k i ≡ length (setting_key (row_at k i)) + 1 + keys_from k (i + 1) = rw (drop-cons (rows_of k) i no_row (omega arith), add-one i) in
      omega (arith, keys, long_more (setting_lines k) ps i 0 h, setting_long k i (get_or ps i 0))

  pub size_all : (i : ℕ) → length ps ≤ i → size_to k ps i ≡ length (lines_by (setting_lines k) 0 ps)
  size_all i h = rw (drop_of_length-le (rows_of k) {i = i} (omega arith), take_all i ps h, add-zero)

-- the settings' part, and then the values'
pub sheet_halves : (s : State) → let k = s.series in
    (series_line k ++ lines_by (setting_lines k) 0 (held k s.settings)) ++ lines_by value_lines 0 s.values ≡ sheet_of s
unfolding sheet_of
sheet_halves s =
    let k = s.series in
    append_assoc (series_line k) (lines_by (setting_lines k) 0 (held k s.settings)) (lines_by value_lines 0 s.values)
