-- A word of GET/I, of either width, reads to the record of its value. The table is walked once, and a row by its kind; the mode is GET's or a
-- PUT's, so that the word that was put is read by the same laws.
use Prim.Native.Nat.{ℕ, suc, ◌≤◌}
use mathlib.Core.Path.{◌≡◌, refl, sym, ap, ◌∙◌}
use mathlib.Core.Bool.{Bool, true, false, cond, ◌&&◌, false≢true, and-false}
use mathlib.Core.List.{List, [], ◌∷◌, ◌++◌}
use native.Mathlib.Omega.{arith}
use borrow.Author.Tests.{eqb-true, eqb-false, ne_eqb, lt-ltb}
use lib.Dec.{eqb, ltb}
use lib.ListN.{length, replicate}
use lib.Seq.{take_all}
use Rattle.std.specs.Prelude.{Option, Some, None}
use Rattle.figures.specs.Bytes.{within, among, every}
use Rattle.figures.specs.Decimal.{is_digit, number_from, number_of}
use Rattle.figures.proofs.Bytes.{within_bounds}
use Rattle.figures.proofs.Tests.{both, by_test, Even, along}
use Rattle.units.specs.Kinds.{station_kind, is_listed, is_textual}
use Rattle.units.specs.Information.{station_marks, all_right, sign_byte, sign_right}
use Rattle.units.specs.Counts.{whole, zero_whole, degrees, minutes, seconds, tenths_of, counted, angle_at, length_of, value_at, first_of, second_of, gon_limit, degree_limit}
use Rattle.units.proofs.Positions.{tens_of, ones_of, index_on, index_below, tens_digit, ones_digit, sign_on, sign_right_lem}
use Rattle.words.specs.Records.{width, is_graphic, is_right, record_of}
use Rattle.words.proofs.Letters.{one_right, text_right}
use Rattle.words.specs.Reading.{word_size, data_right, figures_in, text_field, is_counted, right_word, word_of}
use Rattle.words.specs.Writing.{bytes_of}
use Rattle.words.proofs.Places.{Places, spread, word_by, word_spread}
use Rattle.words.proofs.RoundTrip.{read_write}
use Rattle.words.proofs.Values.{by_length}
use Rattle.units.specs.declared.kinds.Family.TheVariants.{Station}
use Rattle.units.specs.declared.kinds.Kind.{Kind}
use Rattle.units.specs.declared.kinds.Kind.TheVariants as kind
use Rattle.units.specs.declared.counts.Whole.{Whole}
use Rattle.units.specs.declared.counts.Count.{Count}
use Rattle.units.specs.declared.counts.Count.TheVariants.{Text, Gon, Degree, Tenth}
use Rattle.units.specs.declared.counts.Figures.TheVariants.{Number}
use Rattle.words.specs.declared.records.Word.{Word}
use Rattle.instrument.specs.Values.{Eight, Kept, put_of, units_of, stored_at, is_put, kept_right, get_word, eight_bytes, word_in}
use Rattle.instrument.specs.declared.values.Stored.{Stored}
use Rattle.instrument.proofs.Kept.{each_stored, held_by, kept_parts, kept_outside, kept_held}
use Rattle.controller.specs.Given.{size_in, zeros, text_given, given}

-- zeros on the left

zeros_every : (p : ℕ → Bool) (wide : Bool) (l : List ℕ) → p 48 ≡ true → every p (zeros wide ++ l) ≡ every p l
unfolding every
zeros_every p true l e = rw e
zeros_every p false l e = refl

zeros_number : (wide : Bool) (l : List ℕ) → number_of (zeros wide ++ l) ≡ number_of l
unfolding number_from
zeros_number true l = refl
zeros_number false l = refl

zeros_length : (wide : Bool) (d : Eight) → length (zeros wide ++ eight_bytes d) ≡ width wide
zeros_length true d = refl
zeros_length false d = refl

-- v counts x, and nothing besides
record Sized (v : Option Count) (x : Whole) : Type 0 where
  count : Count
  counts : v ≡ Some count
  first : first_of count ≡ x
  second : second_of count ≡ zero_whole

counted_sized : (t : Bool) (c : Count) (x : Whole) → first_of c ≡ x → second_of c ≡ zero_whole → is_counted (counted t c) ≡ true → Sized (counted t c) x
counted_sized true c x p q e = record { count = c; counts = refl; first = p; second = q }
counted_sized false c x p q e = absurd (false≢true e)

-- units 2, 3 and 4
angle_sized : (u m n : ℕ) → 50 ≤ u → u ≤ 52 → is_counted (angle_at u m n) ≡ true → Sized (angle_at u m n) (whole m (size_in u n))
angle_sized u m n low high =
    by_test (eqb u 50) (λ q. rw (eqb-true u 50 q) (counted_sized (ltb n gon_limit) (Gon (record { 0 = whole m n })) (whole m n) refl refl))
    (λ q.
    by_test (eqb u 51) (λ s. rw (eqb-true u 51 s) (counted_sized (ltb n degree_limit) (Degree (record { 0 = whole m n })) (whole m n) refl refl))
    (λ s.
    let is : u ≡ 52 = omega (arith, eqb-false u 50 q, eqb-false u 51 s) in
    let range = ltb (degrees n) 360 && (ltb (minutes n) 60 && ltb (seconds n) 60) in
    rw is (counted_sized range (Tenth (record { 0 = whole m (tenths_of n) })) (whole m (tenths_of n)) refl refl)))

-- units 0 and 1
length_sized : (u m n : ℕ) → u ≤ 49 → Sized (Some (length_of u (whole m n))) (whole m (size_in u n))
length_sized u m n high =
    let x = whole m n in
    let plain =
    by_length (λ of. (first_of (of x) ≡ x) × (second_of (of x) ≡ zero_whole)) (λ d. (refl, refl)) (λ d. (refl, refl)) (refl, refl) u in
    let size : whole m n ≡ whole m (size_in u n) = rw (ne_eqb u 52 (λ e. omega arith)) in
    record { count = length_of u x; counts = refl; first = plain.0 ∙ size; second = plain.1 }

-- a total station's word has such a unit, after dots and that mode
abbrev informs : Kind → ℕ → ℕ → Bool
informs k mode u = all_right (station_marks k 46 46 mode u)

-- GET answers mode 1 for a number, and a PUT has a dot there
abbrev mode_in : Bool → Stored → ℕ
mode_in get r = cond (eqb r.first 46) 46 (cond get 49 46)

length_units : (get : Bool) → Even (informs kind.Length (cond get 49 46)) true 48 50
unfolding among
length_units true = refl
length_units false = refl

angle_units : (get : Bool) → Even (informs kind.Angle (cond get 49 46)) true 50 53
unfolding among
angle_units true = refl
angle_units false = refl

-- text by its kind

text_value : (k : Kind) (i u m : ℕ) (l : List ℕ) → is_textual k ≡ true → value_at k i u m (figures_in k l) ≡ Some Text
text_value kind.Missing i u m l e = absurd (false≢true e)
text_value kind.Numbered i u m l e = refl
text_value kind.Text i u m l e = refl
text_value kind.Angle i u m l e = absurd (false≢true e)
text_value kind.Length i u m l e = absurd (false≢true e)
text_value kind.Constant i u m l e = absurd (false≢true e)
text_value kind.Pair i u m l e = absurd (false≢true e)

module _ (get wide : Bool) (u m : ℕ) (d : Eight) (small : m ≤ 1) where
  abbrev letters : List ℕ
  letters = zeros wide ++ eight_bytes d

  abbrev pub positions : Stored → Places
  positions r = record {
    tens = tens_of r.index;
    ones = ones_of r.index;
    first = 46;
    second = 46;
    mode = mode_in get r;
    unit = u;
    sign = sign_byte m;
    letters = letters;
    end = 32;
  }

  abbrev info : Stored → List ℕ
  info r = 46 ∷ 46 ∷ mode_in get r ∷ u ∷ []

  abbrev pub row_given : Stored → Word
  row_given r =
      record {
        index = r.index;
        info = info r;
        minus = m;
        mmminus = 0;
        size = cond (eqb r.first 46) 0 (size_in u (number_of (eight_bytes d)));
        mm = 0;
        text = cond (eqb r.first 46) (text_given wide d) (replicate 16 0);
      }

  -- a value that the row holds
  abbrev Reads : Stored → Type 0
  Reads r = r.first ≤ u → u ≤ r.last → held_by r u m (eight_bytes d) ≡ true → word_by Station wide (positions r) ≡ right_word (row_given r)

  abbrev Units : Stored → Type 0
  Units r = Even (informs (station_kind r.index) (mode_in get r)) true r.first (suc r.last)

  row_reads : (r : Stored) (c : Count) → is_listed (station_kind r.index) ≡ true → Units r → r.first ≤ u → u ≤ r.last
      → sign_right (station_kind r.index) (sign_byte m) ≡ true → data_right (station_kind r.index) letters ≡ true
      → value_at (station_kind r.index) r.index u m (figures_in (station_kind r.index) letters) ≡ Some c
      → record_of r.index (info r) c (text_field (station_kind r.index) letters) ≡ row_given r
      → word_by Station wide (positions r) ≡ right_word (row_given r)
  row_reads r c listed units low high sign right value same =
      let i = r.index in
      let k = station_kind i in
      let informed = sym (along (informs k (mode_in get r)) r.first (suc r.last) units low (omega arith)) in
      rw (index_on i (index_below i listed), tens_digit i, ones_digit i, listed, lt-ltb i 100 (index_below i listed), sign_on m small, informed, sign, right, value) (ap right_word same)

  by_text : (r : Stored) → is_listed (station_kind r.index) ≡ true → Units r → is_textual (station_kind r.index) ≡ true → eqb r.first 46 ≡ true → Reads r
  by_text r listed units text dot low high held =
      let k = station_kind r.index in
      let parts = both (eqb m 0) (every is_graphic (eight_bytes d)) (rw dot at held) in
      let plus = eqb-true m 0 parts.0 in
      let sign = sign_right_lem k m (record { small = small; plus = λ _. plus }) in
      let right : data_right k letters ≡ true = text_right k letters text ∙ zeros_every is_graphic wide (eight_bytes d) refl ∙ parts.1 in
      row_reads r Text listed units low high sign right (text_value k r.index u m letters text) (rw (text, dot, plus))

  by_number : (r : Stored) → is_listed (station_kind r.index) ≡ true → Units r → is_textual (station_kind r.index) ≡ false
      → ((l : List ℕ) → data_right (station_kind r.index) l ≡ every is_digit l) → ((l : List ℕ) → figures_in (station_kind r.index) l ≡ Number (number_of l))
      → eqb r.first 46 ≡ false
      → ((n : ℕ) → r.first ≤ u → u ≤ r.last → is_counted (value_at (station_kind r.index) r.index u m (Number n)) ≡ true
      → Sized (value_at (station_kind r.index) r.index u m (Number n)) (whole m (size_in u n)))
      → Reads r
  by_number r listed units plain digits says dot sized low high held =
      let k = station_kind r.index in
      let n = number_of (eight_bytes d) in
      let parts = both (every is_digit (eight_bytes d)) (is_counted (value_at k r.index u m (Number n))) (rw dot at held) in
      let s = sized n low high parts.1 in
      let sign = sign_right_lem k m (record { small = small; plus = λ t. absurd (false≢true (sym plain ∙ t)) }) in
      let right : data_right k letters ≡ true = digits letters ∙ zeros_every is_digit wide (eight_bytes d) refl ∙ parts.0 in
      let value : value_at k r.index u m (figures_in k letters) ≡ Some s.count = rw (says letters, zeros_number wide (eight_bytes d)) s.counts in
      row_reads r s.count listed units low high sign right value (rw (plain, dot, s.first, s.second))

  each : (place : ℕ) → Reads (stored_at place)
  unfolding among
  each =
      each_stored Reads
      (by_text (units_of 11 "." ".") refl refl refl refl)
      (by_text (units_of 16 "." ".") refl refl refl refl)
      (λ i is.
      by_number (units_of i "2" "4") (rw is) (rw is (angle_units get)) (rw is) (λ l. rw is (one_right is_digit l)) (λ l. rw is) refl
      (λ n low high. rw is (angle_sized u m n low high)))
      (λ i is.
      by_number (units_of i "0" "1") (rw is) (rw is (length_units get)) (rw is) (λ l. rw is (one_right is_digit l)) (λ l. rw is) refl
      (λ n low high. rw is (λ _. length_sized u m n high)))
      (λ low high held. absurd (false≢true (sym (and-false (every is_digit (eight_bytes d))) ∙ held)))

  pub place_reads : (place : ℕ) → kept_right place (put_of u m d) ≡ true
      → word_of Station wide (spread (positions (stored_at place)) []) ≡ right_word (row_given (stored_at place))
  place_reads place right =
      let r = stored_at place in
      let long = (kept_parts place (record { unit = u; minus = m; eight = d }) right).long in
      by_test (within r.first r.last u)
      (λ q.
      let unit = within_bounds r.first r.last u q in
      let held = sym (kept_held u m d small place long unit.0 unit.1) ∙ right in
      word_spread wide (positions r) (zeros_length wide d) Station [] ∙ each place unit.0 unit.1 held)
      (λ q. absurd (false≢true (sym (kept_outside u m d small place long q) ∙ right)))

pub kept_small : (place u m : ℕ) (d : Eight) → kept_right place (put_of u m d) ≡ true → m ≤ 1
kept_small place u m d right = (kept_parts place (record { unit = u; minus = m; eight = d }) right).small

-- the word of GET, place by place
word_places : (wide : Bool) (place u m : ℕ) (d : Eight) (small : m ≤ 1)
    → word_in wide (get_word place (put_of u m d)) ≡ spread (positions true wide u m d small (stored_at place)) []
word_places true place u m d small = refl
word_places false place u m d small = refl

pub given_read : (wide : Bool) (place : ℕ) (k : Kept) → is_put k ≡ true → kept_right place k ≡ true
    → word_of Station wide (word_in wide (get_word place k)) ≡ right_word (given wide place k)
given_read wide place None put right = absurd (false≢true put)
given_read wide place (Some p) put right =
    let small = kept_small place p.unit p.minus p.eight right in
    ap (word_of Station wide) (word_places wide place p.unit p.minus p.eight small) ∙ place_reads true wide p.unit p.minus p.eight small place right

pub given_right : (wide : Bool) (place : ℕ) (k : Kept) → is_put k ≡ true → kept_right place k ≡ true → is_right Station wide (given wide place k) ≡ true
given_right wide place k put right =
    (read_write Station wide (word_in wide (get_word place k)) (given wide place k) (given_read wide place k put right)).0

word_length : (wide : Bool) (place : ℕ) (k : Kept) → is_put k ≡ true → length (word_in wide (get_word place k)) ≡ word_size wide
word_length wide place None put = absurd (false≢true put)
word_length true place (Some p) put = refl
word_length false place (Some p) put = refl

pub given_bytes : (wide : Bool) (place : ℕ) (k : Kept) → is_put k ≡ true → kept_right place k ≡ true
    → bytes_of Station wide (given wide place k) ≡ word_in wide (get_word place k)
given_bytes wide place k put right =
    let s = word_in wide (get_word place k) in
    (read_write Station wide s (given wide place k) (given_read wide place k put right)).1
    ∙ take_all (word_size wide) s (omega (arith, word_length wide place k put))
