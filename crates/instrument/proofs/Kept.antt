-- Laws of what is stored: the rules for a value's word are rules for its parts, and what a PUT leaves is right for its place.
use Prim.Native.Nat.{ℕ, zero, suc, ◌+◌, ◌/◌, ◌%◌, ◌<◌, ◌≤◌}
use mathlib.Core.Path.{◌≡◌, refl, sym, ap, ◌∙◌}
use mathlib.Core.Bool.{Bool, true, false, cond, not, ◌&&◌, ◌||◌, false≢true, and-true, and-false, and-eq-true_iff}
use mathlib.Core.List.{List, [], ◌∷◌, ◌++◌}
use native.Mathlib.Omega.{arith}
use borrow.Author.Tests.{eqb-true, eq-eqb, leb-true, le-leb, lt-ltb}
use lib.Dec.{eqb, leb}
use lib.ListN.{length, get_or, take, drop, drop_of_length-le, length-drop, get_or-eq_default}
use lib.Seq.{drop-cons, get_or-drop, take_all}
use Rattle.figures.specs.Text.{codes}
use Rattle.figures.specs.Bytes.{within, among, every}
use Rattle.figures.specs.Decimal.{is_digit, number_of, are_digits}
use Rattle.figures.proofs.Bytes.{within_bounds, bounds_within}
use Rattle.figures.proofs.Tests.{by_test, Even, along}
use Rattle.units.specs.Kinds.{station_kind, is_listed, is_textual, index_of, listed_by}
use Rattle.units.specs.Information.{is_dot, station_marks, all_right, first_wrong, sign_byte, sign_of, sign_right}
use Rattle.units.specs.Counts.{angle_at, value_at}
use Rattle.units.proofs.Positions.{tens_of, ones_of, index_on, index_below, tens_digit, ones_digit, sign_on, sign_right_lem}
use Rattle.words.specs.Records.{is_graphic}
use Rattle.words.proofs.Letters.{one_right}
use Rattle.words.specs.Reading.{pos, word_of, index_in, kind_at, marks_in, data_in, data_right, figures_in}
use Rattle.words.specs.Reading.{count_or, is_counted, value_in, record_in, unless, right_word, word_size}
use Rattle.words.proofs.Places.{Places, spread, places_in, Tells, informed_at, tells_by, rules, record_by, word_spread}
use Rattle.words.proofs.Signs.{minus_as_plus}
use Rattle.units.specs.declared.kinds.Family.TheVariants.{Station}
use Rattle.units.specs.declared.kinds.Kind.{Kind}
use Rattle.units.specs.declared.kinds.Kind.TheVariants as kind
use Rattle.units.specs.declared.counts.Figures.TheVariants.{Number}
use Rattle.words.specs.declared.reading.Fault.{Fault}
use Rattle.words.specs.declared.reading.Fault.TheVariants.{Short, Information}
use Rattle.words.specs.Reading.{OneWord, Judged, judged_in, judged_wrong}
use Rattle.words.specs.declared.records.Word.{Word}
use Rattle.instrument.proofs.Seek.{Each, each_at, turn_at, turn_on, seek_past}
use Rattle.instrument.specs.Rows.{seek}
use Rattle.instrument.specs.Values.{index_number, value_place, units_of, stored, no_stored, stored_at, values_n, is_right_word, put_marks, put_right}
use Rattle.std.specs.Prelude.{Some, None}
use Rattle.instrument.specs.Values.{Eight, put_of, put_kept, value_word, kept_right, parts_n, parts_right, eight_of, eight_bytes}
use Rattle.instrument.specs.declared.values.Stored.{Stored}
use Rattle.instrument.specs.declared.values.Put.{Put}

-- the n elements from i on
unfoldable pub elements : ℕ → ℕ → List ℕ → List ℕ
elements zero i b = []
elements (suc n) i b = get_or b i 0 ∷ elements n (suc i) b

pub elements_are : (n i : ℕ) (b : List ℕ) → length b ≡ i + n → drop i b ≡ elements n i b
unfolding elements
elements_are zero i b h = drop_of_length-le b {i = i} (omega arith)
elements_are (suc n) i b h = rw (drop-cons b i 0 (omega arith), elements_are n (suc i) b (omega arith))

-- a turn of the lookup of an index: the row there is of it, or the place is that among the rows after it

pub value_here : (i n : ℕ) → value_place n ≡ seek index_number (drop i stored) i n → i < values_n → (stored_at i).index ≡ n → Some i ≡ value_place n
unfolding stored
value_here i n e h q = turn_at index_number stored no_stored (stored_at i) i n (value_place n) e h refl q

pub value_further : (i n : ℕ) → value_place n ≡ seek index_number (drop i stored) i n → i < values_n → ((stored_at i).index ≡ n → ⊥)
    → value_place n ≡ seek index_number (drop (i + 1) stored) (i + 1) n
unfolding stored
value_further i n e h q = turn_on index_number stored no_stored (stored_at i) i n (value_place n) e h refl q

pub value_none : (i n : ℕ) → value_place n ≡ seek index_number (drop i stored) i n → values_n ≤ i → None ≡ value_place n
unfolding stored
value_none i n e h = sym (e ∙ seek_past index_number stored i n h)

-- an array of eight is its eight elements
pub eight_whole : (d : Eight) → length d ≡ 8 → eight_bytes d ≡ d
unfolding elements
eight_whole d long = sym (elements_are 8 0 d long)

-- what a value that may be held has
pub record KeptParts (place : ℕ) (p : Put) : Type 0 where
  pub long : length p.eight ≡ 8
  pub small : p.minus ≤ 1
  pub right : put_right place (value_word 46 place p.unit p.minus p.eight) ≡ true

pub kept_parts : (place : ℕ) (p : Put) → kept_right place (Some p) ≡ true → KeptParts place p
kept_parts place p e =
    let may = put_right place (value_word 46 place p.unit p.minus p.eight) in
    let (long, rest) = (and-eq-true_iff (eqb (length p.eight) 8) (leb p.minus 1 && may)).0 e in
    let (small, right) = (and-eq-true_iff (leb p.minus 1) may).0 rest in
    record { long = eqb-true (length p.eight) 8 long; small = leb-true p.minus 1 small; right = right }

pub kept_put : (place u m : ℕ) (d : Eight) → length d ≡ 8 → m ≤ 1 → kept_right place (put_of u m d) ≡ put_right place (value_word 46 place u m d)
kept_put place u m d long h = rw (eq-eqb (length d) 8 long, le-leb m 1 h)

-- what a word that is read has at 7 and 16
read_parts : (t : Tells) (long digits listed info sign chars blank counted : Bool) (w : Word)
    → is_right_word (judged_in (unless long Short 0 (rules t digits listed info sign chars blank counted (right_word w)))) ≡ true
    → (sign ≡ true) × (blank ≡ true)
read_parts t false digits listed info sign chars blank counted w e = absurd (false≢true e)
read_parts t true false listed info sign chars blank counted w e = absurd (false≢true e)
read_parts t true true false info sign chars blank counted w e = absurd (false≢true e)
read_parts t true true true false sign chars blank counted w e = absurd (false≢true e)
read_parts t true true true true false chars blank counted w e = absurd (false≢true e)
read_parts t true true true true true false blank counted w e = absurd (false≢true e)
read_parts t true true true true true true false counted w e = absurd (false≢true e)
read_parts t true true true true true true true counted w e = (refl, refl)

sign_byte_lem : (k : Kind) (b : ℕ) → sign_right k b ≡ true → sign_byte (sign_of b) ≡ b
sign_byte_lem k b e = go (eqb b 43) (eqb b 45) (not (is_textual k)) refl refl e
  where
    go : (p q t : Bool) → eqb b 43 ≡ p → eqb b 45 ≡ q → p || (q && t) ≡ true → sign_byte (sign_of b) ≡ b
    go true q t ep eq h = rw ep (sym (eqb-true b 43 ep))
    go false true t ep eq h = rw ep (sym (eqb-true b 45 eq))
    go false false t ep eq h = absurd (false≢true h)

sign_below : (b : ℕ) → sign_of b ≤ 1
sign_below b = go (eqb b 43)
  where
    go : (p : Bool) → cond p 0 1 ≤ 1
    go true = omega arith
    go false = omega arith

-- a word with dots at 3-5 and a unit of the place: what is left is whether it is read
pub put_read : (place : ℕ) (b : List ℕ) → pos 3 b ≡ 46 → pos 4 b ≡ 46 → pos 5 b ≡ 46 → (stored_at place).first ≤ pos 6 b → pos 6 b ≤ (stored_at place).last
    → put_right place b ≡ is_right_word (judged_in (word_of Station false b))
put_read place b p q r low high =
    let unit = bounds_within (stored_at place).first (stored_at place).last (pos 6 b) low high in
    rw (eq-eqb (pos 3 b) 46 p, eq-eqb (pos 4 b) 46 q, eq-eqb (pos 5 b) 46 r, unit)

-- the rules that are left for a value of that row after its unit: text, or digits that count
abbrev pub held_by : Stored → ℕ → ℕ → List ℕ → Bool
held_by r u m l =
    cond (eqb r.first 46) (eqb m 0 && every is_graphic l) (every is_digit l && is_counted (value_at (station_kind r.index) r.index u m (Number (number_of l))))

-- the same by the kind, as a word is read
abbrev kind_right : Kind → ℕ → ℕ → ℕ → List ℕ → Bool
kind_right k i u m l = sign_right k (sign_byte m) && (data_right k l && is_counted (value_at k i u m (figures_in k l)))

-- a word whose index, information and blank are right
rules_read : (t : Tells) (info sign letters value : Bool) (w : Word) → info ≡ true
    → is_right_word (judged_in (rules t true true info sign letters true value (right_word w))) ≡ sign && (letters && value)
rules_read t false sign letters value w e = absurd (false≢true e)
rules_read t true false letters value w e = refl
rules_read t true true false value w e = refl
rules_read t true true true false w e = refl
rules_read t true true true true w e = refl

text_held : (k : Kind) (i u m : ℕ) (l : List ℕ) → is_textual k ≡ true → kind_right k i u m l ≡ eqb m 0 && every is_graphic l
text_held kind.Missing i u m l e = absurd (false≢true e)
text_held kind.Numbered i u m l e = by_test (eqb m 0) (λ q. rw (q, and-true) (one_right is_graphic l)) (λ q. rw q)
text_held kind.Text i u m l e = by_test (eqb m 0) (λ q. rw (q, and-true) (one_right is_graphic l)) (λ q. rw q)
text_held kind.Angle i u m l e = absurd (false≢true e)
text_held kind.Length i u m l e = absurd (false≢true e)
text_held kind.Constant i u m l e = absurd (false≢true e)
text_held kind.Pair i u m l e = absurd (false≢true e)

-- nothing counts at an index that is missing
none_held : (u m n : ℕ) (b : Bool) → b && is_counted (value_at kind.Missing 0 u m (Number n)) ≡ false
none_held u m n b = rw and-false

-- what holds of text, of angles and of lengths, and past the last, holds of every stored value
pub each_stored : (P : Stored → Type 0) → P (units_of 11 "." ".") → P (units_of 16 "." ".")
    → ((i : ℕ) → station_kind i ≡ kind.Angle → P (units_of i "2" "4")) → ((i : ℕ) → station_kind i ≡ kind.Length → P (units_of i "0" "1")) → P no_stored
    → (place : ℕ) → P (stored_at place)
unfolding stored among
each_stored P number text angle length none =
    let last : Each P no_stored (drop 8 stored) = (length 86 refl, (length 87 refl, (length 88 refl, none))) in
    let lengths : Each P no_stored (drop 4 stored) = (length 34 refl, (length 83 refl, (length 84 refl, (length 85 refl, last)))) in
    each_at P no_stored stored (number, (text, (angle 21 refl, (angle 24 refl, lengths))))

module _ (u m : ℕ) (d : Eight) (small : m ≤ 1) where
  abbrev positions : ℕ → Places
  positions i = record {
    tens = tens_of i;
    ones = ones_of i;
    first = 46;
    second = 46;
    mode = 46;
    unit = u;
    sign = sign_byte m;
    letters = eight_bytes d;
    end = 32;
  }

  -- each unit of a row is right after three dots
  abbrev Units : Stored → Type 0
  Units r = Even (λ x. all_right (station_marks (station_kind r.index) 46 46 46 x)) true r.first (suc r.last)

  -- the word of a value with a unit of the row is read where its parts hold
  abbrev Held : Stored → Type 0
  Held r = r.first ≤ u → u ≤ r.last → is_right_word (judged_in (word_of Station false (spread (positions r.index) []))) ≡ held_by r u m (eight_bytes d)

  row_read : (r : Stored) → is_listed (station_kind r.index) ≡ true → Units r → r.first ≤ u → u ≤ r.last
      → is_right_word (judged_in (word_of Station false (spread (positions r.index) []))) ≡ kind_right (station_kind r.index) r.index u m (eight_bytes d)
  row_read r listed units low high =
      let i = r.index in
      let k = station_kind i in
      let p = positions i in
      let l = eight_bytes d in
      let value = value_at k i u m (figures_in k l) in
      let word = record_by Station i p (count_or value) in
      let info : all_right (informed_at Station i p) ≡ true =
      rw (lt-ltb i 100 (index_below i listed)) (sym (along (λ x. all_right (station_marks k 46 46 46 x)) r.first (suc r.last) units low (omega arith))) in
      ap (λ (w : OneWord). is_right_word (judged_in w)) (word_spread false p refl Station [])
      ∙ rw (index_on i (index_below i listed), tens_digit i, ones_digit i, listed, sign_on m small)
      (rules_read (tells_by Station false i p) (all_right (informed_at Station i p)) (sign_right k (sign_byte m)) (data_right k l) (is_counted value) word info)

  by_text : (r : Stored) → is_listed (station_kind r.index) ≡ true → Units r → is_textual (station_kind r.index) ≡ true → eqb r.first 46 ≡ true → Held r
  by_text r listed units text dot low high =
      row_read r listed units low high ∙ text_held (station_kind r.index) r.index u m (eight_bytes d) text ∙ rw dot

  number_held : (k : Kind) (i : ℕ) (l : List ℕ) → is_textual k ≡ false → data_right k l ≡ every is_digit l → figures_in k l ≡ Number (number_of l)
      → kind_right k i u m l ≡ every is_digit l && is_counted (value_at k i u m (Number (number_of l)))
  number_held k i l plain digits says =
      rw (sign_right_lem k m (record { small = small; plus = λ t. absurd (false≢true (sym plain ∙ t)) }), digits, says)

  by_number : (r : Stored) → is_listed (station_kind r.index) ≡ true → Units r → is_textual (station_kind r.index) ≡ false
      → data_right (station_kind r.index) (eight_bytes d) ≡ every is_digit (eight_bytes d)
      → figures_in (station_kind r.index) (eight_bytes d) ≡ Number (number_of (eight_bytes d))
      → eqb r.first 46 ≡ false → Held r
  by_number r listed units plain digits says dot low high =
      row_read r listed units low high ∙ number_held (station_kind r.index) r.index (eight_bytes d) plain digits says ∙ rw dot

  each : (place : ℕ) → Held (stored_at place)
  unfolding among
  each =
      each_stored Held
      (by_text (units_of 11 "." ".") refl refl refl refl)
      (by_text (units_of 16 "." ".") refl refl refl refl)
      (λ i is. by_number (units_of i "2" "4") (rw is) (rw is) (rw is) (rw is (one_right is_digit (eight_bytes d))) (rw is) refl)
      (λ i is. by_number (units_of i "0" "1") (rw is) (rw is) (rw is) (rw is (one_right is_digit (eight_bytes d))) (rw is) refl)
      (λ low high. sym (none_held u m (number_of (eight_bytes d)) (every is_digit (eight_bytes d))))

  pub kept_outside : (place : ℕ) → length d ≡ 8 → within (stored_at place).first (stored_at place).last u ≡ false → kept_right place (put_of u m d) ≡ false
  kept_outside place long out = kept_put place u m d long small ∙ rw out

  -- a unit of the place: what is left is the sign and the characters
  pub kept_held : (place : ℕ) → length d ≡ 8 → (stored_at place).first ≤ u → u ≤ (stored_at place).last
      → kept_right place (put_of u m d) ≡ held_by (stored_at place) u m (eight_bytes d)
  kept_held place long low high =
      kept_put place u m d long small
      ∙ put_read place (value_word 46 place u m d) refl refl refl low high
      ∙ each place low high

-- the same of the parts as they lie in an image

-- every place has a unit from the dot on
first_high : (place : ℕ) → place < values_n → 46 ≤ (stored_at place).first
unfolding stored
first_high place h = leb-true 46 (stored_at place).first (sym (along (λ i. leb 46 (stored_at i).first) 0 values_n refl (omega arith) h))

module _ (u m : ℕ) (l : List ℕ) where
  abbrev Text : Stored → Type 0
  Text r = 46 ≤ r.first → r.first ≤ u → u ≤ r.last → u ≡ 46 → held_by r u m l ≡ eqb m 0 && every is_graphic l

  abbrev Length : Stored → Type 0
  Length r = 46 ≤ r.first → r.first ≤ u → u ≤ r.last → (u ≡ 46 → ⊥) → u < 50 → held_by r u m l ≡ every is_digit l

  abbrev Angle : Stored → Type 0
  Angle r = 46 ≤ r.first → r.first ≤ u → u ≤ r.last → 50 ≤ u → held_by r u m l ≡ every is_digit l && is_counted (angle_at u m (number_of l))

  text_row : (place : ℕ) → Text (stored_at place)
  text_row =
      each_stored Text (λ p low high e. refl) (λ p low high e. refl) (λ i is p low high e. absurd (omega (arith, e)))
      (λ i is p low high e. absurd (omega (arith, e))) (λ p low high e. absurd (omega arith))

  length_row : (place : ℕ) → Length (stored_at place)
  length_row =
      each_stored Length (λ p low high n b. absurd (n (omega arith))) (λ p low high n b. absurd (n (omega arith)))
      (λ i is p low high n b. absurd (omega arith)) (λ i is p low high n b. rw (is, and-true)) (λ p low high n b. absurd (omega arith))

  angle_row : (place : ℕ) → Angle (stored_at place)
  angle_row =
      each_stored Angle (λ p low high a. absurd (omega arith)) (λ p low high a. absurd (omega arith))
      (λ i is p low high a. rw is) (λ i is p low high a. absurd (omega arith)) (λ p low high a. absurd (omega arith))

parts_eight : (l : List ℕ) → length l ≡ parts_n → eight_bytes (eight_of (drop 2 l)) ≡ take 8 (drop 2 l)
unfolding elements
parts_eight l long =
    let rest : eight_bytes (eight_of (drop 2 l)) ≡ elements 8 2 l = simp get_or-drop in
    rest ∙ sym (elements_are 8 2 l long) ∙ sym (take_all 8 (drop 2 l) (omega (arith, length-drop 2 l)))

-- past the last place nothing may be held
pub parts_past : (place : ℕ) (l : List ℕ) → length l ≡ parts_n → values_n ≤ place → parts_right place l ≡ false
unfolding stored among
parts_past place l long past =
    let u = get_or l 0 0 in
    let m = get_or l 1 0 in
    let d = eight_of (drop 2 l) in
    let none : stored_at place ≡ no_stored = get_or-eq_default stored no_stored past in
    rw (eq-eqb (length l) parts_n long)
    (by_test (leb m 1)
    (λ e.
    let small = leb-true m 1 e in
    by_test (within 0 0 u)
    (λ i.
    let b = within_bounds 0 0 u i in
    kept_held u m d small place refl (rw none (omega arith)) (rw none b.1)
    ∙ rw none (none_held u m (number_of (eight_bytes d)) (every is_digit (eight_bytes d))))
    (λ o. kept_outside u m d small place refl (rw none o)))
    (λ e. rw e))

-- parts that lie there, with a place that there is and a sign
module _ (place : ℕ) (l : List ℕ) (long : length l ≡ parts_n) (there : place < values_n) (small : get_or l 1 0 ≤ 1) where
  abbrev unit : ℕ
  unit = get_or l 0 0

  abbrev minus : ℕ
  minus = get_or l 1 0

  abbrev characters : List ℕ
  characters = take 8 (drop 2 l)

  module _ (low : (stored_at place).first ≤ unit) (high : unit ≤ (stored_at place).last) where
    held : parts_right place l ≡ held_by (stored_at place) unit minus characters
    held =
        rw (eq-eqb (length l) parts_n long) (kept_held unit minus (eight_of (drop 2 l)) small place refl low high)
        ∙ ap (held_by (stored_at place) unit minus) (parts_eight l long)

    pub parts_text : unit ≡ 46 → parts_right place l ≡ eqb minus 0 && every is_graphic characters
    parts_text e = held ∙ text_row unit minus characters place (first_high place there) low high e

    pub parts_length : (unit ≡ 46 → ⊥) → unit < 50 → parts_right place l ≡ every is_digit characters
    parts_length n b = held ∙ length_row unit minus characters place (first_high place there) low high n b

    pub parts_angle : 50 ≤ unit → parts_right place l ≡ every is_digit characters && is_counted (angle_at unit minus (number_of characters))
    parts_angle a = held ∙ angle_row unit minus characters place (first_high place there) low high a

-- "26 and 40 follow" (request 102): a number may be put and kept with a minus wherever it may with a plus

pub put_minus : (place a b c d e u : ℕ) (rest : List ℕ) → is_textual (kind_at Station (a ∷ b ∷ c ∷ [])) ≡ false
    → put_right place (a ∷ b ∷ c ∷ d ∷ e ∷ u ∷ 45 ∷ rest) ≡ put_right place (a ∷ b ∷ c ∷ d ∷ e ∷ u ∷ 43 ∷ rest)
put_minus place a b c d e u rest number =
    let m = put_marks place (a ∷ b ∷ c ∷ d ∷ e ∷ u ∷ []) in
    ap (λ (t : Judged). is_right_word (cond (all_right m) t (judged_wrong Information (2 + first_wrong m))))
    (minus_as_plus Station false a b c d e u rest number)

pub kept_minus : (place u : ℕ) (d : Eight) → is_listed (station_kind (stored_at place).index) ≡ true → is_textual (station_kind (stored_at place).index) ≡ false
    → kept_right place (put_of u 1 d) ≡ kept_right place (put_of u 0 d)
kept_minus place u d listed number =
    let i = (stored_at place).index in
    ap (λ (t : Bool). eqb (length d) 8 && t)
    (put_minus place (tens_of i) (ones_of i) 46 46 46 u (eight_bytes d ++ codes " ") (rw (index_on i (index_below i listed), listed) number))

-- a word that may be put there
pub record PutRight (place : ℕ) (b : List ℕ) : Type 0 where
  pub dot3 : pos 3 b ≡ 46
  pub dot4 : pos 4 b ≡ 46
  pub dot5 : pos 5 b ≡ 46
  pub unit : within (stored_at place).first (stored_at place).last (pos 6 b) ≡ true
  pub read : is_right_word (judged_in (word_of Station false b)) ≡ true

pub put_parts : (place : ℕ) (b : List ℕ) → put_right place b ≡ true → PutRight place b
put_parts place b e =
    let p = is_dot (pos 3 b) in
    let q = is_dot (pos 4 b) in
    let r = is_dot (pos 5 b) in
    let u = within (stored_at place).first (stored_at place).last (pos 6 b) in
    let (all, read) = both_right (all_right (put_marks place b)) (judged_in (word_of Station false b)) _ _ e in
    let first = (and-eq-true_iff p (q && (r && u))).0 all in
    let second = (and-eq-true_iff q (r && u)).0 first.1 in
    let third = (and-eq-true_iff r u).0 second.1 in
    record {
      dot3 = eqb-true (pos 3 b) 46 first.0;
      dot4 = eqb-true (pos 4 b) 46 second.0;
      dot5 = eqb-true (pos 5 b) 46 third.0;
      unit = third.1;
      read = read;
    }
  where
    both_right : (t : Bool) (j : Judged) (x : Fault) (at : ℕ) → is_right_word (cond t j (judged_wrong x at)) ≡ true
        → (t ≡ true) × (is_right_word j ≡ true)
    both_right true j x at h = (refl, h)
    both_right false j x at h = absurd (false≢true h)

module _ (place : ℕ) (b : List ℕ) (long : length b ≡ 16) (named : (stored_at place).index ≡ index_of (pos 1 b) (pos 2 b))
    (first : is_digit (pos 1 b) ≡ true) (second : is_digit (pos 2 b) ≡ true) (right : put_right place b ≡ true) where
  -- the word of what is stored is the one that was put
  pub word_back : value_word 46 place (pos 6 b) (sign_of (pos 7 b)) (eight_of (drop 7 b)) ≡ b
  unfolding elements
  word_back =
      let p = put_parts place b right in
      let d1 = within_bounds 48 57 (pos 1 b) first in
      let d2 = within_bounds 48 57 (pos 2 b) second in
      let i = index_of (pos 1 b) (pos 2 b) in
      let tens : 48 + i / 10 % 10 ≡ pos 1 b = omega arith in
      let ones : 48 + i % 10 ≡ pos 2 b = omega arith in
      let k = kind_at Station b in
      let ends =
      read_parts (tells_by Station false (index_in Station b) (places_in false b)) (leb (word_size false) (length b)) (are_digits (pos 1 b) (pos 2 b))
      (listed_by Station (pos 1 b) (pos 2 b) (pos 3 b))
      (all_right (marks_in Station b))
      (sign_right k (pos 7 b))
      (data_right k (data_in false b))
      (eqb (get_or b 15 0) 32)
      (is_counted (value_in Station false b))
      (record_in Station false b)
      p.read
      in
      let sign = sign_byte_lem k (pos 7 b) ends.0 in
      let blank = eqb-true (get_or b 15 0) 32 ends.1 in
      let is : value_word 46 place (pos 6 b) (sign_of (pos 7 b)) (eight_of (drop 7 b)) ≡ elements 16 0 b =
      simp (named, tens, ones, p.dot3, p.dot4, p.dot5, sign, blank, get_or-drop)
      in
      is ∙ sym (elements_are 16 0 b long)

  pub put_kept_right : kept_right place (put_kept b) ≡ true
  put_kept_right =
      kept_put place (pos 6 b) (sign_of (pos 7 b)) (eight_of (drop 7 b)) refl (sign_below (pos 7 b)) ∙ ap (put_right place) word_back ∙ right
