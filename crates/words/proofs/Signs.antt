-- What a sign does (request 102): a number is taken with a minus wherever it is with a plus, before zero too, and "10 now means angle out of range alone";
-- "Records with different signs are different"; and what the writer still refuses by 13 because of a sign.
use Prim.Native.Nat.{ℕ, suc, ◌+◌, ◌-◌}
use mathlib.Core.Path.{◌≡◌, refl, sym, ap, ◌∙◌}
use mathlib.Core.Bool.{Bool, true, false, cond, ◌&&◌, false≢true}
use mathlib.Core.List.{List, [], ◌∷◌, ◌++◌}
use native.Mathlib.Omega.{arith}
use lib.Dec.{eqb, leb, ltb}
use lib.ListN.{length, get_or, length-append}
use Rattle.figures.specs.Bytes.{every, run_of}
use Rattle.figures.specs.Decimal.{is_digit, number_of, are_digits}
use Rattle.figures.proofs.Tests.{clash}
use Rattle.units.specs.Kinds.{kind_of, index_by, first_other, listed_by, is_textual}
use Rattle.units.specs.Information.{info_marks, all_right, first_wrong, info_right, lead_of, is_sign, sign_of, sign_right}
use Rattle.units.specs.Counts.{whole, zero_whole, degrees, minutes, seconds, tenths_of, counted, angle_at, value_at, first_of, second_of, gon_limit, degree_limit, mil_limit}
use Rattle.words.specs.Records.{width, kind_in, unit_in, count_by, count_right, same_whole, text_right, is_right, typed_of}
use Rattle.words.specs.Reading.{judged_in, judged_wrong, word_in, fault_number, word_size, pos, data_in, under_in, index_in, kind_at, marks_in, data_right, data_at, figures_in}
use Rattle.words.specs.Reading.{value_in, is_counted, count_or, record_in, right_word, unless, word_of}
use Rattle.words.specs.Writing.{bytes_of}
use Rattle.units.specs.declared.kinds.Family.{Family}
use Rattle.units.specs.declared.kinds.Family.TheVariants.{Level}
use Rattle.units.specs.declared.kinds.Kind.{Kind}
use Rattle.units.specs.declared.kinds.Kind.TheVariants.{Missing, Numbered, Text, Angle, Length, Constant, Pair}
use Rattle.units.specs.declared.counts.Whole.{Whole}
use Rattle.units.specs.declared.counts.Count.{Count}
use Rattle.units.specs.declared.counts.Count.TheVariants.{Gon, Degree, Tenth, Mil}
use Rattle.units.specs.declared.counts.Figures.{Figures}
use Rattle.units.specs.declared.counts.Figures.TheVariants as figures
use Rattle.words.specs.declared.records.Word.{Word}
use Rattle.words.specs.declared.reading.Fault.{Fault}
use Rattle.words.specs.declared.reading.Fault.TheVariants.{Short, Index, Unlisted, Information, Sign, Characters, Separator, Value}
use Rattle.words.proofs.Values.{by_unit, by_length, by_constant}
use Rattle.words.proofs.Checks.{width_bounds}
use Rattle.words.proofs.Letters.{halves_at, halves_right}
use Rattle.words.proofs.Told.{told_at, past}
use Rattle.words.proofs.Places.{Places, spread, Tells, rules, value_by, record_by, word_spread}
use Rattle.words.proofs.RoundTrip.{takes, read_counts, write_read}
use Rattle.words.proofs.Given.{gives}
use Rattle.words.proofs.Typed.{right_typed}
use Rattle.words.proofs.Apart.{unless_right}

-- a minus and a plus

-- whether a number counts goes by its size alone
pub sign_free : (k : Kind) (i u m : ℕ) (f : Figures) → is_counted (value_at k i u m f) ≡ is_counted (value_at k i u 0 f)
sign_free k i u m figures.Text = refl
sign_free Missing i u m (figures.Number n) = refl
sign_free Numbered i u m (figures.Number n) = refl
sign_free Text i u m (figures.Number n) = refl
sign_free Angle i u m (figures.Number n) =
    by_unit (λ at of. is_counted (at m n) ≡ is_counted (at 0 n))
    (same (ltb n gon_limit) (λ w. Gon (record { 0 = w })) n)
    (same (ltb n degree_limit) (λ w. Degree (record { 0 = w })) n)
    (same (ltb (degrees n) 360 && (ltb (minutes n) 60 && ltb (seconds n) 60)) (λ w. Tenth (record { 0 = w })) (tenths_of n))
    (same (ltb n mil_limit) (λ w. Mil (record { 0 = w })) n)
    u
  where
    same : (t : Bool) (of : Whole → Count) (v : ℕ) → is_counted (counted t (of (whole m v))) ≡ is_counted (counted t (of (whole 0 v)))
    same true of v = refl
    same false of v = refl
sign_free Length i u m (figures.Number n) = refl
sign_free Constant i u m (figures.Number n) = refl
sign_free Pair i u m (figures.Number n) = refl
sign_free k i u m (figures.Pair p s q) = refl

-- two words whose rules hold alike have the same answer
alike : (t : Tells) (long digits listed info sign letters end value : Bool) (v w : Word)
    → judged_in (unless long Short 0 (rules t digits listed info sign letters end value (right_word v)))
    ≡ judged_in (unless long Short 0 (rules t digits listed info sign letters end value (right_word w)))
alike t false digits listed info sign letters end value v w = refl
alike t true false listed info sign letters end value v w = refl
alike t true true false info sign letters end value v w = refl
alike t true true true false sign letters end value v w = refl
alike t true true true true false letters end value v w = refl
alike t true true true true true false end value v w = refl
alike t true true true true true true false value v w = refl
alike t true true true true true true true false v w = refl
alike t true true true true true true true true v w = refl

-- the same bytes but for the sign at position 7
pub minus_as_plus : (f : Family) (wide : Bool) (a b c d e u : ℕ) (rest : List ℕ) → is_textual (kind_at f (a ∷ b ∷ c ∷ [])) ≡ false
    → judged_in (word_of f wide (a ∷ b ∷ c ∷ d ∷ e ∷ u ∷ 45 ∷ rest)) ≡ judged_in (word_of f wide (a ∷ b ∷ c ∷ d ∷ e ∷ u ∷ 43 ∷ rest))
minus_as_plus f wide a b c d e u rest number =
    let signed : ℕ → List ℕ = λ sign. a ∷ b ∷ c ∷ d ∷ e ∷ u ∷ sign ∷ rest in
    let s = signed 43 in
    let k = kind_at f s in
    let sign : sign_right k 45 ≡ true = rw number in
    let value : is_counted (value_in f wide (signed 45)) ≡ is_counted (value_in f wide s) = sign_free k (index_in f s) u 1 (figures_in k (data_in wide s)) in
    let long = leb (word_size wide) (length s) in
    let digits = are_digits a b in
    let listed = listed_by f a b c in
    let info = all_right (marks_in f s) in
    let told : Tells = record {
      other = first_other a;
      info = 2 + first_wrong (marks_in f s);
      letters = 7 + data_at k (data_in wide s);
      end = 7 + width wide;
    } in
    let letters = data_right k (data_in wide s) in
    let end = eqb (get_or s (7 + width wide) 0) 32 in
    let counts = is_counted (value_in f wide s) in
    let minus = record_in f wide (signed 45) in
    let is : judged_in (word_of f wide (signed 45)) ≡ judged_in (unless long Short 0 (rules told digits listed info true letters end counts (right_word minus))) =
    rw (sign, by_width wide, value) in
    is ∙ alike told long digits listed info true letters end counts minus (record_in f wide s)
  where
    by_width : (w : Bool) → get_or (a ∷ b ∷ c ∷ d ∷ e ∷ u ∷ 45 ∷ rest) (7 + width w) 0 ≡ get_or (a ∷ b ∷ c ∷ d ∷ e ∷ u ∷ 43 ∷ rest) (7 + width w) 0
    by_width true = refl
    by_width false = refl

-- the same bytes but for the sign between a pair's halves
pub under_as_plus : (f : Family) (wide : Bool) (a b c d e u sign end : ℕ) (ppm mm rest : List ℕ) → kind_at f (a ∷ b ∷ c ∷ []) ≡ Pair
    → length ppm ≡ width wide - 4 → length mm ≡ 3
    → judged_in (word_of f wide (a ∷ b ∷ c ∷ d ∷ e ∷ u ∷ sign ∷ ((ppm ++ (45 ∷ mm)) ++ (end ∷ rest))))
    ≡ judged_in (word_of f wide (a ∷ b ∷ c ∷ d ∷ e ∷ u ∷ sign ∷ ((ppm ++ (43 ∷ mm)) ++ (end ∷ rest))))
under_as_plus f wide a b c d e u sign end ppm mm rest is front back =
    let i = index_by f a b c in
    let places : ℕ → Places =
    λ x. record { tens = a; ones = b; first = c; second = d; mode = e; unit = u; sign = sign; letters = ppm ++ (x ∷ mm); end = end } in
    let digits = are_digits a b in
    let listed = listed_by f a b c in
    let marks = info_marks f i (kind_of f i) (lead_of i c) d e u in
    let right = every is_digit ppm && every is_digit mm in
    let wrong = cond (every is_digit ppm) (length ppm + suc (run_of is_digit mm)) (run_of is_digit ppm) in
    let told : Tells = record { other = first_other a; info = 2 + first_wrong marks; letters = 7 + wrong; end = 7 + width wide } in
    let of : ℕ → Word = λ x. record_by f i (places x) (count_or (value_by f i (places x))) in
    let answers : (x : ℕ) → is_sign x ≡ true
    → judged_in (word_of f wide (spread (places x) rest))
    ≡ judged_in (unless true Short 0 (rules told digits listed (all_right marks) (sign_right (kind_of f i) sign) right (eqb end 32) true (right_word (of x)))) =
    λ x s.
    let long = length-append ppm (x ∷ mm) in
    let bounds = width_bounds wide in
    let letters : data_right (kind_of f i) (ppm ++ (x ∷ mm)) ≡ right = rw is (halves_right ppm x mm back ∙ rw s) in
    let first : data_at (kind_of f i) (ppm ++ (x ∷ mm)) ≡ wrong = rw is (halves_at ppm x mm back ∙ rw s) in
    let value : is_counted (value_by f i (places x)) ≡ true = rw is in
    ap judged_in (word_spread wide (places x) (omega arith) f rest) ∙ rw (letters, value, first) in
    answers 45 refl
    ∙ alike told true digits listed (all_right marks) (sign_right (kind_of f i) sign) right (eqb end 32) true (of 45) (of 43)
    ∙ sym (answers 43 refl)

-- 10

module _ (x : Fault) (at : ℕ) where
  last : (b : Bool) (w : Word) → judged_in (unless b Value 7 (right_word w)) ≡ judged_wrong x at → (b ≡ false) × (at ≡ 7)
  last true w e = absurd (clash (cc))
  last false w e = (refl, sym (ap told_at e))

angle_alone : (k : Kind) (i u m : ℕ) (d : List ℕ) → data_right k d ≡ true → is_counted (value_at k i u m (figures_in k d)) ≡ false
    → (k ≡ Angle) × (is_counted (angle_at u m (number_of d)) ≡ false)
angle_alone Missing i u m d right e = absurd (false≢true (sym e))
angle_alone Numbered i u m d right e = absurd (false≢true (sym e))
angle_alone Text i u m d right e = absurd (false≢true (sym e))
angle_alone Angle i u m d right e = (refl, e)
angle_alone Length i u m d right e = absurd (false≢true (sym e))
angle_alone Constant i u m d right e = absurd (false≢true (sym e))
angle_alone Pair i u m d right e = absurd (false≢true (sym e))

refused_ten : (f : Family) (wide : Bool) (s : List ℕ) (x : Fault) (at : ℕ) → judged_in (word_of f wide s) ≡ judged_wrong x at → fault_number x ≡ 10
    → (all_right (marks_in f s) ≡ true) × (kind_at f s ≡ Angle)
    × (is_counted (angle_at (pos 6 s) (sign_of (pos 7 s)) (number_of (data_in wide s))) ≡ false) × (at ≡ 7)
refused_ten f wide s x at e ten =
    let by = past x at in
    let digits = (by (leb (word_size wide) (length s)) Short _ _ (λ q. omega arith) e).1 in
    let index = (by (are_digits (pos 1 s) (pos 2 s)) Index _ _ (λ q. omega arith) digits).1 in
    let info = (by (listed_by f (pos 1 s) (pos 2 s) (pos 3 s)) Unlisted _ _ (λ q. omega arith) index).1 in
    let (informed, sign) = by (all_right (marks_in f s)) Information _ _ (λ q. omega arith) info in
    let letters = (by (sign_right (kind_at f s) (pos 7 s)) Sign _ _ (λ q. omega arith) sign).1 in
    let (right, end) = by (data_right (kind_at f s) (data_in wide s)) Characters _ _ (λ q. omega arith) letters in
    let value = (by (eqb (get_or s (7 + width wide) 0) 32) Separator _ _ (λ q. omega arith) end).1 in
    let (out, told) = last x at (is_counted (value_in f wide s)) _ value in
    let (angle, far) = angle_alone (kind_at f s) (index_in f s) (pos 6 s) (sign_of (pos 7 s)) (data_in wide s) right out in
    (informed, angle, far, told)

-- "10 now means angle out of range alone"; "for 10 the first data byte" (request 104)
pub ten_angle : (f : Family) (wide : Bool) (s : List ℕ) (x : Fault) (at : ℕ) → judged_in (word_of f wide s) ≡ judged_wrong x at → fault_number x ≡ 10
    → (kind_at f s ≡ Angle) × (is_counted (angle_at (pos 6 s) 0 (number_of (data_in wide s))) ≡ false) × (at ≡ 7)
ten_angle f wide s x at is ten =
    let (informed, angle, out, told) = refused_ten f wide s x at is ten in
    (angle, sym (sign_free Angle 0 (pos 6 s) (sign_of (pos 7 s)) (figures.Number (number_of (data_in wide s)))) ∙ out, told)

-- a level has no angle, and so no 10
pub level_ten : (wide : Bool) (s : List ℕ) (x : Fault) (at : ℕ) → judged_in (word_of Level wide s) ≡ judged_wrong x at → fault_number x ≡ 10 → ⊥
level_ten wide s x at is ten =
    let (informed, angle, out, told) = refused_ten Level wide s x at is ten in
    false≢true (rw angle at informed)

-- records

-- records of the same bytes are the same
pub one_record : (f : Family) (wide : Bool) (v w : Word) → is_right f wide v ≡ true → is_right f wide w ≡ true → bytes_of f wide v ≡ bytes_of f wide w → v ≡ w
one_record f wide v w ev ew e =
    ap word_in (sym (write_read f wide v [] ev) ∙ ap (λ b. word_of f wide (b ++ [])) e ∙ write_read f wide w [] ew)

-- the value's sign, and the one of a pair's mm
abbrev pub signs : Word → ℕ × ℕ
signs w = (w.minus, w.mmminus)

-- "Records with different signs are different": so are their bytes
pub signs_apart : (f : Family) (wide : Bool) (v w : Word) → is_right f wide v ≡ true → is_right f wide w ≡ true → (signs v ≡ signs w → ⊥)
    → bytes_of f wide v ≡ bytes_of f wide w → ⊥
signs_apart f wide v w ev ew apart e = apart (ap signs (one_record f wide v w ev ew e))

-- "keep the sign": the signs that a word says are its record's, and a record's are its typed count's

pub under_read : (f : Family) (wide : Bool) (s : List ℕ) (w : Word) → word_of f wide s ≡ right_word w → kind_at f s ≡ Pair
    → w.mmminus ≡ sign_of (under_in (data_in wide s))
under_read f wide s w e is =
    let t = takes f wide w (gives f wide w s e) in
    let same : second_of (count_or (value_in f wide s)) ≡ whole w.mmminus w.mm = ap (λ v. second_of (count_or v)) (read_counts f wide s w e) ∙ t.second in
    sym (ap (λ (x : Whole). x.minus) (rw is at same))

pub typed_signs : (f : Family) (wide : Bool) (w : Word) → is_right f wide w ≡ true
    → (first_of (typed_of f w) ≡ whole w.minus w.size) × (second_of (typed_of f w) ≡ whole w.mmminus w.mm)
typed_signs f wide w e = let t = takes f wide w e in rw (right_typed f wide w e) (t.first, t.second)

-- the record with another sign, of its value or of its mm
abbrev pub with_sign : ℕ → Word → Word
with_sign m w = record { index = w.index; info = w.info; minus = m; mmminus = w.mmminus; size = w.size; mm = w.mm; text = w.text }

abbrev pub with_under : ℕ → Word → Word
with_under m w = record { index = w.index; info = w.info; minus = w.minus; mmminus = m; size = w.size; mm = w.mm; text = w.text }

-- `is_right` by a kind
abbrev right_by : Family → Bool → Kind → Word → Bool
right_by f wide k w =
    (eqb (length w.info) 4 && eqb (length w.text) 16)
    && (info_right f w.index k (get_or w.info 0 0) (get_or w.info 1 0) (get_or w.info 2 0) (unit_in w)
    && (count_right wide (count_by k w)
    && (same_whole (first_of (count_by k w)) w.minus w.size
    && (same_whole (second_of (count_by k w)) w.mmminus w.mm
    && text_right wide k w.text))))

-- a count with a minus and the one with a plus, for a record of that size
abbrev Same : Bool → ℕ → Count → Count → Type 0
Same wide n c d = (count_right wide c ≡ count_right wide d) × (same_whole (first_of c) 1 n ≡ same_whole (first_of d) 0 n) × (second_of c ≡ second_of d)

abbrev Both : Bool → ℕ → (Whole → Count) → Type 0
Both wide n of = Same wide n (of (whole 1 n)) (of (whole 0 n))

same_tests : (a b t : Bool) (m n : ℕ) (x y : Whole) (p q r s : Bool) → p ≡ q → r ≡ s → x ≡ y
    → a && (b && (p && (r && (same_whole x m n && t)))) ≡ a && (b && (q && (s && (same_whole y m n && t))))
same_tests a b t m n x y p q r s e g h = rw (e, g, h)

-- a minus before a number is a record wherever a plus is, whatever the size
pub minus_right : (f : Family) (wide : Bool) (w : Word) → is_textual (kind_in f w) ≡ false → is_right f wide (with_sign 1 w) ≡ is_right f wide (with_sign 0 w)
minus_right f wide w number = go (kind_in f w) number
  where
    by_same : (k : Kind) → Same wide w.size (count_by k (with_sign 1 w)) (count_by k (with_sign 0 w))
        → right_by f wide k (with_sign 1 w) ≡ right_by f wide k (with_sign 0 w)
    by_same k s =
        let long = eqb (length w.info) 4 && eqb (length w.text) 16 in
        let info = info_right f w.index k (get_or w.info 0 0) (get_or w.info 1 0) (get_or w.info 2 0) (unit_in w) in
        let c = count_by k (with_sign 1 w) in
        let d = count_by k (with_sign 0 w) in
        same_tests long info (text_right wide k w.text) w.mmminus w.mm (second_of c) (second_of d) (count_right wide c) (count_right wide d)
        (same_whole (first_of c) 1 w.size) (same_whole (first_of d) 0 w.size) s.0 s.1 s.2

    go : (k : Kind) → is_textual k ≡ false → right_by f wide k (with_sign 1 w) ≡ right_by f wide k (with_sign 0 w)
    go Missing e = refl
    go Numbered e = absurd (false≢true (sym e))
    go Text e = absurd (false≢true (sym e))
    go Angle e =
        by_same Angle (by_unit (λ at. Both wide w.size) (refl, refl, refl) (refl, refl, refl) (refl, refl, refl) (refl, refl, refl) (unit_in w))
    go Length e =
        by_same Length (by_length (Both wide w.size) (λ d. (refl, refl, refl)) (λ d. (refl, refl, refl)) (refl, refl, refl) (unit_in w))
    go Constant e = by_same Constant (by_constant (Both wide w.size) (refl, refl, refl) (refl, refl, refl) w.index)
    go Pair e = by_same Pair (refl, refl, refl)

pub under_right : (f : Family) (wide : Bool) (w : Word) → kind_in f w ≡ Pair → is_right f wide (with_under 1 w) ≡ is_right f wide (with_under 0 w)
under_right f wide w is = ap (λ k. right_by f wide k (with_under 1 w)) is ∙ sym (ap (λ k. right_by f wide k (with_under 0 w)) is)

-- a minus on text is no record
pub text_plus : (f : Family) (wide : Bool) (w : Word) → is_textual (kind_in f w) ≡ true → (w.minus ≡ 0 → ⊥) → is_right f wide w ≡ false
text_plus f wide w text other =
    unless_right f wide w (λ e. other (sym (ap (λ (x : Whole). x.minus) (takes f wide w e).first) ∙ ap (λ (x : Whole). x.minus) (go (kind_in f w) text)))
  where
    go : (k : Kind) → is_textual k ≡ true → first_of (count_by k w) ≡ zero_whole
    go Missing e = refl
    go Numbered e = refl
    go Text e = refl
    go Angle e = absurd (false≢true e)
    go Length e = absurd (false≢true e)
    go Constant e = absurd (false≢true e)
    go Pair e = absurd (false≢true e)

-- nor is one on a half that the word doesn't use
pub half_plus : (f : Family) (wide : Bool) (w : Word) → (kind_in f w ≡ Pair → ⊥) → (w.mmminus ≡ 0 → ⊥) → is_right f wide w ≡ false
half_plus f wide w whole-number minus =
    unless_right f wide w
    (λ e. minus (sym (ap (λ (x : Whole). x.minus) (takes f wide w e).second) ∙ ap (λ (x : Whole). x.minus) (go (kind_in f w) whole-number)))
  where
    go : (k : Kind) → (k ≡ Pair → ⊥) → second_of (count_by k w) ≡ zero_whole
    go Missing other = refl
    go Numbered other = refl
    go Text other = refl
    go Angle other = by_unit (λ at of. second_of (of (whole w.minus w.size)) ≡ zero_whole) refl refl refl refl (unit_in w)
    go Length other = by_length (λ of. second_of (of (whole w.minus w.size)) ≡ zero_whole) (λ d. refl) (λ d. refl) refl (unit_in w)
    go Constant other = by_constant (λ of. second_of (of (whole w.minus w.size)) ≡ zero_whole) refl refl w.index
    go Pair other = absurd (other refl)
