-- Words and records, both ways: what is read writes back to the same bytes, and what is written reads back to the same record.
use Prim.Native.Nat.{ℕ}
use mathlib.Core.Path.{◌≡◌, refl, sym, ap, ◌∙◌}
use mathlib.Core.Bool.{Bool, true, false, ◌&&◌, false≢true}
use mathlib.Core.List.{List, [], ◌∷◌, ◌++◌}
use native.Mathlib.Omega.{arith}
use borrow.Author.Tests.{leb-true, eqb-true, eq-eqb}
use lib.Dec.{eqb, leb}
use Rattle.std.specs.Prelude.{Option, Some, None}
use lib.ListN.{length, get_or, take, drop, drop_of_length-le}
use lib.Seq.{drop-cons}
use Rattle.figures.specs.Decimal.{is_digit, are_digits}
use Rattle.units.specs.Kinds.{kind_of, listed_by}
use Rattle.units.specs.Information.{all_right, info_right, lead_of, head_of, sign_byte, sign_of, sign_right}
use Rattle.units.specs.Counts.{whole, first_of, second_of, figures_of}
use Rattle.words.specs.Records.{width, kind_in, unit_in, count_of, count_right, text_right, same_whole, is_right}
use Rattle.words.specs.Reading.{word_size, pos, data_right, value_in, is_counted, count_or, right_word, unless, word_of}
use Rattle.words.specs.Writing.{data_of, bytes_of}
use Rattle.units.specs.declared.kinds.Family.{Family}
use Rattle.units.specs.declared.counts.Whole.{Whole}
use Rattle.units.specs.declared.counts.Count.{Count}
use Rattle.words.specs.declared.records.Word.{Word}
use Rattle.words.specs.declared.reading.Fault.{Fault}
use Rattle.words.specs.declared.reading.Fault.TheVariants.{Short, Index, Unlisted, Information, Sign, Characters, Separator, Value}
use Rattle.words.specs.Reading.{OneWord, word_in}
use Rattle.words.proofs.Checks.{width_bounds, data_length}
use Rattle.figures.proofs.Tests.{clash, both}
use Rattle.units.proofs.Heads.{head_back, two_of, third_of, head_is, head_digits, head_says}
use Rattle.units.proofs.Positions.{tens_of, ones_of}
use Rattle.units.proofs.Positions.{sign_back, sign_of_lem, sign_on, sign_right_lem}
use Rattle.words.proofs.Characters.{fit_read, data_back, text_read, spelt}
use Rattle.words.proofs.Values.{value_told, value_on}
use Rattle.words.proofs.Places.{Places, index_from, spread, places_in, Tells, rules, value_by, informed_at, record_by, word_at, word_by}
use Rattle.words.proofs.Places.{spread_places, word_spread, spread_on, size_spread, take_spread}

-- a record that the writer takes, rule by rule
pub record Taken (f : Family) (wide : Bool) (w : Word) (c : Count) : Type 0 where
  pub four : length w.info ≡ 4
  pub sixteen : length w.text ≡ 16
  pub info : info_right f w.index (kind_in f w) (get_or w.info 0 0) (get_or w.info 1 0) (get_or w.info 2 0) (unit_in w) ≡ true
  pub count : count_right wide c ≡ true
  pub first : first_of c ≡ whole w.minus w.size
  pub second : second_of c ≡ whole w.mmminus w.mm
  pub text : text_right wide (kind_in f w) w.text ≡ true

same_whole_lem : (x : Whole) (m n : ℕ) → same_whole x m n ≡ true → x ≡ whole m n
same_whole_lem x m n e =
    let parts = both (eqb x.minus m) (eqb x.size n) e in
    let p = eqb-true x.minus m parts.0 in
    let q = eqb-true x.size n parts.1 in
    λ i. record { minus = p i; size = q i }

whole_same : (x : Whole) (m n : ℕ) → x ≡ whole m n → same_whole x m n ≡ true
whole_same x m n e = rw (e, eq-eqb m m refl, eq-eqb n n refl)

pub takes : (f : Family) (wide : Bool) (w : Word) → is_right f wide w ≡ true → Taken f wide w (count_of f w)
takes f wide w e =
    let c = count_of f w in
    let h = both (eqb (length w.info) 4 && eqb (length w.text) 16) _ e in
    let sizes = both (eqb (length w.info) 4) (eqb (length w.text) 16) h.0 in
    let i = both (info_right f w.index (kind_in f w) (get_or w.info 0 0) (get_or w.info 1 0) (get_or w.info 2 0) (unit_in w)) _ h.1 in
    let n = both (count_right wide c) _ i.1 in
    let m = both (same_whole (first_of c) w.minus w.size) _ n.1 in
    let s = both (same_whole (second_of c) w.mmminus w.mm) (text_right wide (kind_in f w) w.text) m.1 in
    record {
      four = eqb-true (length w.info) 4 sizes.0;
      sixteen = eqb-true (length w.text) 16 sizes.1;
      info = i.0;
      count = n.0;
      first = same_whole_lem (first_of c) w.minus w.size m.0;
      second = same_whole_lem (second_of c) w.mmminus w.mm s.0;
      text = s.1;
    }

right_taken : (f : Family) (wide : Bool) (w : Word) (c : Count) → count_of f w ≡ c → Taken f wide w c → is_right f wide w ≡ true
right_taken f wide w c e t =
    rw (
      e,
      eq-eqb (length w.info) 4 t.four,
      eq-eqb (length w.text) 16 t.sixteen,
      t.info,
      t.count,
      whole_same (first_of c) w.minus w.size t.first,
      whole_same (second_of c) w.mmminus w.mm t.second,
    ) t.text

-- places that are a word of that index and count, rule by rule
record Judges (f : Family) (i : ℕ) (p : Places) (c : Count) : Type 0 where
  digits : are_digits p.tens p.ones ≡ true
  listed : listed_by f p.tens p.ones p.first ≡ true
  info : all_right (informed_at f i p) ≡ true
  sign : sign_right (kind_of f i) p.sign ≡ true
  letters : data_right (kind_of f i) p.letters ≡ true
  end : p.end ≡ 32
  value : value_by f i p ≡ Some c

keep_rules : (t : Tells) (digits listed info sign letters end value : Bool) (r : OneWord) → digits ≡ true → listed ≡ true → info ≡ true → sign ≡ true
    → letters ≡ true → end ≡ true → value ≡ true
    → rules t digits listed info sign letters end value r ≡ r
keep_rules t digits listed info sign letters end value r a b c d e f g = rw (a, b, c, d, e, f, g)

word_judged : (f : Family) (wide : Bool) (i : ℕ) (p : Places) (c : Count) → Judges f i p c → word_at f wide i p ≡ right_word (record_by f i p c)
word_judged f wide i p c j =
    keep_rules _ _ _ _ _ _ _ _ _ j.digits j.listed j.info j.sign j.letters (eq-eqb p.end 32 j.end) (ap is_counted j.value)
    ∙ ap (λ v. right_word (record_by f i p (count_or v))) j.value

through : (b : Bool) (x : Fault) (at : ℕ) (r : OneWord) (w : Word) → unless b x at r ≡ right_word w → (b ≡ true) × (r ≡ right_word w)
through true x at r w e = (refl, e)
through false x at r w e =
    absurd (clash (cc))

counted_is : (v : Option Count) → is_counted v ≡ true → v ≡ Some (count_or v)
counted_is None e = absurd (false≢true e)
counted_is (Some c) e = refl

judged : (f : Family) (wide : Bool) (i : ℕ) (p : Places) (w : Word) → word_at f wide i p ≡ right_word w
    → Judges f i p (count_or (value_by f i p)) × (record_by f i p (count_or (value_by f i p)) ≡ w)
judged f wide i p w e =
    let digits = through (are_digits p.tens p.ones) Index _ _ w e in
    let listed = through (listed_by f p.tens p.ones p.first) Unlisted _ _ w digits.1 in
    let info = through (all_right (informed_at f i p)) Information _ _ w listed.1 in
    let sign = through (sign_right (kind_of f i) p.sign) Sign _ _ w info.1 in
    let letters = through (data_right (kind_of f i) p.letters) Characters _ _ w sign.1 in
    let end = through (eqb p.end 32) Separator _ _ w letters.1 in
    let value = through (is_counted (value_by f i p)) Value _ _ w end.1 in (
      record {
        digits = digits.0;
        listed = listed.0;
        info = info.0;
        sign = sign.0;
        letters = letters.0;
        end = eqb-true p.end 32 end.0;
        value = counted_is (value_by f i p) value.0;
      },
      ap word_in value.1,
    )

-- the bytes of a record, place by place
bytes_spread : (f : Family) (wide : Bool) (w : Word) (p : Places)
    → head_of w.index w.info ≡ p.tens ∷ p.ones ∷ p.first ∷ p.second ∷ p.mode ∷ p.unit ∷ []
    → sign_byte w.minus ≡ p.sign → data_of (width wide) (figures_of (count_of f w)) w.text ≡ p.letters → p.end ≡ 32 → bytes_of f wide w ≡ spread p []
bytes_spread f wide w p h s d e = rw (d, h, s, e)

-- from the bytes

places_read : (f : Family) (wide : Bool) (p : Places) (w : Word) → length p.letters ≡ width wide → word_by f wide p ≡ right_word w
    → (is_right f wide w ≡ true) × (bytes_of f wide w ≡ spread p []) × (value_by f (index_from f p) p ≡ Some (count_of f w)) × (w.minus ≡ sign_of p.sign)
places_read f wide p w l e =
    let i = index_from f p in
    let k = kind_of f i in
    let c = count_or (value_by f i p) in
    let r = record_by f i p c in
    let (j, is) = judged f wide i p w e in
    let bounds = width_bounds wide in
    let sign = sign_of_lem k p.sign j.sign in
    let fit = fit_read k p.letters (omega arith) j.letters in
    let kept = text_read wide k p.letters l j.letters in
    let told =
    value_told wide i p.unit (sign_of p.sign) (lead_of i p.first) p.second p.mode r.text (rw l at fit) sign.1 (ap is_counted j.value) in
    let right : is_right f wide r ≡ true =
    right_taken f wide r c told.3
    (record { four = refl; sixteen = kept.0; info = j.info; count = told.0; first = refl; second = refl; text = kept.1 }) in
    let letters : data_of (width wide) (figures_of (count_of f r)) r.text ≡ p.letters =
    ap (λ (n : Count). data_of (width wide) (figures_of n) r.text) told.3
    ∙ rw (told.1, ← l) (data_back k p.letters (omega arith) (omega arith) j.letters) in
    let head = head_back f p.tens p.ones p.first p.second p.mode p.unit j.digits j.listed in
    let bytes : bytes_of f wide r ≡ spread p [] =
    bytes_spread f wide r p head (ap sign_byte told.2 ∙ sign_back p.sign sign.0) letters j.end in (
      ap (is_right f wide) (sym is) ∙ right,
      ap (bytes_of f wide) (sym is) ∙ bytes,
      j.value ∙ ap Some (sym told.3 ∙ ap (count_of f) is),
      ap (λ (x : Word). x.minus) (sym is) ∙ told.2,
    )

pub read_write : (f : Family) (wide : Bool) (s : List ℕ) (w : Word) → word_of f wide s ≡ right_word w
    → (is_right f wide w ≡ true) × (bytes_of f wide w ≡ take (word_size wide) s)
read_write f wide s w e =
    let long = leb-true (word_size wide) (length s) (through (leb (word_size wide) (length s)) Short _ _ w e).0 in
    let p = places_in wide s in
    let l = data_length wide s long in
    let is = spread_places wide s long in
    let rest = drop (word_size wide) s in
    let (right, bytes, _, _) = places_read f wide p w l (through (leb (word_size wide) (length s)) Short _ _ w e).1 in
    (right, bytes ∙ sym (ap (take (word_size wide)) is ∙ take_spread wide p l rest))

-- what the word counted, its record counts
pub read_counts : (f : Family) (wide : Bool) (s : List ℕ) (w : Word) → word_of f wide s ≡ right_word w → value_in f wide s ≡ Some (count_of f w)
read_counts f wide s w e =
    let (long, by) = through (leb (word_size wide) (length s)) Short _ _ w e in
    (places_read f wide (places_in wide s) w (data_length wide s (leb-true (word_size wide) (length s) long)) by).2

-- the sign that it says stands in its record
pub read_signed : (f : Family) (wide : Bool) (s : List ℕ) (w : Word) → word_of f wide s ≡ right_word w → w.minus ≡ sign_of (pos 7 s)
read_signed f wide s w e =
    let (long, by) = through (leb (word_size wide) (length s)) Short _ _ w e in
    (places_read f wide (places_in wide s) w (data_length wide s (leb-true (word_size wide) (length s) long)) by).3

-- from the record

abbrev places_of : Family → Bool → Word → Places
places_of f wide w = record {
  tens = tens_of (two_of w.index);
  ones = ones_of (two_of w.index);
  first = third_of w.index (get_or w.info 0 0);
  second = get_or w.info 1 0;
  mode = get_or w.info 2 0;
  unit = unit_in w;
  sign = sign_byte w.minus;
  letters = data_of (width wide) (figures_of (count_of f w)) w.text;
  end = 32;
}

four_are : (l : List ℕ) → length l ≡ 4 → l ≡ get_or l 0 0 ∷ get_or l 1 0 ∷ get_or l 2 0 ∷ get_or l 3 0 ∷ []
four_are l h =
    drop-cons l 0 0 (omega arith)
    ∙ rw (drop-cons l 1 0 (omega arith), drop-cons l 2 0 (omega arith), drop-cons l 3 0 (omega arith), drop_of_length-le l {i = 4} (omega arith))

record Written (f : Family) (wide : Bool) (w : Word) (p : Places) : Type 0 where
  long : length p.letters ≡ width wide
  bytes : bytes_of f wide w ≡ spread p []
  word : word_by f wide p ≡ right_word w

places_written : (f : Family) (wide : Bool) (w : Word) → is_right f wide w ≡ true → Written f wide w (places_of f wide w)
places_written f wide w e =
    let i = w.index in
    let k = kind_in f w in
    let c = count_of f w in
    let p = places_of f wide w in
    let t = takes f wide w e in
    let a = get_or w.info 0 0 in
    let head = head_says f i a p.second p.mode p.unit t.info in
    let (fit, sign, value) = value_on wide k w t.count (ap (λ (x : Whole). x.minus) t.first) in
    let (long, right, says, text) = spelt wide w.text fit (t.sixteen, t.text) in
    let info = four_are w.info t.four in
    let judged_by : Judges f i p c = record {
      digits = head_digits i;
      listed = head.listed;
      info = rw head.lead t.info;
      sign = sign_right_lem k w.minus sign;
      letters = right;
      end = refl;
      value = rw (sign_on w.minus sign.small, says) value;
    } in
    let same : record_by f i p c ≡ w =
    λ n. record {
      index = i;
      info = (ap (λ x. x ∷ p.second ∷ p.mode ∷ p.unit ∷ []) head.lead ∙ sym info) n;
      minus = (t.first n).minus;
      mmminus = (t.second n).minus;
      size = (t.first n).size;
      mm = (t.second n).size;
      text = text n;
    } in
    record {
      long = long;
      bytes = bytes_spread f wide w p (ap (head_of i) info ∙ head_is i a p.second p.mode p.unit) refl refl refl;
      word = ap (λ n. word_at f wide n p) head.index ∙ word_judged f wide i p c judged_by ∙ ap right_word same;
    }

pub write_read : (f : Family) (wide : Bool) (w : Word) (rest : List ℕ) → is_right f wide w ≡ true → word_of f wide (bytes_of f wide w ++ rest) ≡ right_word w
write_read f wide w rest e =
    let r = places_written f wide w e in
    let p = places_of f wide w in
    let all : bytes_of f wide w ++ rest ≡ spread p rest = rw r.bytes (spread_on p [] rest) in
    ap (word_of f wide) all ∙ word_spread wide p r.long f rest ∙ r.word

pub bytes_length : (f : Family) (wide : Bool) (w : Word) → is_right f wide w ≡ true → length (bytes_of f wide w) ≡ word_size wide
bytes_length f wide w e =
    let r = places_written f wide w e in
    ap length r.bytes ∙ size_spread wide (places_of f wide w) r.long

-- the first byte is a digit, so it is neither an end of line nor the mark of a wide block
pub first_digit : (f : Family) (wide : Bool) (s : List ℕ) (w : Word) → word_of f wide s ≡ right_word w → is_digit (get_or s 0 0) ≡ true
first_digit f wide s w e =
    let p = places_in wide s in
    let j = (judged f wide (index_from f p) p w (through (leb (word_size wide) (length s)) Short _ _ w e).1).0 in
    (both (is_digit p.tens) (is_digit p.ones) j.digits).0

pub first_written : (f : Family) (wide : Bool) (w : Word) (rest : List ℕ) → is_right f wide w ≡ true → is_digit (get_or (bytes_of f wide w ++ rest) 0 0) ≡ true
first_written f wide w rest e = first_digit f wide (bytes_of f wide w ++ rest) w (write_read f wide w rest e)
