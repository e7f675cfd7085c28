-- How a line is taken from the start of some bytes: the loop that reads digits, and whether the line is right, test by test as the code judges it.
use Prim.Native.Nat.{ℕ, zero, suc, ◌+◌, ◌-◌, ◌*◌, ◌/◌, ◌%◌, ◌^◌, ◌≤◌, ◌<◌}
use mathlib.Core.Path.{◌≡◌, refl, sym, ap, ◌∙◌}
use mathlib.Core.Bool.{Bool, true, false, cond, ◌&&◌, and_assoc, and-true, and-false, false≢true}
use mathlib.Core.List.{List, [], ◌∷◌, ◌++◌, append_assoc}
use native.Mathlib.Nat.{add-zero, lt_of_lt_of_le, pow-le-pow_right}
use native.Mathlib.Numerals.{add-one}
use native.Mathlib.Omega.{arith}
use borrow.Author.Tests.{eqb-true, eqb-false, eq-eqb, ne_eqb, leb-true}
use borrow.Rule.Slice.PartMut.{mid_of}
use lib.Dec.{eqb, leb}
use lib.ListN.{length, get_or, take, drop, length-append, drop_of_length-le, get_or-eq_default}
use lib.Seq.{drop-cons, drop-drop, drop_at, get_or-drop}
use Rattle.figures.specs.Text.{codes}
use Rattle.figures.specs.Bytes.{starts_with}
use Rattle.figures.specs.Decimal.{is_digit, number_from, number_of, digits_of, digits_nBy, digits_n, decimal_of}
use Rattle.figures.proofs.Bytes.{take_starts, starts_length}
use Rattle.figures.proofs.Decimal.{digits_length, digits_are, digits_number, number_below}
use Rattle.figures.proofs.Tests.{both, by_test, along, and_on, and_off}
use Rattle.units.specs.Information.{sign_byte, sign_of}
use Rattle.instrument.specs.Settings.{settings_n, row_at, in_range}
use Rattle.instrument.specs.Values.{values_n, stored, stored_at, is_text, put_of, put_kept, kept_right}
use Rattle.instrument.specs.declared.settings.Series.{Series}
use Rattle.instrument.specs.declared.values.Stored.{Stored}
use Rattle.instrument.specs.Values.{Kept}
use Rattle.instrument.proofs.Kept.{elements}
use Rattle.sheets.specs.Sheet.{setting_key, said_by, setting_lines, characters_of, value_key, kept_line, kept_said, value_lines}
use Rattle.sheets.specs.Keeping.{key_length, digits_first, said_of, number_taken, setting_taken, value_taken, put_stands}
use Rattle.sheets.specs.declared.loading.Digits.{Digits}
use Rattle.sheets.specs.declared.loading.Taken.{Taken}
use Rattle.std.specs.Prelude.{Option, Some, None}
use Rattle.sheets.proofs.Keyed.{key_part, value_keyed_lem}
use Rattle.sheets.proofs.Linewise.{short_decimal, kept_long}
use Rattle.sheets.proofs.Partwise.{starts_parted, none_some, some_same, Turned, part_turned}
use Rattle.sheets.proofs.Says.{digits_stand, digits_until}

-- the loop that reads digits, after i of them that say n: a turn, and the end where no digit follows

abbrev pub said_from : ℕ → ℕ → List ℕ → Digits
said_from n i t = record { number = said_by (3 - i) n t; digits = i + digits_first (3 - i) t }

pub said_small : (n i : ℕ) → i ≤ 3 → n < 10 ^ i → n < 1000
said_small n i h e = lt_of_lt_of_le e (pow-le-pow_right {n = 10} (omega arith) {i = i} {j = 3} h)

module _ (n i : ℕ) (s : List ℕ) (at : ℕ) where
  pub said_more : i < 3 → at < length s → is_digit (get_or s at 0) ≡ true
      → said_from n i (drop at s) ≡ said_from (n * 10 + (get_or s at 0 - 48)) (i + 1) (drop (at + 1) s)
  unfolding said_by digits_first
  said_more hi h d =
      let left : 3 - i ≡ suc (3 - (i + 1)) = omega arith in
      let on : i + suc (digits_first (3 - (i + 1)) (drop (suc at) s)) ≡ i + 1 + digits_first (3 - (i + 1)) (drop (suc at) s) = omega arith in
      rw (left, drop-cons s at 0 h, d, on, add-one at)

  said_end : digits_first (3 - i) (drop at s) ≡ 0 → said_from n i (drop at s) ≡ record { number = n; digits = i }
  unfolding number_from
  said_end e =
      let said = (digits_stand (3 - i) n (drop at s)).say ∙ ap (λ (m : ℕ). number_from n (take m (drop at s))) e in
      rw (said, e, add-zero)

  pub said_other : is_digit (get_or s at 0) ≡ false → said_from n i (drop at s) ≡ record { number = n; digits = i }
  unfolding digits_first
  said_other e = said_end (by (3 - i) (drop at s) (rw (get_or-drop, add-zero) e))
    where
      by : (k : ℕ) (t : List ℕ) → is_digit (get_or t 0 0) ≡ false → digits_first k t ≡ 0
      by zero t d = refl
      by (suc k) [] d = refl
      by (suc k) (b ∷ t) d = rw d

  pub said_past : length s ≤ at → said_from n i (drop at s) ≡ record { number = n; digits = i }
  said_past h = said_other (rw (get_or-eq_default s 0 {n = at} h))

  pub said_all : 3 ≤ i → said_from n i (drop at s) ≡ record { number = n; digits = i }
  unfolding digits_first
  said_all h = let none : 3 - i ≡ 0 = omega arith in said_end (rw none)

-- a string after another, and a byte, at the start of some bytes

pub starts_both : (a b s : List ℕ) (n : ℕ) → length a ≡ n → starts_with (a ++ b) s ≡ starts_with a s && starts_with b (drop n s)
unfolding starts_with
starts_both a b s n h = by a s ∙ ap (λ (m : ℕ). starts_with a s && starts_with b (drop m s)) h
  where
    by : (a s : List ℕ) → starts_with (a ++ b) s ≡ starts_with a s && starts_with b (drop (length a) s)
    by [] s = refl
    by (x ∷ a) [] = refl
    by (x ∷ a) (y ∷ s) = rw (by a s, and_assoc)

module _ (b : ℕ) (s : List ℕ) (n : ℕ) where
  pub byte_past : length s ≤ n → starts_with (b ∷ []) (drop n s) ≡ false
  unfolding starts_with
  byte_past h = rw (drop_of_length-le s {i = n} h)

  pub byte_is : n < length s → starts_with (b ∷ []) (drop n s) ≡ eqb (get_or s n 0) b
  unfolding starts_with
  byte_is h = rw (drop-cons s n 0 h, and-true)

-- tests that must all pass, and one that fails, by its place among them

abbrev pub all : List Bool → Bool
all [] = true
all (t ∷ ts) = t && all ts

pub all_not : (ts : List Bool) (n : ℕ) → get_or ts n true ≡ false → all ts ≡ false
all_not [] n e = absurd (false≢true (sym e))
all_not (t ∷ ts) zero e = and_off (all ts) e
all_not (t ∷ ts) (suc n) e = rw (all_not ts n e, and-false)

-- the number that the digits say stands in its fewest digits where they are as many, and LF after it where it does after them

said_below : (t : List ℕ) → said_by 3 0 t < 1000
said_below t =
    let d = digits_stand 3 0 t in
    rw d.say (said_small (number_of (take (digits_first 3 t) t)) (digits_first 3 t) d.few (rw d.long at (number_below (take (digits_first 3 t) t) d.are)))

pub stands_before : (b : ℕ) → is_digit b ≡ false → (t : List ℕ) → let p = said_by 3 0 t in
    starts_with (decimal_of p ++ (b ∷ [])) t ≡ eqb (digits_first 3 t) (digits_n p) && starts_with (b ∷ []) (drop (digits_first 3 t) t)
stands_before b none t =
    let p = said_by 3 0 t in
    let n = digits_first 3 t in
    let d = digits_stand 3 0 t in
    let line = decimal_of p ++ (b ∷ []) in
    by_test (eqb n (digits_n p))
    (λ e.
    let same = sym (eqb-true n (digits_n p) e) in
    let long : length (decimal_of p) ≡ n = digits_length (digits_n p) p ∙ same in
    let digits : decimal_of p ≡ take n t =
    ap (λ (m : ℕ). digits_of m p) (same ∙ sym d.long) ∙ ap (digits_of (length (take n t))) d.say ∙ digits_number (take n t) d.are in
    let stands : starts_with (decimal_of p) t ≡ true = take_starts (decimal_of p) t (ap (λ (m : ℕ). take m t) long ∙ sym digits) in
    starts_both (decimal_of p) (b ∷ []) t n long ∙ rw (stands, e))
    (λ e. by_test (starts_with line t)
    (λ s.
    let rest = drop (length line) t in
    let few = (short_decimal p (said_below t)).0 in
    let count = ap (digits_first 3) (starts_parted line t s ∙ append_assoc (decimal_of p) (b ∷ []) rest)
    ∙ digits_until 3 (decimal_of p) b rest none (omega (arith, digits_length (digits_n p) p)) (digits_are (digits_n p) p) in
    absurd (eqb-false n (digits_n p) e (count ∙ digits_length (digits_n p) p)))
    (λ s. s ∙ rw e))

pub number_stands : (t : List ℕ) → let p = said_by 3 0 t in
    starts_with (decimal_of p ++ codes "\n") t ≡ eqb (digits_first 3 t) (digits_n p) && starts_with (codes "\n") (drop (digits_first 3 t) t)
number_stands = stands_before 10 refl

-- a number and LF from the place n on, as it was read

abbrev pub number_tests : List ℕ → ℕ → Digits → List Bool
number_tests s n r = eqb r.digits (digits_n r.number) ∷ starts_with (codes "\n") (drop (n + r.digits) s) ∷ []

number_long : (p : ℕ) → length (decimal_of p ++ codes "\n") ≡ digits_n p + 1
number_long p = length-append (decimal_of p) (codes "\n") ∙ rw (digits_length (digits_n p) p)

module _ (s : List ℕ) (n : ℕ) (r : Digits) (is : r ≡ said_of (drop n s)) where
  number_as : let p = r.number in
      number_taken (drop n s) ≡ cond (all (number_tests s n r)) (Some (record { to = length (decimal_of p ++ codes "\n"); held = p })) None
  number_as =
      let t = drop n s in
      rw (number_stands t, is, drop-drop (digits_first 3 t) n s, and-true)

  pub number_not : (j : ℕ) → get_or (number_tests s n r) j true ≡ false → None ≡ number_taken (drop n s)
  number_not j e = sym (number_as ∙ rw (all_not (number_tests s n r) j e))

  pub number_is : r.digits ≡ digits_n r.number → all (number_tests s n r) ≡ true
      → Some (record { to = r.digits + 1; held = r.number }) ≡ number_taken (drop n s)
  number_is d e =
      let size : r.digits + 1 ≡ length (decimal_of r.number ++ codes "\n") = omega (arith, number_long r.number) in
      (λ j. Some (record { to = size j; held = r.number })) ∙ sym (number_as ∙ rw e)

-- what was taken: nothing, where no number and LF stand, or both
module _ (rest : List ℕ) (t : Option (Taken ℕ)) (is : t ≡ number_taken rest) where
  abbrev line : List ℕ
  line = decimal_of (said_by 3 0 rest) ++ codes "\n"

  abbrev some : Taken ℕ
  some = record { to = length line; held = said_by 3 0 rest }

  as_judged : (b : Bool) → starts_with line rest ≡ b → t ≡ cond b (Some some) None
  as_judged b e = is ∙ ap (λ (x : Bool). cond x (Some some) None) e

  pub number_none : t ≡ None → starts_with line rest ≡ false
  number_none z = by_test (starts_with line rest) (λ e. absurd (none_some (sym z ∙ as_judged true e))) (λ e. e)

  pub number_some : {x : Taken ℕ} → t ≡ Some x → (starts_with line rest ≡ true) × (x ≡ some)
  number_some z =
      by_test (starts_with line rest) (λ e. (e, some_same (sym z ∙ as_judged true e))) (λ e. absurd (none_some (sym (as_judged false e) ∙ z)))

-- the line of a setting: its key of n bytes, and then a number that was taken

module _ (k : Series) (i : ℕ) (s : List ℕ) where
  abbrev key : List ℕ
  key = setting_key (row_at k i)

  pub setting_unkeyed : starts_with key s ≡ false → None ≡ setting_taken k i s
  setting_unkeyed e = rw (starts_both key (decimal_of ((setting_lines k).says i s) ++ codes "\n") s (length key) refl, e, and-false)

  module _ (keyed : starts_with key s ≡ true) (n : ℕ) (long : n ≡ length key) (t : Option (Taken ℕ)) (is : t ≡ number_taken (drop n s)) where
    taken : t ≡ number_taken (drop (length key) s)
    taken = is ∙ ap (λ (m : ℕ). number_taken (drop m s)) long

    -- after its key, the number makes the line
    after_key : let p = (setting_lines k).says i s in starts_with ((setting_lines k).write i p) s ≡ starts_with (decimal_of p ++ codes "\n") (drop (length key) s)
    after_key = starts_both key (decimal_of ((setting_lines k).says i s) ++ codes "\n") s (length key) refl ∙ and_on keyed

    pub setting_unended : t ≡ None → None ≡ setting_taken k i s
    setting_unended z = rw (after_key, number_none (drop (length key) s) t taken z, and-false)

    module _ (x : Taken ℕ) (some : t ≡ Some x) where
      said : x ≡ record { to = length (decimal_of ((setting_lines k).says i s) ++ codes "\n"); held = (setting_lines k).says i s }
      said = (number_some (drop (length key) s) t taken some).1

      pub setting_beyond : in_range (row_at k i) x.held ≡ false → None ≡ setting_taken k i s
      setting_beyond e =
          let out : in_range (row_at k i) ((setting_lines k).says i s) ≡ false = ap (λ (y : Taken ℕ). in_range (row_at k i) y.held) (sym said) ∙ e in
          rw out

      pub setting_is : in_range (row_at k i) x.held ≡ true → Some (record { to = n + x.to; held = x.held }) ≡ setting_taken k i s
      setting_is e =
          let p = (setting_lines k).says i s in
          let in-it : in_range (row_at k i) p ≡ true = ap (λ (y : Taken ℕ). in_range (row_at k i) y.held) (sym said) ∙ e in
          let size : n + x.to ≡ length ((setting_lines k).write i p) =
          omega (arith, long, ap (λ (y : Taken ℕ). y.to) said, length-append key (decimal_of p ++ codes "\n")) in
          (λ j. Some (record { to = size j; held = (said j).held }))
          ∙ rw (in-it, after_key, (number_some (drop (length key) s) t taken some).0)

pub setting_turned : (k : Series) (i at : ℕ) (sheet got : List ℕ) → i < settings_n k → i < length got → at ≤ length sheet
    → (t : Option (Taken ℕ)) → t ≡ setting_taken k i (mid_of at (length sheet - at) sheet)
    → Turned (setting_lines k) (settings_n k) i at sheet got t
setting_turned k i at sheet got hn hg ha t is =
    part_turned (setting_lines k) (settings_n k) i at sheet got hn hg ha (λ before x. refl) t is

-- the line of a value, whose key has four bytes

pub key_long : (i : ℕ) → i < values_n → length (value_key i) ≡ 4
unfolding stored digits_of digits_nBy
key_long i h = sym (along (λ j. length (value_key j)) 0 values_n refl (omega arith) h)

pub key_four : (i : ℕ) → i < values_n → 4 ≡ key_length (stored_at i).key
key_four i h = sym ((value_keyed_lem i).long ∙ key_long i h)

pub key_held : (i : ℕ) → i < values_n → 4 ≤ length (stored_at i).key
unfolding stored digits_of digits_nBy
key_held i h = leb-true 4 (length (stored_at i).key) (sym (along (λ j. leb 4 (length (stored_at j).key)) 0 values_n refl (omega arith) h))

-- which is the one that is looked for
pub value_starts : (i : ℕ) → i < values_n → (s : List ℕ) (row : Stored) → row ≡ stored_at i → starts_with (take 4 row.key) s ≡ starts_with (value_key i) s
value_starts i h s row is =
    let own = ap (λ (r : Stored). r.key) is in
    ap (λ (w : List ℕ). starts_with w s) (key_part (value_keyed_lem i) own (key_four i h ∙ ap key_length (sym own)))

-- the two digits of its index
key_digits : (i : ℕ) → i < values_n
    → let r = stored_at i in (get_or r.key 1 0 ≡ 48 + r.index / 10 % 10) × (get_or r.key 2 0 ≡ 48 + r.index % 10)
unfolding stored digits_of digits_nBy
key_digits i h =
    let tens : Stored → Bool = λ r. eqb (get_or r.key 1 0) (48 + r.index / 10 % 10) in
    let ones : Stored → Bool = λ r. eqb (get_or r.key 2 0) (48 + r.index % 10) in
    let r = stored_at i in
    let parts = both (tens r) (ones r) (sym (along (λ j. tens (stored_at j) && ones (stored_at j)) 0 values_n refl (omega arith) h)) in
    (eqb-true _ _ parts.0, eqb-true _ _ parts.1)

module _ (i : ℕ) (there : i < values_n) (s : List ℕ) where
  kept_starts : (k : Kept) → starts_with (kept_line i k) s ≡ starts_with (value_key i) s && starts_with (drop 4 (kept_line i k)) (drop 4 s)
  kept_starts k =
      let w = characters_of i k ++ codes "\n" in
      starts_both (value_key i) w s 4 (key_long i there)
      ∙ ap (λ (t : List ℕ). starts_with (value_key i) s && starts_with t (drop 4 s)) (sym (drop_at (value_key i) w 4 (key_long i there)))

  -- a line that doesn't stand whole isn't taken
  untaken : (starts_with (kept_line i (kept_said i s)) s ≡ true → ⊥) → None ≡ value_taken i s
  untaken f = by_test (starts_with (kept_line i (kept_said i s)) s) (λ e. absurd (f e)) (λ e. rw (e, and-false))

  pub value_unkeyed : starts_with (value_key i) s ≡ false → None ≡ value_taken i s
  value_unkeyed e = untaken (λ t. false≢true (sym (kept_starts (kept_said i s) ∙ and_off _ e) ∙ t))

  pub value_few : length s < 5 → None ≡ value_taken i s
  value_few h = untaken (λ t. omega (arith, starts_length (kept_line i (kept_said i s)) s t, kept_long i (kept_said i s), key_long i there))

  module _ (keyed : starts_with (value_key i) s ≡ true) (h : 4 < length s) where
    never_is : starts_with (kept_line i None) s ≡ eqb (get_or s 4 0) 10
    never_is = starts_both (value_key i) (codes "\n") s 4 (key_long i there) ∙ and_on keyed ∙ byte_is 10 s 4 h

    pub value_never : get_or s 4 0 ≡ 10 → Some (record { to = 5; held = None }) ≡ value_taken i s
    value_never e =
        let never : starts_with (kept_line i None) s ≡ true = never_is ∙ eq-eqb (get_or s 4 0) 10 e in
        let n : length (kept_line i None) ≡ 5 = omega (arith, kept_long i None, key_long i there) in
        rw (never, never, n)

    module _ (f : get_or s 4 0 ≡ 10 → ⊥) where
      abbrev put : Kept
      put = put_kept (drop 4 s)

      put_said : kept_said i s ≡ put
      put_said =
          ap (λ (b : Bool). cond b None (put_kept (drop (length (value_key i)) s))) (never_is ∙ ne_eqb (get_or s 4 0) 10 f)
          ∙ ap (λ (n : ℕ). put_kept (drop n s)) (key_long i there)

      put_long : length (kept_line i put) ≡ 20
      put_long = omega (arith, kept_long i put, key_long i there)

      pub value_short : length s < 20 → None ≡ value_taken i s
      value_short few = untaken (λ t. omega (arith, starts_length (kept_line i put) s (rw put_said at t), put_long))

      pub value_put : (b : Bool) → b ≡ put_stands i s → cond b (Some (record { to = 20; held = put })) None ≡ value_taken i s
      value_put b is =
          let line = is ∙ ap (λ (t : Bool). kept_right i put && t) (sym (kept_starts put ∙ and_on keyed)) in
          let taken : Kept → Option (Taken Kept) =
          λ k. cond (kept_right i k && starts_with (kept_line i k) s) (Some (record { to = length (kept_line i k); held = k })) None in
          (λ j. cond (line j) (Some (record { to = sym put_long j; held = put })) None) ∙ ap taken (sym put_said)

pub value_turned : (i at : ℕ) (sheet : List ℕ) (got : List Kept) → i < values_n → i < length got → at ≤ length sheet
    → (t : Option (Taken Kept)) → t ≡ value_taken i (mid_of at (length sheet - at) sheet) → Turned value_lines values_n i at sheet got t
value_turned i at sheet got hn hg ha t is = part_turned value_lines values_n i at sheet got hn hg ha (λ before x. refl) t is

-- what follows the key of a value that was put, byte by byte

abbrev pub signed_at : List ℕ → ℕ → Kept
signed_at s m =
    put_of (get_or s 9 0) m
    (get_or s 11 0 ∷ get_or s 12 0 ∷ get_or s 13 0 ∷ get_or s 14 0 ∷ get_or s 15 0 ∷ get_or s 16 0 ∷ get_or s 17 0 ∷ get_or s 18 0 ∷ [])

abbrev pub kept_at : List ℕ → Kept
kept_at s = signed_at s (sign_of (get_or s 10 0))

put_kept_lem : (s : List ℕ) → put_kept (drop 4 s) ≡ kept_at s
put_kept_lem s = simp get_or-drop

pub put_signed : (s : List ℕ) (m : ℕ) → m ≡ sign_of (get_or s 10 0) → signed_at s m ≡ put_kept (drop 4 s)
put_signed s m e = ap (signed_at s) e ∙ sym (put_kept_lem s)

-- index, dots, mark, sign and LF stand
abbrev pub put_tests : ℕ → List ℕ → List Bool
put_tests i s =
    eqb (get_or s 4 0) (get_or (stored_at i).key 1 0)
    ∷ eqb (get_or s 5 0) (get_or (stored_at i).key 2 0)
    ∷ eqb (get_or s 6 0) 46
    ∷ eqb (get_or s 7 0) 46
    ∷ eqb (get_or s 8 0) (cond (is_text i) 46 49)
    ∷ eqb (get_or s 10 0) (sign_byte (sign_of (get_or s 10 0)))
    ∷ eqb (get_or s 19 0) 10
    ∷ []

elements_on : (n i : ℕ) (b : List ℕ) → i + n ≤ length b → drop i b ≡ elements n i b ++ drop (i + n) b
unfolding elements
elements_on zero i b h = rw add-zero
elements_on (suc n) i b h =
    let on : suc i + n ≡ i + suc n = omega arith in
    rw (drop-cons b i 0 (omega arith), elements_on n (suc i) b (omega arith), on)

same : (n : ℕ) → eqb n n ≡ true
same n = eq-eqb n n refl

module _ (i : ℕ) (there : i < values_n) (s : List ℕ) (long : 20 ≤ length s) where
  put_starts : starts_with (drop 4 (kept_line i (kept_at s))) (drop 4 s) ≡ all (put_tests i s)
  unfolding starts_with elements
  put_starts =
      let w = characters_of i (kept_at s) ++ codes "\n" in
      let key = key_digits i there in
      (λ j. starts_with (drop_at (value_key i) w 4 (key_long i there) j) (elements_on 16 4 s long j)) ∙ rw (key.0, key.1) (simp same)

  put_as : put_stands i s ≡ kept_right i (kept_at s) && all (put_tests i s)
  put_as =
      ap (λ (k : Kept). kept_right i k && starts_with (drop 4 (kept_line i k)) (drop 4 s)) (put_kept_lem s) ∙ ap (λ (t : Bool). kept_right i (kept_at s) && t) put_starts

  pub put_off : all (put_tests i s) ≡ false → false ≡ put_stands i s
  put_off e = sym (put_as ∙ rw (e, and-false))

  pub put_not : (n : ℕ) → get_or (put_tests i s) n true ≡ false → false ≡ put_stands i s
  put_not n e = put_off (all_not (put_tests i s) n e)

  -- where they all stand, it is left whether what it holds may be held
  pub put_is : all (put_tests i s) ≡ true → kept_right i (kept_at s) ≡ put_stands i s
  put_is e = sym (put_as ∙ rw (e, and-true))

-- a sign that stands there: plus, minus, or none

pub sign_plus : (b : ℕ) → b ≡ 43 → (0 ≡ sign_of b) × (b ≡ sign_byte (sign_of b))
sign_plus b e = rw e (refl, refl)

pub sign_minus : (b : ℕ) → b ≡ 45 → (1 ≡ sign_of b) × (b ≡ sign_byte (sign_of b))
sign_minus b e = rw e (refl, refl)

pub sign_none : (b : ℕ) → (b ≡ 43 → ⊥) → (b ≡ 45 → ⊥) → b ≡ sign_byte (sign_of b) → ⊥
sign_none b p m e = m (e ∙ rw (ne_eqb b 43 p))
