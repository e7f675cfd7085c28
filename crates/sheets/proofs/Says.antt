-- What a line says: the line of a setting in its range says its parameter, that of a value that may be held the value, that of an entry right by itself the
-- entry, and that of a count the count.
use Prim.Native.Nat.{ℕ, zero, suc, ◌+◌, ◌-◌, ◌*◌, ◌/◌, ◌%◌, ◌≤◌, ◌<◌}
use mathlib.Core.Path.{◌≡◌, refl, sym, ap, ◌∙◌}
use mathlib.Core.Bool.{Bool, true, false, cond, not, ◌&&◌, false≢true}
use mathlib.Core.List.{List, [], ◌∷◌, ◌++◌, append_assoc}
use native.Mathlib.Numerals.{add-one}
use native.Mathlib.Omega.{arith}
use borrow.Author.Tests.{leb-true, ltb-true, eqb-true, eq-eqb, ne_eqb}
use lib.Dec.{eqb, ltb}
use lib.ListN.{length, take, drop, drop_of_length-le}
use lib.Seq.{drop-cons, take-append_seam, drop-append_seam, length-take-le, get_or-take}
use Rattle.figures.specs.Text.{codes}
use Rattle.figures.specs.Bytes.{starts_with, every}
use Rattle.figures.specs.Decimal.{is_digit, number_from, digits_n, decimal_of}
use Rattle.figures.proofs.Bytes.{starts_append}
use Rattle.figures.proofs.Decimal.{digits_length, digits_are, number_digits}
use Rattle.figures.proofs.Tests.{both, by_test, Even, along}
use Rattle.units.proofs.Positions.{sign_on}
use Rattle.instrument.specs.Rows.{seek}
use Rattle.instrument.specs.Settings.{no_row, rows100, rows300, rows_of, row_at, setting_number, setting_place, is_asked, in_range, in_ranges, settings_n}
use Rattle.instrument.specs.Values.{values_n, stored, stored_at, index_number, value_place, put_kept, kept_right}
use Rattle.state.specs.Entries.{entries_n, entry_of, blank_entry, is_never, settable, item_right, entry_right, values_right, is_state}
use Rattle.instrument.specs.declared.settings.Series.{Series}
use Rattle.instrument.specs.declared.settings.Series.TheVariants.{Tps100, Tps300}
use Rattle.instrument.specs.Values.{Kept}
use Rattle.state.specs.declared.entries.Item.{Item}
use Rattle.state.specs.declared.entries.Item.TheVariants.{Free, Setting, Stored}
use Rattle.state.specs.declared.entries.Entry.{Entry}
use Rattle.state.specs.declared.entries.State.{State}
use Rattle.state.proofs.Listed.{EachRight, entries_right}
use Rattle.state.proofs.Steps.{state_parts}
use Rattle.instrument.specs.Values.{Eight, put_of, eight_bytes}
use Rattle.instrument.proofs.Kept.{kept_parts, eight_whole}
use Rattle.instrument.proofs.Ranges.{range_byte}
use Rattle.sheets.specs.Sheet.{setting_key, said_by, setting_lines, characters_of, value_key, value_lines}
use Rattle.sheets.specs.Undo.{count_key, count_lines, item_key, entry_line, setting_said, stored_said, number_said, entry_said, entry_lines, entries_of}
use Rattle.sheets.specs.Keeping.{digits_first}
use Rattle.sheets.proofs.Linewise.{short_decimal}
use Rattle.sheets.proofs.Partwise.{right_by, Said}
use Rattle.std.specs.Prelude.{Option, Some, None}

-- the digits at the start, k of them at most, and what they say after n

pub record Standing (k n : ℕ) (t : List ℕ) : Type 0 where
  pub few : digits_first k t ≤ k
  pub long : length (take (digits_first k t) t) ≡ digits_first k t
  pub are : every is_digit (take (digits_first k t) t) ≡ true
  pub say : said_by k n t ≡ number_from n (take (digits_first k t) t)

pub digits_stand : (k n : ℕ) (t : List ℕ) → Standing k n t
unfolding said_by digits_first number_from every
digits_stand zero n t = record { few = omega arith; long = refl; are = refl; say = refl }
digits_stand (suc k) n [] = record { few = omega arith; long = refl; are = refl; say = refl }
digits_stand (suc k) n (b ∷ t) =
    by_test (is_digit b)
    (λ d. let later = digits_stand k (n * 10 + (b - 48)) t in record {
      few = rw d (omega (arith, later.few));
      long = rw d (ap suc later.long);
      are = rw (d, d) later.are;
      say = rw d later.say;
    })
    (λ d. record { few = rw d (omega arith); long = rw d; are = rw d; say = rw d })

-- digits, and after them a byte that is none

pub digits_until : (k : ℕ) (l : List ℕ) (b : ℕ) (rest : List ℕ) → is_digit b ≡ false → length l ≤ k → every is_digit l ≡ true
    → digits_first k (l ++ (b ∷ rest)) ≡ length l
unfolding digits_first every
digits_until zero [] b rest none h e = refl
digits_until zero (x ∷ l) b rest none h e = absurd (omega arith)
digits_until (suc k) [] b rest none h e = rw none
digits_until (suc k) (x ∷ l) b rest none h e =
    let parts = both (is_digit x) (every is_digit l) e in
    rw parts.0 (ap suc (digits_until k l b rest none (omega arith) parts.1))

said_digits : (k n : ℕ) (l : List ℕ) (b : ℕ) (rest : List ℕ) → is_digit b ≡ false → length l ≤ k → every is_digit l ≡ true
    → said_by k n (l ++ (b ∷ rest)) ≡ number_from n l
said_digits k n l b rest none h e =
    let t = l ++ (b ∷ rest) in
    (digits_stand k n t).say ∙ ap (λ (m : ℕ). number_from n (take m t)) (digits_until k l b rest none h e) ∙ ap (number_from n) (take-append_seam l (b ∷ rest))

-- a number of up to three digits after a key
pub said_after : (key : List ℕ) (p b : ℕ) (rest : List ℕ) → is_digit b ≡ false → p < 1000
    → said_by 3 0 (drop (length key) (key ++ (decimal_of p ++ (b ∷ rest)))) ≡ p
said_after key p b rest none h =
    let few = short_decimal p h in
    ap (said_by 3 0) (drop-append_seam key (decimal_of p ++ (b ∷ rest)))
    ∙ said_digits 3 0 (decimal_of p) b rest none (omega (arith, digits_length (digits_n p) p, few.0)) (digits_are (digits_n p) p)
    ∙ number_digits (digits_n p) p few.1

-- a line by its key, its text and LF, and what stands after it
line_on : (key text rest : List ℕ) → (key ++ (text ++ codes "\n")) ++ rest ≡ key ++ (text ++ (10 ∷ rest))
line_on key text rest = append_assoc key (text ++ codes "\n") rest ∙ ap (λ (l : List ℕ). key ++ l) (append_assoc text (codes "\n") rest)

number_said_lem : (key : List ℕ) (p : ℕ) (rest : List ℕ) → p < 1000 → said_by 3 0 (drop (length key) ((key ++ (decimal_of p ++ codes "\n")) ++ rest)) ≡ p
number_said_lem key p rest h = ap (λ (l : List ℕ). said_by 3 0 (drop (length key) l)) (line_on key (decimal_of p) rest) ∙ said_after key p 10 rest refl h

-- settings, and the count

pub setting_said_lem : (k : Series) → Said (setting_lines k)
setting_said_lem k got i p rest e = number_said_lem (setting_key (row_at k i)) p rest (omega (arith, range_byte k i p e))

pub count_said : Said count_lines
count_said got i n rest e = number_said_lem count_key n rest (omega (arith, leb-true n entries_n e))

-- values

-- a byte that ends no line stands after the key: the value was put
not_never : (k : List ℕ) (b : ℕ) (rest : List ℕ) → (b ≡ 10 → ⊥) → starts_with (k ++ (10 ∷ [])) (k ++ (b ∷ rest)) ≡ false
unfolding starts_with
not_never [] b rest h = rw (ne_eqb b 10 h)
not_never (x ∷ k) b rest h = rw (eq-eqb x x refl) (not_never k b rest h)

-- after a key, in a value's line and in that of an entry
abbrev kept_after : List ℕ → List ℕ → Kept
kept_after key rest = cond (starts_with (key ++ codes "\n") rest) None (put_kept (drop (length key) rest))

kept_said : (key : List ℕ) (place : ℕ) (k : Kept) (rest : List ℕ) → kept_right place k ≡ true
    → kept_after key ((key ++ (characters_of place k ++ codes "\n")) ++ rest) ≡ k
kept_said key place None rest e = rw (starts_append (key ++ codes "\n") rest)
kept_said key place (Some p) rest e =
    let c = characters_of place (Some p) in
    let parts = kept_parts place p e in
    let put : starts_with (key ++ codes "\n") (key ++ (c ++ (10 ∷ rest))) ≡ false =
    not_never key (48 + (stored_at place).index / 10 % 10) (drop 1 c ++ (10 ∷ rest)) (omega arith) in
    ap (kept_after key) (line_on key c rest)
    ∙ ap (λ (b : Bool). cond b None (put_kept (drop (length key) (key ++ (c ++ (10 ∷ rest)))))) put
    ∙ ap put_kept (drop-append_seam key (c ++ (10 ∷ rest)))
    ∙ ap (λ (s : ℕ). put_of p.unit s (eight_bytes p.eight)) (sign_on p.minus parts.small)
    ∙ ap (λ (d : Eight). put_of p.unit p.minus d) (eight_whole p.eight parts.long)

pub value_said : Said value_lines
value_said got place v rest e = kept_said (value_key place) place v rest e

-- entries

-- a number of up to three digits that finds its place again
abbrev is_found_at : ℕ → Option ℕ → Bool
is_found_at i None = false
is_found_at i (Some j) = eqb j i

abbrev finds_again : (ℕ → ℕ) → (ℕ → Option ℕ) → ℕ → Bool
finds_again number place i = ltb (number i) 1000 && is_found_at i (place (number i))

abbrev FindsAgain : (ℕ → ℕ) → (ℕ → Option ℕ) → ℕ → Type 0
FindsAgain number place i = (number i < 1000) × (place (number i) ≡ Some i)

finds_again_lem : (number : ℕ → ℕ) (place : ℕ → Option ℕ) (n : ℕ) → Even (finds_again number place) true 0 n → (i : ℕ) → i < n → FindsAgain number place i
finds_again_lem number place n all i h =
    let tested = both (ltb (number i) 1000) (is_found_at i (place (number i))) (sym (along (finds_again number place) 0 n all (omega arith) h)) in
    (ltb-true (number i) 1000 tested.0, by (place (number i)) tested.1)
  where
    by : (f : Option ℕ) → is_found_at i f ≡ true → f ≡ Some i
    by None e = absurd (false≢true e)
    by (Some j) e = ap (λ (n : ℕ). Some n) (eqb-true j i e)

setting_again : (k : Series) (i : ℕ) → i < settings_n k → FindsAgain (λ j. setting_number (row_at k j)) (setting_place k) i
unfolding rows100 rows300 seek
setting_again Tps100 = finds_again_lem _ (setting_place Tps100) (settings_n Tps100) refl
setting_again Tps300 = finds_again_lem _ (setting_place Tps300) (settings_n Tps300) refl

value_again : (i : ℕ) → i < values_n → FindsAgain (λ j. index_number (stored_at j)) value_place i
unfolding stored seek
value_again = finds_again_lem _ value_place values_n refl

never_is : (w : Kept) → is_never w ≡ true → w ≡ None
never_is None e = refl
never_is (Some p) e = absurd (false≢true e)

-- the number after the letter, up to the colon
item_said : (n : ℕ) (text rest : List ℕ) → n < 1000 → said_by 3 0 (((decimal_of n ++ codes ":") ++ text) ++ rest) ≡ n
item_said n text rest h =
    ap (said_by 3 0) (append_assoc (decimal_of n ++ codes ":") text rest ∙ append_assoc (decimal_of n) (codes ":") (text ++ rest))
    ∙ said_after [] n 58 (text ++ rest) refl h

entry_by : (k : Series) (t : Item) (p : ℕ) (w : Kept) (rest : List ℕ) → item_right k t p w ≡ true → entry_said k (entry_line k (entry_of t p w) ++ rest) ≡ entry_of t p w
entry_by k Free p w rest e = absurd (false≢true e)
entry_by k (Setting i) p w rest e =
    let r = row_at k i in
    let line = entry_line k (entry_of (Setting i) p w) ++ rest in
    let (may, never) = both (settable k i p) (is_never w) e in
    let (there, settled) = both (ltb i (settings_n k)) (not (is_asked r) && in_range r p) may in
    let again = setting_again k i (ltb-true i (settings_n k) there) in
    let here : setting_place k (number_said line) ≡ Some i =
    ap (setting_place k) (item_said (setting_number r) (decimal_of p ++ codes "\n") rest again.0) ∙ again.1 in
    let ranged = (both (not (is_asked r)) (in_range r p) settled).1 in
    let said = number_said_lem (item_key k (Setting i)) p rest (omega (arith, range_byte k i p ranged)) in
    ap (λ (f : Option ℕ). setting_said k f line) here ∙ (λ j. entry_of (Setting i) (said j) (sym (never_is w never) j))
entry_by k (Stored i) p w rest e =
    let line = entry_line k (entry_of (Stored i) p w) ++ rest in
    let (there, settled) = both (ltb i values_n) (eqb p 0 && kept_right i w) e in
    let (nought, right) = both (eqb p 0) (kept_right i w) settled in
    let again = value_again i (ltb-true i values_n there) in
    let here : value_place (number_said line) ≡ Some i =
    ap value_place (item_said (index_number (stored_at i)) (characters_of i w ++ codes "\n") rest again.0) ∙ again.1 in
    let said = kept_said (item_key k (Stored i)) i w rest right in
    ap (λ (f : Option ℕ). stored_said k f line) here ∙ (λ j. entry_of (Stored i) (sym (eqb-true p 0 nought) j) (said j))

pub entry_said_lem : (k : Series) → Said (entry_lines k)
entry_said_lem k got i e rest h = entry_by k e.item e.former.parameter e.former.kept rest h

-- what may be held at its place, as a state has it

ranges_from : (k : Series) (ps got : List ℕ) (i : ℕ) → settings_n k ≡ i + length ps → in_ranges (drop i (rows_of k)) ps ≡ right_by (setting_lines k) got i ps
unfolding in_ranges right_by
ranges_from k [] got i h = rw (drop_of_length-le (rows_of k) {i = i} (omega arith))
ranges_from k (p ∷ ps) got i h =
    rw (drop-cons (rows_of k) i no_row (omega arith), add-one i, ranges_from k ps (got ++ (p ∷ [])) (suc i) (omega arith))

pub ranges_right : (k : Series) (settings : List ℕ) → length settings ≡ settings_n k → in_ranges (rows_of k) settings ≡ right_by (setting_lines k) [] 0 settings
ranges_right k settings h = ranges_from k settings [] 0 (omega arith)

pub values_right_lem : (got : List Kept) (i : ℕ) (vs : List Kept) → values_right i vs ≡ right_by value_lines got i vs
unfolding values_right right_by
values_right_lem got i [] = refl
values_right_lem got i (v ∷ vs) = ap (λ (t : Bool). kept_right i v && t) (values_right_lem (got ++ (v ∷ [])) (i + 1) vs)

-- settings and values that a state of the series may hold
pub record Named (k : Series) (settings : List ℕ) (values : List Kept) : Type 0 where
  pub settings_long : length settings ≡ settings_n k
  pub settings_right : right_by (setting_lines k) [] 0 settings ≡ true
  pub values_long : length values ≡ values_n
  pub values_right_lem : right_by value_lines [] 0 values ≡ true

-- entries that are each right by themselves, and no more than a state has

pub record Listed (k : Series) (entries : List Entry) : Type 0 where
  pub few : length entries ≤ entries_n
  pub each : right_by (entry_lines k) [] 0 entries ≡ true

module _ (k : Series) where
  each_from : (got : List Entry) (i : ℕ) (entries : List Entry) → right_by (entry_lines k) got i entries ≡ true → EachRight k (length entries) entries
  unfolding right_by
  each_from got i [] e j h = absurd (omega arith)
  each_from got i (x ∷ entries) e zero h = (both (entry_right k x) (right_by (entry_lines k) (got ++ (x ∷ [])) (i + 1) entries) e).0
  each_from got i (x ∷ entries) e (suc j) h =
      each_from (got ++ (x ∷ [])) (i + 1) entries (both (entry_right k x) (right_by (entry_lines k) (got ++ (x ∷ [])) (i + 1) entries) e).1 j (omega arith)

  right_from : (got : List Entry) (i : ℕ) (entries : List Entry) → EachRight k (length entries) entries → right_by (entry_lines k) got i entries ≡ true
  unfolding right_by
  right_from got i [] each = refl
  right_from got i (x ∷ entries) each = rw (each 0 (omega arith)) (right_from (got ++ (x ∷ [])) (i + 1) entries (λ j h. each (suc j) (omega arith)))

  pub each_right : (entries : List Entry) → right_by (entry_lines k) [] 0 entries ≡ true → EachRight k (length entries) entries
  each_right entries = each_from [] 0 entries

pub state_listed : (s : State) → is_state s ≡ true → Listed s.series (entries_of s)
state_listed s e =
    let p = state_parts entries_n s e in
    let n : length (entries_of s) ≡ s.count = length-take-le s.count s.undo (omega (arith, p.few, p.undo_long)) in
    let there : EachRight s.series (length (entries_of s)) (entries_of s) =
    λ i h. ap (entry_right s.series) (get_or-take s.count s.undo i blank_entry (omega arith)) ∙ entries_right s e i (omega arith) in
    record { few = omega (arith, p.few); each = right_from s.series [] 0 (entries_of s) there }
