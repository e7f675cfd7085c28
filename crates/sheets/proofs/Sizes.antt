-- The length of a sheet in either form: its least and its greatest, by the tables of its series.
use Prim.Native.Nat.{ℕ, zero, suc, ◌+◌, ◌*◌, ◌/◌, ◌≤◌, ◌<◌}
use mathlib.Core.Path.{◌≡◌, refl, ap, ◌∙◌}
use mathlib.Core.Bool.{true, false, cond, not, false≢true}
use mathlib.Core.List.{List, [], ◌∷◌, ◌++◌, map}
use native.Mathlib.Omega.{arith}
use borrow.Author.Tests.{lt-ltb, le-ltb, ltb-false}
use lib.Dec.{ltb}
use lib.ListN.{length, replicate, length-append}
use Rattle.figures.specs.Bytes.{among, every}
use Rattle.figures.specs.Decimal.{digits_of, digits_nBy, digits_n, number_from}
use Rattle.figures.proofs.Tests.{both, by_test}
use Rattle.instrument.specs.Settings.{rows100, rows300, row_at, is_asked, held, in_range, in_ranges, settings_n}
use Rattle.instrument.specs.Settings as rows
use Rattle.instrument.specs.Values.{stored, is_put, values_n}
use Rattle.state.specs.Entries.{entries_n, entry_of, with_entries, factory_state, is_never, all_blank, values_right, settable, entry_right}
use Rattle.state.specs.Entries.{right_back, is_state}
use Rattle.instrument.specs.declared.settings.Row.{Row}
use Rattle.instrument.specs.declared.settings.Series.{Series}
use Rattle.instrument.specs.declared.settings.Series.TheVariants.{Tps100, Tps300}
use Rattle.instrument.specs.Values.{Kept, put_of}
use Rattle.state.specs.declared.entries.Item.{Item}
use Rattle.state.specs.declared.entries.Item.TheVariants as item
use Rattle.state.specs.declared.entries.Entry.{Entry}
use Rattle.state.specs.declared.entries.State.{State}
use Rattle.instrument.proofs.Ranges.{range_high, rows_high, range_byte}
use Rattle.sheets.specs.Lines.{LinesOf, lines_by}
use Rattle.sheets.specs.Sheet.{series_line, setting_key, setting_lines, characters_n, value_key, value_lines, sheet_of}
use Rattle.sheets.specs.Undo.{form_line, count_line, entry_line, entry_lines, entries_of, list_text, undo_text, sheet_as}
use Rattle.sheets.specs.FirstWrong.{is_lined}
use Rattle.sheets.specs.Keeping.{sheet_most}
use Rattle.sheets.specs.declared.forms.Form.{Form}
use Rattle.sheets.specs.declared.forms.Form.TheVariants.{One, Two}
use Rattle.sheets.proofs.Keyed.{key_held, key_most}
use Rattle.sheets.proofs.Linewise.{short_decimal, setting_long, kept_long}
use Rattle.sheets.proofs.Partwise.{right_by}
use Rattle.sheets.proofs.Says.{Listed}
use Rattle.sheets.proofs.Lined.{lined_named, lined_listed, state_lined}
use Rattle.sheets.proofs.UndoWrites.{sheet_long, count_long, setting_line_long, stored_line_long}
use Rattle.std.specs.Prelude.{Some, None}

-- a size of each thing, added up
unfoldable pub total_of : {A : Type 0} → (A → ℕ) → List A → ℕ
total_of size [] = 0
total_of size (x ∷ xs) = size x + total_of size xs

-- and of each of the n places from i on
unfoldable pub total_from : (ℕ → ℕ) → ℕ → ℕ → ℕ
total_from size i zero = 0
total_from size i (suc n) = size i + total_from size (i + 1) n

-- lines whose length is a size of the place and k times one of what is held there
lines_size : {A : Type 0} (l : LinesOf A) (here : ℕ → ℕ) (k : ℕ) (own : A → ℕ) → ((i : ℕ) (x : A) → length (l.write i x) ≡ here i + k * own x)
    → (i : ℕ) (xs : List A) → length (lines_by l i xs) ≡ total_from here i (length xs) + k * total_of own xs
unfolding lines_by total_of total_from
lines_size l here k own long i [] = omega arith
lines_size l here k own long i (x ∷ xs) =
    omega (arith, length-append (l.write i x) (lines_by l (i + 1) xs), long i x, lines_size l here k own long (i + 1) xs)

-- how many values are put
abbrev pub puts_n : List Kept → ℕ
puts_n = total_of (λ (v : Kept). cond (is_put v) 1 0)

put_few : (w : Kept) → cond (is_put w) 1 0 ≤ 1
put_few None = omega arith
put_few (Some p) = omega arith

puts_few : (vs : List Kept) → puts_n vs ≤ length vs
unfolding total_of
puts_few [] = omega arith
puts_few (v ∷ vs) = omega (arith, put_few v, puts_few vs)

-- a setting's line: its key, LF, and the digits of its parameter, one at least and at most those of the highest

abbrev pub setting_here : Series → ℕ → ℕ
setting_here k i = length (setting_key (row_at k i)) + 1

abbrev pub setting_most : Series → ℕ → ℕ
setting_most k i = setting_here k i + digits_n (row_at k i).highest

digits_some : (n : ℕ) → n < 1000 → 1 ≤ digits_n n
unfolding digits_nBy
digits_some n h =
    by_test (ltb n 10) (λ a. rw a (omega arith))
    (λ a. by_test (ltb (n / 10) 10) (λ b. rw (a, b) (omega arith)) (λ b. rw (a, b, lt-ltb (n / 10 / 10) 10 (omega arith)) (omega arith)))

-- more digits only where the number is more
digits_up : (p q : ℕ) → p ≤ q → q < 1000 → digits_n p ≤ digits_n q
unfolding digits_nBy
digits_up p q h small =
    by_test (ltb p 10) (λ a. omega (arith, digits_some q small, one a))
    (λ a. by_test (ltb (p / 10) 10) (λ b. omega (arith, two a b, more_two a)) (λ b. omega (arith, (short_decimal p (omega arith)).0, more_three b)))
  where
    one : ltb p 10 ≡ true → digits_n p ≡ 1
    one a = rw a

    two : ltb p 10 ≡ false → ltb (p / 10) 10 ≡ true → digits_n p ≡ 2
    two a b = rw (a, b)

    more_two : ltb p 10 ≡ false → 2 ≤ digits_n q
    more_two a =
        let c : ltb q 10 ≡ false = le-ltb q 10 (omega (arith, ltb-false p 10 a)) in
        by_test (ltb (q / 10) 10) (λ b. rw (c, b) (omega arith)) (λ b. rw (c, b, lt-ltb (q / 10 / 10) 10 (omega arith)) (omega arith))

    more_three : ltb (p / 10) 10 ≡ false → 3 ≤ digits_n q
    more_three b =
        let hundred : 100 ≤ p = omega (arith, ltb-false (p / 10) 10 b) in
        rw (le-ltb q 10 (omega arith), le-ltb (q / 10) 10 (omega arith), lt-ltb (q / 10 / 10) 10 (omega arith)) (omega arith)

-- the bounds of a setting's line
setting_sized : (k : Series) (i p : ℕ) → in_range (row_at k i) p ≡ true
    → (setting_here k i + 1 ≤ length ((setting_lines k).write i p)) × (length ((setting_lines k).write i p) ≤ setting_most k i)
setting_sized k i p e =
    let small = range_byte k i p e in
    let high = rows_high k i in
    let up = digits_up p (row_at k i).highest (range_high (row_at k i) p e) (omega arith) in
    (omega (arith, setting_long k i p, digits_some p (omega arith)), omega (arith, setting_long k i p, up))

-- the lines of things whose lengths have bounds by their places
lines_between : {A : Type 0} (l : LinesOf A) (least most : ℕ → ℕ)
    → ((got : List A) (i : ℕ) (x : A) → l.may got i x ≡ true → (least i ≤ length (l.write i x)) × (length (l.write i x) ≤ most i))
    → (got : List A) (i : ℕ) (xs : List A) → right_by l got i xs ≡ true
    → (total_from least i (length xs) ≤ length (lines_by l i xs)) × (length (lines_by l i xs) ≤ total_from most i (length xs))
unfolding lines_by right_by total_from
lines_between l least most sized got i [] e = (omega arith, omega arith)
lines_between l least most sized got i (x ∷ xs) e =
    let parts = both (l.may got i x) (right_by l (got ++ (x ∷ [])) (i + 1) xs) e in
    let here = sized got i x parts.0 in
    let rest = lines_between l least most sized (got ++ (x ∷ [])) (i + 1) xs parts.1 in
    let all = length-append (l.write i x) (lines_by l (i + 1) xs) in
    (omega (arith, all, here.0, rest.0), omega (arith, all, here.1, rest.1))

-- a value's that was never put
abbrev pub value_here : ℕ → ℕ
value_here i = length (value_key i) + 1

-- what the tables come to: all settings' lines with the fewest digits and with the most, and all values' with none put

abbrev pub settings_least : Series → ℕ
settings_least k = total_from (λ i. setting_here k i + 1) 0 (settings_n k)

abbrev pub settings_greatest : Series → ℕ
settings_greatest k = total_from (setting_most k) 0 (settings_n k)

abbrev pub values_least : ℕ
values_least = total_from value_here 0 values_n

-- the least sheet of a series, and the greatest
abbrev pub sheet_least : Series → ℕ
sheet_least k = length (series_line k) + settings_least k + values_least

abbrev pub sheet_greatest : Series → ℕ
sheet_greatest k = length (series_line k) + settings_greatest k + values_least + characters_n * values_n

-- "187 to 352 bytes"
pub sizes_100 : (sheet_least Tps100 ≡ 187) × (sheet_greatest Tps100 ≡ 352)
unfolding total_from rows100 stored digits_of digits_nBy
sizes_100 = (refl, refl)

-- and of a TPS300, whose greatest is the longest of all
pub sizes_300 : (sheet_least Tps300 ≡ 263) × (sheet_greatest Tps300 ≡ sheet_most One)
unfolding total_from rows300 stored digits_of digits_nBy
sizes_300 = (refl, refl)

pub series_long : (k : Series) → length (series_line k) ≡ 14
series_long Tps100 = refl
series_long Tps300 = refl

-- a sheet by the values that are put
sheet_between : (s : State) → is_lined s ≡ true →
    let k = s.series in
    let put = characters_n * puts_n s.values in
    (sheet_least k + put ≤ length (sheet_of s)) × (length (sheet_of s) ≤ length (series_line k) + settings_greatest k + values_least + put)
unfolding sheet_of
sheet_between s e =
    let k = s.series in
    let n = lined_named s e in
    let g = lines_by (setting_lines k) 0 (held k s.settings) in
    let v = lines_by value_lines 0 s.values in
    let settings = lines_between (setting_lines k) (λ i. setting_here k i + 1) (setting_most k) (λ got. setting_sized k) [] 0
    (held k s.settings) n.settings_right in
    let few : settings_least k ≤ length g = rw n.settings_long at settings.0 in
    let many : length g ≤ settings_greatest k = rw n.settings_long at settings.1 in
    let values = lines_size value_lines value_here characters_n (λ (x : Kept). cond (is_put x) 1 0) (λ i x. kept_long i x) 0 s.values in
    let put : length v ≡ values_least + characters_n * puts_n s.values = rw n.values_long at values in
    let all = length-append (series_line k) (g ++ v) in
    let both = length-append g v in
    (omega (arith, all, both, few, put), omega (arith, all, both, many, put))

lined_least : (s : State) → is_lined s ≡ true → sheet_least s.series ≤ length (sheet_of s)
lined_least s e = omega (arith, (sheet_between s e).0)

lined_most : (s : State) → is_lined s ≡ true → length (sheet_of s) ≤ sheet_greatest s.series
lined_most s e = omega (arith, (sheet_between s e).1, puts_few s.values, (lined_named s e).values_long)

pub sheet_least_lem : (s : State) → is_state s ≡ true → sheet_least s.series ≤ length (sheet_of s)
sheet_least_lem s e = lined_least s (state_lined s e)

pub sheet_most_lem : (s : State) → is_state s ≡ true → length (sheet_of s) ≤ sheet_greatest s.series
sheet_most_lem s e = lined_most s (state_lined s e)

-- a TPS100's has 187 bytes, and 15 more for each value that is put, whatever its settings
pub sheet_size : (s : State) → is_state s ≡ true → s.series ≡ Tps100 → length (sheet_of s) ≡ 187 + 15 * puts_n s.values
sheet_size s e is =
    let between = sheet_between s (state_lined s e) in
    omega (arith, between.0, between.1, ap sheet_least is, ap sheet_greatest is, sizes_100)

-- the undo list

-- the longest line of an entry, a value's that was put
abbrev pub entry_most : ℕ
entry_most = 22

entry_sized : (k : Series) (e : Entry) → entry_right k e ≡ true → length (entry_line k e) ≤ entry_most
entry_sized k e r = by e.item refl
  where
    by : (x : Item) → e.item ≡ x → length (entry_line k e) ≤ entry_most
    by item.Free is = absurd (false≢true (rw is at r))
    by (item.Setting i) is =
        let p = e.former.parameter in
        let settled = (both (settable k i p) (is_never e.former.kept) (rw is at r)).0 in
        let ranged = (both (not (is_asked (row_at k i))) (in_range (row_at k i) p) (both (ltb i (settings_n k)) _ settled).1).1 in
        omega (arith, setting_line_long k e i is, key_most (key_held k i), (short_decimal p (omega (arith, range_byte k i p ranged))).0)
    by (item.Stored i) is = omega (arith, stored_line_long k e i r is, put_few e.former.kept)

total_same : (m i n : ℕ) → total_from (λ j. m) i n ≡ m * n
unfolding total_from
total_same m i zero = omega arith
total_same m i (suc n) = omega (arith, total_same m (i + 1) n)

-- a list's text: with none and with all
abbrev pub list_least : ℕ
list_least = length (count_line 0)

abbrev pub list_greatest : ℕ
list_greatest = length (count_line entries_n) + entry_most * entries_n

list_between : (k : Series) (entries : List Entry) → Listed k entries → (list_least ≤ length (list_text k entries)) × (length (list_text k entries) ≤ list_greatest)
unfolding digits_nBy
list_between k entries l =
    let n = length entries in
    let lines = lines_between (entry_lines k) (λ i. 0) (λ i. entry_most) (λ got i e r. (omega arith, entry_sized k e r)) [] 0 entries l.each in
    let all = length-append (count_line n) (lines_by (entry_lines k) 0 entries) in
    let some = digits_some n (omega (arith, l.few)) in
    let up = digits_up n entries_n l.few (omega arith) in (
      omega (arith, all, count_long 0, count_long n, some, nought),
      omega (arith, all, count_long entries_n, count_long n, up, lines.1, total_same entry_most 0 n, l.few),
    )
  where
    nought : digits_n 0 ≡ 1
    nought = refl

-- either form's
abbrev pub least_as : Form → Series → ℕ
least_as One k = sheet_least k
least_as Two k = length (form_line Two) + sheet_least k + list_least

abbrev pub greatest_as : Form → Series → ℕ
greatest_as One k = sheet_greatest k
greatest_as Two k = length (form_line Two) + sheet_greatest k + list_greatest

-- "187 to 352 bytes" grow to 201 and 1,775, and those of a TPS300 to 277 and 1,864
pub sizes_two_100 : (least_as Two Tps100 ≡ 201) × (greatest_as Two Tps100 ≡ 1775)
unfolding digits_of digits_nBy
sizes_two_100 = (omega (arith, sizes_100), omega (arith, sizes_100))

pub sizes_two_300 : (least_as Two Tps300 ≡ 277) × (greatest_as Two Tps300 ≡ sheet_most Two)
unfolding digits_of digits_nBy
sizes_two_300 = (omega (arith, sizes_300), omega (arith, sizes_300))

lined_between : (f : Form) (s : State) → is_lined s ≡ true → (least_as f s.series ≤ length (sheet_as f s)) × (length (sheet_as f s) ≤ greatest_as f s.series)
unfolding sheet_as undo_text
lined_between One s e = (lined_least s e, lined_most s e)
lined_between Two s e =
    let list = list_between s.series (entries_of s) (lined_listed s e) in
    (omega (arith, sheet_long Two s, lined_least s e, list.0), omega (arith, sheet_long Two s, lined_most s e, list.1))

pub least_as_lem : (f : Form) (s : State) → is_state s ≡ true → least_as f s.series ≤ length (sheet_as f s)
least_as_lem f s e = (lined_between f s (state_lined s e)).0

pub most_as : (f : Form) (s : State) → is_state s ≡ true → length (sheet_as f s) ≤ greatest_as f s.series
most_as f s e = (lined_between f s (state_lined s e)).1

greatest_below : (f : Form) (k : Series) → greatest_as f k ≤ sheet_most f
greatest_below One Tps100 = omega (arith, sizes_100)
greatest_below One Tps300 = omega (arith, sizes_300)
greatest_below Two Tps100 = omega (arith, sizes_two_100)
greatest_below Two Tps300 = omega (arith, sizes_two_300)

pub most_two : (f : Form) → sheet_most f ≤ sheet_most Two
most_two One = omega arith
most_two Two = omega arith

pub lined_below : (f : Form) (s : State) → is_lined s ≡ true → length (sheet_as f s) ≤ sheet_most f
lined_below f s e = omega (arith, (lined_between f s e).1, greatest_below f s.series)

pub sheet_below : (f : Form) (s : State) → is_state s ≡ true → length (sheet_as f s) ≤ sheet_most f
sheet_below f s e = lined_below f s (state_lined s e)

-- and there are sheets of these lengths: the factory's, and one of the highest parameters with each value put and as many entries, each of a value that was put

pub least_reached : (k : Series) → length (sheet_of (factory_state k)) ≡ sheet_least k
unfolding sheet_of lines_by total_from rows100 rows300 stored digits_of digits_nBy
least_reached Tps100 = refl
least_reached Tps300 = refl

abbrev held_as : ℕ → Kept
held_as u = put_of u 0 (replicate 8 48)

abbrev pub fullest : Series → State
fullest k =
    let text = held_as 46 in
    let angle = held_as 50 in
    let long = held_as 48 in
    with_entries k (map (λ (r : Row). r.highest) (rows.held_rows k)) (text ∷ text ∷ angle ∷ angle ∷ replicate 7 long)
    (replicate entries_n (entry_of (item.Stored 0) 0 text))

pub fullest_state : (k : Series) → is_state (fullest k) ≡ true
unfolding rows100 rows300 stored in_ranges values_right all_blank right_back among every number_from
fullest_state Tps100 = refl
fullest_state Tps300 = refl

pub greatest_reached : (k : Series) → length (sheet_of (fullest k)) ≡ sheet_greatest k
unfolding sheet_of lines_by total_from rows100 rows300 stored digits_of digits_nBy
greatest_reached Tps100 = refl
greatest_reached Tps300 = refl

pub least_reached_as : (f : Form) (k : Series) → length (sheet_as f (factory_state k)) ≡ least_as f k
unfolding sheet_as undo_text lines_by digits_of digits_nBy
least_reached_as One k = least_reached k
least_reached_as Two k = sheet_long Two (factory_state k) ∙ ap (λ n. length (form_line Two) + n + list_least) (least_reached k)

pub greatest_reached_as : (f : Form) (k : Series) → length (sheet_as f (fullest k)) ≡ greatest_as f k
unfolding sheet_as undo_text lines_by stored digits_of digits_nBy
greatest_reached_as One k = greatest_reached k
greatest_reached_as Two k = sheet_long Two (fullest k) ∙ ap (λ n. length (form_line Two) + n + list_greatest) (greatest_reached k)
