-- Each state's image gives the state back, so each has one image and each image is of one state.
use Prim.Native.Nat.{ℕ, zero, suc, ◌+◌, ◌-◌, ◌*◌, ◌/◌, ◌%◌, ◌<◌, ◌≤◌}
use mathlib.Core.Path.{◌≡◌, refl, sym, ap, ◌∙◌}
use mathlib.Core.Bool.{true, not, ◌&&◌, false≢true}
use mathlib.Core.List.{List, [], ◌∷◌, ◌++◌}
use mathlib.Core.Logic.{⊎_elim}
use native.Mathlib.Nat.{sub-zero, eq-or-lt_of_le}
use native.Mathlib.Omega.{arith}
use borrow.Author.Tests.{eq-eqb, eqb-true, ltb-true, ltb-false}
use lib.Dec.{eqb, ltb}
use lib.ListN.{length, get_or, set, take, drop, replicate, length-append, length-replicate, replicate-append-replicate, take-append-drop}
use lib.Seq.{take_all, take_at, drop_at, drop-drop, get_or-drop, length-take-le}
use Rattle.figures.specs.Bytes.{laid, same_bytes}
use Rattle.figures.proofs.Bytes.{same_refl, same_true, laid_fits, laid_cut}
use Rattle.figures.proofs.Tests.{both, by_test}
use Rattle.instrument.specs.Settings.{rows100, rows300, settings_n, settings_most, no_row, row_at, is_asked, rows_of, held, padded, held_rows, factory_settings, in_range, in_ranges}
use Rattle.state.specs.Entries.{factory_state, entries_n, entry_of, blank_entry, values_right, value_held, is_never, Contents, contents_of, contents_right, contents_back, may_go_back, right_back, is_state}
use Rattle.instrument.specs.Values.{Kept, put_of, values_n, is_put, kept_right}
use Rattle.state.specs.Image.{form_of, value_n, entry_n, values_at, count_at, entries_at, rest_n, image_n, kept_bytes, entry_bytes, values_bytes, entries_bytes, rest_of, image_of, encoded_in}
use Rattle.state.specs.Image.{kept_in, entry_in, values_in, entries_in, series_in, state_from, state_as_of, state_as, state_in, is_image}
use Rattle.instrument.specs.declared.settings.Series.{Series}
use Rattle.instrument.specs.declared.settings.Series.TheVariants.{Tps100, Tps300}
use Rattle.instrument.specs.declared.settings.Row.{Row}
use Rattle.std.specs.Prelude.{Some, None}
use Rattle.state.specs.declared.entries.Item.{Item}
use Rattle.state.specs.declared.entries.Item.TheVariants.{Free, Setting, Stored}
use Rattle.state.specs.declared.entries.Entry.{Entry}
use Rattle.state.specs.declared.entries.Former.{Former}
use Rattle.state.specs.declared.entries.State.{State}
use Rattle.instrument.proofs.Kept.{eight_whole, kept_parts}
use Rattle.instrument.proofs.Ranges.{settings_100, settings_300, settings_few, held_rows_long, ranges_long, range_high}
use Rattle.state.proofs.Steps.{StateParts, state_parts, back_now, back_may, back_newest, blank_at, values_set, none_state}
use Rattle.state.proofs.Rows.{flat_length, flat_zeros, rows_flat}

-- a row gives back what it was made of

-- what is stored may be read again: its characters are eight
abbrev pub Back : Kept → Type 0
Back k = kept_in (kept_bytes k) ≡ k

pub kept_long : (k : Kept) → length (kept_bytes k) ≡ 11
unfolding kept_bytes
kept_long None = refl
kept_long (Some p) = refl

never_back : Back None
unfolding kept_bytes
never_back = refl

pub kept_back : (place : ℕ) (k : Kept) → kept_right place k ≡ true → Back k
unfolding kept_bytes
kept_back place None e = refl
kept_back place (Some p) e = ap (put_of p.unit p.minus) (eight_whole p.eight (kept_parts place p e).long)

pub entry_long : (e : Entry) → length (entry_bytes e) ≡ 14
entry_long e = by e.item
  where
    long : suc (suc (suc (length (kept_bytes e.former.kept)))) ≡ 14
    long = ap (λ (n : ℕ). suc (suc (suc n))) (kept_long e.former.kept)

    by : (i : Item) → length (entry_bytes (entry_of i e.former.parameter e.former.kept)) ≡ 14
    by Free = long
    by (Setting i) = long
    by (Stored i) = long

pub entry_back : (e : Entry) → Back e.former.kept → entry_in (entry_bytes e) ≡ e
entry_back e h = by e.item
  where
    back : kept_in (take 11 (kept_bytes e.former.kept)) ≡ e.former.kept
    back = ap kept_in (take_all 11 (kept_bytes e.former.kept) (omega (arith, kept_long e.former.kept))) ∙ h

    by : (i : Item) → entry_in (entry_bytes (entry_of i e.former.parameter e.former.kept)) ≡ entry_of i e.former.parameter e.former.kept
    by Free = ap (entry_of Free e.former.parameter) back
    by (Setting i) = ap (entry_of (Setting i) e.former.parameter) back
    by (Stored i) = ap (entry_of (Stored i) e.former.parameter) back

-- a value that was put has eight characters
abbrev pub Eights : Kept → Type 0
Eights None = Unit {0}
Eights (Some p) = length p.eight ≡ 8

-- so it, an entry and a state are given back by their bytes, whether they are any state's or not
pub kept_whole : (k : Kept) → Eights k → (length (kept_bytes k) ≡ 11) × (kept_in (kept_bytes k) ≡ k)
unfolding kept_bytes
kept_whole None h = (refl, refl)
kept_whole (Some p) h = (refl, ap (put_of p.unit p.minus) (eight_whole p.eight h))

pub entry_whole : (e : Entry) → Eights e.former.kept → (length (entry_bytes e) ≡ 14) × (entry_in (entry_bytes e) ≡ e)
entry_whole e h = (entry_long e, entry_back e (kept_whole e.former.kept h).1)

-- each value of a state may be read again, and each entry that stands

values_back_lem : (k : ℕ) (vs : List Kept) → values_right k vs ≡ true → (i : ℕ) → i < length vs → Back (get_or vs i None)
unfolding values_right
values_back_lem k [] e i h = absurd (omega arith)
values_back_lem k (v ∷ vs) e zero h = kept_back k v (both (kept_right k v) (values_right (k + 1) vs) e).0
values_back_lem k (v ∷ vs) e (suc i) h = values_back_lem (k + 1) vs (both (kept_right k v) (values_right (k + 1) vs) e).1 i (omega arith)

-- the newest of them: of a setting it has no value, and a value that it gives back is right there
newest_back : (c : Contents) (t : Item) (f : Former) → contents_right c ≡ true → may_go_back c t f ≡ true
    → contents_right (contents_back c (record { item = t; former = f })) ≡ true → Back f.kept
newest_back c Free f now may next = absurd (false≢true may)
newest_back c (Setting i) f now may next =
    by f.kept (both (ltb i (settings_n c.series) && not (is_asked (row_at c.series i))) (is_never f.kept) may).1
  where
    by : (k : Kept) → is_never k ≡ true → Back k
    by None e = never_back
    by (Some p) e = absurd (false≢true e)
newest_back c (Stored i) f now may next =
    let l = c.values in
    let put = is_put (value_held l i) in
    let there = (both (ltb i values_n) put (both (ltb i values_n && put) (eqb f.parameter 0) may).0).0 in
    let held = (both (in_ranges (held_rows c.series) c.settings) (eqb (length l) values_n && values_right 0 l) now).1 in
    let (long, right) = both (eqb (length l) values_n) (values_right 0 l) held in
    let is = values_set 0 l i f.kept right (omega (arith, ltb-true i values_n there, eqb-true (length l) values_n long)) in
    let m = set l i f.kept in
    let after = (both (eqb (length m) values_n) (values_right 0 m) (both (in_ranges (held_rows c.series) c.settings) (eqb (length m) values_n && values_right 0 m) next).1).1 in
    kept_back (0 + i) f.kept (sym is ∙ after)

entries_back_lem : (n : ℕ) (c : Contents) (u : List Entry) → right_back n c u ≡ true → (i : ℕ) → i < n → Back (get_or u i blank_entry).former.kept
entries_back_lem zero c u e i h = absurd (omega arith)
entries_back_lem (suc n) c u e i h =
    let x = get_or u n blank_entry in
    let next = contents_back c x in
    let later = back_newest n c u e in
    let below : i ≤ n = omega arith in
    ⊎_elim
    (λ last.
    let here : Back x.former.kept = newest_back c x.item x.former (back_now (suc n) c u e) (back_may n c u e) (back_now n next u later) in
    rw (← last) at here)
    (λ less. entries_back_lem n next u later i less)
    (eq-or-lt_of_le below)

-- how long the parts are

pub length_held : (k : Series) (settings : List ℕ) → length settings ≡ settings_most → length (held k settings) ≡ settings_n k
length_held k settings h = length-take-le (settings_n k) settings (omega (arith, settings_few k))

pub length_values : (values : List Kept) → length values ≡ values_n → length (values_bytes values) ≡ count_at
length_values values h = flat_length kept_bytes 11 kept_long values ∙ rw h

pub length_entries : (undo : List Entry) → length undo ≡ entries_n → length (entries_bytes undo) ≡ entries_n * 14
length_entries undo h = flat_length entry_bytes 14 entry_long undo ∙ rw h

-- as many settings as there is room for are those of the series
pub held_laid : (k : Series) (s room g : List ℕ) → length s ≡ settings_most → length room + 1 ≡ values_at k → g ≡ laid s room → g ≡ held k s
held_laid k s room g hs hr e =
    let n : length room ≡ settings_n k = omega arith in
    e ∙ laid_cut s room (omega (arith, settings_few k)) ∙ ap (λ (m : ℕ). take m s) n

-- what of a state its image rests on

pub record Shaped (s : State) : Type 0 where
  pub settings_long : length s.settings ≡ settings_most
  pub settings_held : padded (held s.series s.settings) ≡ s.settings
  pub values_long : length s.values ≡ values_n
  pub undo_long : length s.undo ≡ entries_n
  pub few : s.count < 65536

-- what stands past the series' own settings is nought

pub drop_replicate : {A : Type 0} (n m : ℕ) (a : A) → drop n (replicate m a) ≡ replicate (m - n) a
drop_replicate zero m a = rw (sub-zero m)
drop_replicate (suc n) zero a = let q : 0 - suc n ≡ 0 = omega arith in rw q
drop_replicate (suc n) (suc m) a = let q : suc m - suc n ≡ m - n = omega arith in rw q (drop_replicate n m a)

pub padded_is : (k : Series) (ps : List ℕ) → length ps ≡ settings_n k → padded ps ≡ ps ++ replicate (settings_most - settings_n k) 0
padded_is k ps long =
    let blanks : List ℕ = replicate settings_most 0 in
    let fits : length ps ≤ length blanks = omega (arith, settings_few k, length-replicate {A = ℕ} settings_most 0) in
    laid_fits ps blanks fits ∙ rw (long, drop_replicate {A = ℕ} (settings_n k) settings_most 0)

blank_held : (p : ℕ) → in_range no_row p ≡ true → p ≡ 0
blank_held p e = omega (arith, range_high no_row p e)

blanks_held : (n : ℕ) (ps : List ℕ) → in_ranges (replicate n no_row) ps ≡ true → ps ≡ replicate n 0
unfolding in_ranges
blanks_held zero [] e = refl
blanks_held zero (p ∷ ps) e = absurd (false≢true e)
blanks_held (suc n) [] e = absurd (false≢true e)
blanks_held (suc n) (p ∷ ps) e =
    let (here, later) = both (in_range no_row p) (in_ranges (replicate n no_row) ps) e in
    λ i. blank_held p here i ∷ blanks_held n ps later i

pub ranges_split : (rs more : List Row) (ps : List ℕ) → in_ranges (rs ++ more) ps ≡ true
    → (in_ranges rs (take (length rs) ps) ≡ true) × (in_ranges more (drop (length rs) ps) ≡ true)
unfolding in_ranges
ranges_split [] more ps e = (refl, e)
ranges_split (r ∷ rs) more [] e = absurd (false≢true e)
ranges_split (r ∷ rs) more (p ∷ ps) e =
    let (here, later) = both (in_range r p) (in_ranges (rs ++ more) ps) e in
    let rest = ranges_split rs more ps later in
    (rw here rest.0, rest.1)

module _ (k : Series) (ps : List ℕ) (e : in_ranges (held_rows k) ps ≡ true) where
  parted : (in_ranges (rows_of k) (held k ps) ≡ true) × (in_ranges (replicate (settings_most - settings_n k) no_row) (drop (settings_n k) ps) ≡ true)
  parted = ranges_split (rows_of k) (replicate (settings_most - settings_n k) no_row) ps e

  -- the series' own are in their ranges
  pub held_right : in_ranges (rows_of k) (held k ps) ≡ true
  held_right = parted.0

  pub held_long : length (held k ps) ≡ settings_n k
  held_long = ranges_long (rows_of k) (held k ps) held_right

  pub held_back : padded (held k ps) ≡ ps
  held_back =
      let past = blanks_held (settings_most - settings_n k) (drop (settings_n k) ps) parted.1 in
      padded_is k (held k ps) held_long ∙ ap (λ (t : List ℕ). held k ps ++ t) (sym past) ∙ take-append-drop (settings_n k) ps

pub shaped : (s : State) → is_state s ≡ true → Shaped s
shaped s e =
    let p = state_parts entries_n s e in
    let ranges = in_ranges (held_rows s.series) s.settings in
    let long = eqb (length s.values) values_n in
    let (settings, values) = both ranges (long && values_right 0 s.values) (back_now s.count (contents_of s) s.undo p.back) in
    record {
      settings_long = ranges_long (held_rows s.series) s.settings settings ∙ held_rows_long s.series;
      settings_held = held_back s.series s.settings settings;
      values_long = eqb-true (length s.values) values_n (both long (values_right 0 s.values) values).0;
      undo_long = p.undo_long;
      few = omega (arith, p.few);
    }

-- parameters as many as the series has, padded: held again, and right where they are

pub padded_held : (k : Series) (ps : List ℕ) → length ps ≡ settings_n k → held k (padded ps) ≡ ps
padded_held k ps long = ap (held k) (padded_is k ps long) ∙ take_at ps (replicate (settings_most - settings_n k) 0) (settings_n k) long

blanks_right : (n : ℕ) → in_ranges (replicate n no_row) (replicate n 0) ≡ true
unfolding in_ranges
blanks_right zero = refl
blanks_right (suc n) = blanks_right n

ranges_join : (rs more : List Row) (ps qs : List ℕ) → in_ranges rs ps ≡ true → in_ranges more qs ≡ true → in_ranges (rs ++ more) (ps ++ qs) ≡ true
unfolding in_ranges
ranges_join [] more [] qs e f = f
ranges_join [] more (p ∷ ps) qs e f = absurd (false≢true e)
ranges_join (r ∷ rs) more [] qs e f = absurd (false≢true e)
ranges_join (r ∷ rs) more (p ∷ ps) qs e f =
    let (here, later) = both (in_range r p) (in_ranges rs ps) e in
    rw here (ranges_join rs more ps qs later f)

pub padded_right : (k : Series) (ps : List ℕ) → in_ranges (rows_of k) ps ≡ true → in_ranges (held_rows k) (padded ps) ≡ true
padded_right k ps e =
    let n = settings_most - settings_n k in
    ap (in_ranges (held_rows k)) (padded_is k ps (ranges_long (rows_of k) ps e))
    ∙ ranges_join (rows_of k) (replicate n no_row) ps (replicate n 0) e (blanks_right n)

-- the parts of the rest, by their offsets

module _ (h l : ℕ) (v e : List ℕ) (lv : length v ≡ count_at) (le : length e ≡ entries_n * 14) where
  abbrev rest : List ℕ
  rest = v ++ (h ∷ l ∷ e)

  at_count : drop count_at rest ≡ h ∷ l ∷ e
  at_count = drop_at v (h ∷ l ∷ e) count_at lv

  values_part : take count_at rest ≡ v
  values_part = take_at v (h ∷ l ∷ e) count_at lv

  entries_part : take (entries_n * 14) (drop entries_at rest) ≡ e
  entries_part = ap (take (entries_n * 14)) (sym (drop-drop 2 count_at rest) ∙ ap (drop 2) at_count) ∙ take_all (entries_n * 14) e (omega arith)

  count_part : get_or rest count_at 0 * 256 + get_or rest (count_at + 1) 0 ≡ h * 256 + l
  count_part =
      let high : get_or rest count_at 0 ≡ h = sym (get_or-drop count_at rest 0 0) ∙ ap (λ (t : List ℕ). get_or t 0 0) at_count in
      let low : get_or rest (count_at + 1) 0 ≡ l = sym (get_or-drop count_at rest 1 0) ∙ ap (λ (t : List ℕ). get_or t 1 0) at_count in
      rw (high, low)

  rest_long : length rest ≡ rest_n
  rest_long = omega (arith, length-append v (h ∷ l ∷ e))

series_said : (k : Series) (l : List ℕ) → series_in (form_of k ∷ l) ≡ k
series_said Tps100 l = refl
series_said Tps300 l = refl

-- the length of an image of each series

pub image_100 : image_n Tps100 ≡ 20 + rest_n
image_100 = ap (λ (n : ℕ). 1 + n + rest_n) settings_100

pub image_300 : image_n Tps300 ≡ 31 + rest_n
image_300 = ap (λ (n : ℕ). 1 + n + rest_n) settings_300

-- a room of that length is filled with the image
pub encoded_fits : (s : State) (room : List ℕ) → length room ≡ image_n s.series → encoded_in s room ≡ image_of s
encoded_fits s room long = rw (eq-eqb (length room) (image_n s.series) long)

-- a state is read from its image

-- the values and the entries are those that their bytes say
pub imaged : (s : State) → Shaped s → (values : List Kept) (undo : List Entry)
    → values_in (values_bytes s.values) ≡ values → entries_in (entries_bytes s.undo) ≡ undo
    → (length (image_of s) ≡ image_n s.series)
    × (state_in (image_of s) ≡ record { series = s.series; settings = s.settings; values = values; undo = undo; count = s.count })
unfolding image_of state_as_of
imaged s hs values undo rv re =
    let k = s.series in
    let g = held k s.settings in
    let v = values_bytes s.values in
    let e = entries_bytes s.undo in
    let h = s.count / 256 % 256 in
    let l = s.count % 256 in
    let r = rest_of s.values s.count s.undo in
    let lg = length_held k s.settings hs.settings_long in
    let lv = length_values s.values hs.values_long in
    let le = length_entries s.undo hs.undo_long in
    let hl : h * 256 + l ≡ s.count = omega (arith, hs.few) in
    let at-settings : take (settings_n k) (g ++ r) ≡ g = take_at g r (settings_n k) lg in
    let at_rest : drop (values_at k) (form_of k ∷ (g ++ r)) ≡ r =
    sym (drop-drop (settings_n k) 1 (form_of k ∷ (g ++ r))) ∙ drop_at g r (settings_n k) lg
    in
    let split : state_as k (form_of k ∷ (g ++ r)) ≡ state_from entries_n k g r = λ i. state_from entries_n k (at-settings i) (at_rest i) in (
      omega (arith, length-append g r, rest_long h l v e lv le),
      ap (λ (t : Series). state_as t (form_of k ∷ (g ++ r))) (series_said k (g ++ r))
          ∙ split
          ∙ (λ i. record {
            series = k;
            settings = hs.settings_held i;
            values = (ap values_in (values_part h l v e lv le) ∙ rv) i;
            undo = (ap entries_in (entries_part h l v e lv le) ∙ re) i;
            count = (count_part h l v e lv le ∙ hl) i;
          }),
    )

pub imaged_whole : (s : State) → Shaped s → ((i : ℕ) → i < length s.values → Eights (get_or s.values i None))
    → ((i : ℕ) → i < length s.undo → Eights (get_or s.undo i blank_entry).former.kept)
    → (length (image_of s) ≡ image_n s.series) × (state_in (image_of s) ≡ s)
imaged_whole s hs vs es =
    let values : values_in (values_bytes s.values) ≡ s.values =
    rw hs.values_long at (rows_flat kept_bytes kept_in 11 kept_long s.values None (λ i lt. (kept_whole (get_or s.values i None) (vs i lt)).1)) in
    let entries : entries_in (entries_bytes s.undo) ≡ s.undo =
    rw hs.undo_long at (rows_flat entry_bytes entry_in 14 entry_long s.undo blank_entry (λ i lt. (entry_whole (get_or s.undo i blank_entry) (es i lt)).1)) in
    imaged s hs s.values s.undo values entries

pub image_long_of : (s : State) → Shaped s → length (image_of s) ≡ image_n s.series
image_long_of s h = (imaged s h (values_in (values_bytes s.values)) (entries_in (entries_bytes s.undo)) refl refl).0

pub image_length : (s : State) → is_state s ≡ true → length (image_of s) ≡ image_n s.series
image_length s e = image_long_of s (shaped s e)

pub image_back : (s : State) → is_state s ≡ true → state_in (image_of s) ≡ s
image_back s e =
    let h = shaped s e in
    let p = state_parts entries_n s e in
    let ranges = in_ranges (held_rows s.series) s.settings in
    let long = eqb (length s.values) values_n in
    let right = (both long (values_right 0 s.values) (both ranges (long && values_right 0 s.values) (back_now s.count (contents_of s) s.undo p.back)).1).1 in
    let values : values_in (values_bytes s.values) ≡ s.values =
    rw h.values_long at (rows_flat kept_bytes kept_in 11 kept_long s.values None (values_back_lem 0 s.values right)) in
    let entries : entries_in (entries_bytes s.undo) ≡ s.undo =
    rw h.undo_long at (rows_flat entry_bytes entry_in 14 entry_long s.undo blank_entry (λ i lt. entry_back (get_or s.undo i blank_entry) (each p i))) in
    (imaged s h s.values s.undo values entries).1
  where
    each : StateParts entries_n s → (i : ℕ) → Back (get_or s.undo i blank_entry).former.kept
    each p i =
        by_test (ltb i s.count)
        (λ lt. entries_back_lem s.count (contents_of s) s.undo p.back i (ltb-true i s.count lt))
        (λ past. rw (blank_at s.undo s.count i p.past (ltb-false i s.count past)) never_back)

-- an image says the series
pub image_series : (s : State) → is_state s ≡ true → series_in (image_of s) ≡ s.series
unfolding image_of state_as_of
image_series s e = ap (λ (t : State). t.series) (image_back s e)

-- every state's image is accepted, as that state

pub image_is : (s : State) → is_state s ≡ true → is_image (image_of s) ≡ true
unfolding image_of state_as_of
image_is s e =
    ap (λ (t : State). eqb (length (image_of s)) (image_n t.series) && (same_bytes (image_of s) (image_of t) && is_state t)) (image_back s e)
    ∙ rw (eq-eqb (length (image_of s)) (image_n s.series) (image_length s e), same_refl (image_of s), e)

-- an image is of one state

pub one_state : (s t : State) → is_state s ≡ true → is_state t ≡ true → image_of s ≡ image_of t → s ≡ t
one_state s t hs ht e = sym (image_back s hs) ∙ ap state_in e ∙ image_back t ht

pub image_of_lem : (l : List ℕ) → is_image l ≡ true → (is_state (state_in l) ≡ true) × (l ≡ image_of (state_in l))
image_of_lem l e =
    let again = same_bytes l (image_of (state_in l)) in
    let (same, right) = both again (is_state (state_in l)) (both (eqb (length l) (image_n (series_in l))) (again && is_state (state_in l)) e).1 in
    (right, same_true l (image_of (state_in l)) same)

factory_right : (k : Series) → contents_right (contents_of (factory_state k)) ≡ true
unfolding rows100 rows300 in_ranges values_right
factory_right Tps100 = refl
factory_right Tps300 = refl

pub factory_is_state : (k : Series) → is_state (factory_state k) ≡ true
factory_is_state k = none_state k (factory_settings k) (replicate values_n None) (factory_right k)

-- past the settings the factory's image is blank
pub factory_image : (k : Series) → image_of (factory_state k) ≡ form_of k ∷ (held k (factory_settings k) ++ replicate rest_n 0)
unfolding image_of kept_bytes
factory_image k =
    let values = flat_zeros kept_bytes value_n None refl values_n in
    let entries = flat_zeros entry_bytes entry_n blank_entry refl entries_n in
    ap (λ (t : List ℕ). form_of k ∷ (held k (factory_settings k) ++ t)) (rw (values, entries) (replicate-append-replicate {A = ℕ} count_at (2 + entries_n * entry_n) 0))
