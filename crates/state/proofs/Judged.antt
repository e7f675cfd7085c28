-- What the code judges is what an image is. Both go row by row: a row's bytes are those that its own content gives, and the content may stand; so the proof
-- takes `same_bytes` apart into rows and joins each row's test with what a state asks of its content.
use Prim.Native.Nat.{ℕ, zero, suc, ◌+◌, ◌*◌, ◌-◌, ◌/◌, ◌%◌, ◌≤◌}
use mathlib.Core.Path.{◌≡◌, refl, sym, ap, ◌∙◌}
use mathlib.Core.Bool.{Bool, true, false, ◌&&◌, and-true, and-false, and_assoc, and_comm}
use mathlib.Core.List.{List, [], ◌∷◌, ◌++◌, map}
use native.Mathlib.Nat.{zero-add, suc-add, zero-mul, suc-mul}
use native.Mathlib.Numerals.{add-one}
use native.Mathlib.Omega.{arith}
use borrow.Author.Tests.{eqb-true, leb-true, ltb-true}
use lib.Dec.{eqb, leb, ltb, eqb-suc-suc}
use lib.ListN.{length, get_or, set, take, drop, replicate, length-drop, length-set, take-append-drop, get_or-map}
use lib.Seq.{drop-cons, drop-drop, length-take-le, take_all}
use Rattle.figures.specs.Bytes.{every, within, starts_with, same_bytes}
use Rattle.figures.proofs.Bytes.{within_bounds, every_append, same_refl, same_true}
use Rattle.figures.proofs.Tests.{both, by_test}
use Rattle.instrument.specs.Settings.{settings_n, settings_most, rows_of, row_at, padded, held_rows, in_range, in_ranges}
use Rattle.instrument.specs.Values.{Kept, values_n, is_put, kept_right}
use Rattle.instrument.specs.declared.settings.Series.{Series}
use Rattle.instrument.specs.declared.settings.Row.{Row}
use Rattle.std.specs.Prelude.{None}
use Rattle.instrument.proofs.Ranges.{place_row, settings_few, held_rows_long, ranges_long}
use Rattle.state.specs.Entries.{entries_n, value_held, blank_entry, is_blank, all_blank, Contents, contents_of, values_right, contents_right}
use Rattle.state.specs.Entries.{values_back, contents_back, may_go_back, item_right, entry_right, right_back, is_state}
use Rattle.state.specs.Image.{form_of, values_at, value_n, entry_n, count_at, entries_at, rest_n, image_n, kept_bytes, kept_in, entry_bytes, flat, values_bytes}
use Rattle.state.specs.Image.{entries_bytes, image_of, entry_in, rows_in, values_in, entries_in_of, entries_in, series_in, count_from}
use Rattle.state.specs.Image.{state_from, state_as_of, state_as, is_image}
use Rattle.state.specs.Keeping.{puts_of, back_right, puts_back, values_lie, row_from, entries_lie, all_zeros, rest_right, is_image_by}
use Rattle.state.specs.declared.entries.Item.{Item}
use Rattle.state.specs.declared.entries.Item.TheVariants.{Free, Setting, Stored}
use Rattle.state.specs.declared.entries.Former.{Former}
use Rattle.state.specs.declared.entries.State.{State}
use Rattle.state.proofs.Steps.{ranges_set, values_set, blank_is}
use Rattle.state.proofs.Rows.{flat_length, drop_row, rows_long, row_at_lem, rows_drop}
use Rattle.state.proofs.Images.{kept_long, entry_long, held_right, padded_held, padded_right}

-- tests in another order

and_left : (a b c : Bool) → a && (b && c) ≡ b && (a && c)
and_left a b c = sym (and_assoc a b c) ∙ rw (and_comm a b) (and_assoc b a c)

ruleset sorted = (and_assoc, and_comm, and_left)

paired : (a b c d : Bool) → (a && b) && (c && d) ≡ (a && c) && (b && d)
paired a b c d = simp sorted

-- two tests that pass in the same cases
agree : (a b : Bool) → (a ≡ true → b ≡ true) → (b ≡ true → a ≡ true) → a ≡ b
agree true b f g = sym (f refl)
agree false true f g = g refl
agree false false f g = refl

-- bytes compared part by part

same_cons : (x y : ℕ) (a b : List ℕ) → same_bytes (x ∷ a) (y ∷ b) ≡ eqb x y && same_bytes a b
unfolding starts_with
same_cons x y a b = rw (eqb-suc-suc (length a) (length b)) (and_left (eqb (length a) (length b)) (eqb x y) (starts_with b a))

same_append : (a c b d : List ℕ) → length a ≡ length c → same_bytes (a ++ b) (c ++ d) ≡ same_bytes a c && same_bytes b d
unfolding starts_with
same_append [] [] b d e = refl
same_append [] (y ∷ c) b d e = absurd (omega arith)
same_append (x ∷ a) [] b d e = absurd (omega arith)
same_append (x ∷ a) (y ∷ c) b d e =
    same_cons x y (a ++ b) (c ++ d)
    ∙ rw (same_append a c b d (omega arith), same_cons x y a c) (sym (and_assoc (eqb x y) (same_bytes a c) (same_bytes b d)))

-- rows of one width, each of which is what its content gives

module _ {A : Type 0} (f : A → List ℕ) (g : List ℕ → A) (w : ℕ) where
  unfoldable rows_same : ℕ → List ℕ → Bool
  rows_same zero l = true
  rows_same (suc n) l = same_bytes (take w l) (f (g (take w l))) && rows_same n (drop w l)

  rows_same_lem : ((x : A) → length (f x) ≡ w) → (n : ℕ) (l : List ℕ) → length l ≡ n * w → same_bytes l (flat f (rows_in g w n l)) ≡ rows_same n l
  unfolding starts_with flat rows_in rows_same
  rows_same_lem wide zero [] e = refl
  rows_same_lem wide zero (x ∷ l) e = absurd (omega (arith, zero-mul w))
  rows_same_lem wide (suc n) l e =
      let row = f (g (take w l)) in
      let rows = flat f (rows_in g w n (drop w l)) in
      ap (λ (t : List ℕ). same_bytes t (row ++ rows)) (sym (take-append-drop w l))
      ∙ same_append (take w l) row (drop w l) rows (length-take-le w l (omega (arith, suc-mul n w)) ∙ sym (wide (g (take w l))))
      ∙ ap (λ (b : Bool). same_bytes (take w l) row && b) (rows_same_lem wide n (drop w l) (length-drop w l ∙ omega (arith, suc-mul n w)))

  -- the last of them first, as entries are taken back
  same_split : (n m : ℕ) (l : List ℕ) → rows_same (n + m) l ≡ rows_same m (drop (n * w) l) && rows_same n l
  unfolding rows_same
  same_split zero m l = rw (zero-add m, zero-mul w) (sym (and-true (rows_same m l)))
  same_split (suc n) m l =
      let rest = drop w l in
      rw (suc-add n m, drop_row w n l, same_split n m rest)
      (and_left (same_bytes (take w l) (f (g (take w l)))) (rows_same m (drop (n * w) rest)) (rows_same n rest))

  same_last : (n : ℕ) (l : List ℕ) → let r = take w (drop (n * w) l) in rows_same (suc n) l ≡ same_bytes r (f (g r)) && rows_same n l
  unfolding rows_same
  same_last n l = ap (λ (m : ℕ). rows_same m l) (sym (add-one n)) ∙ same_split n 1 l ∙ rw and-true

abbrev values_same : ℕ → List ℕ → Bool
values_same = rows_same kept_bytes kept_in value_n

abbrev entries_same : ℕ → List ℕ → Bool
entries_same = rows_same entry_bytes entry_in entry_n

-- values

values_by : (i n : ℕ) (l : List ℕ) → values_same n l && values_right i (rows_in kept_in value_n n l) ≡ values_lie i n l
unfolding rows_same rows_in values_right values_lie
values_by i zero l = refl
values_by i (suc n) l =
    let r = take value_n l in
    let v = kept_in r in
    let rest = drop value_n l in
    paired (same_bytes r (kept_bytes v)) (values_same n rest) (kept_right i v) (values_right (i + 1) (rows_in kept_in value_n n rest))
    ∙ rw (values_by (i + 1) n rest)

-- entries past the count: a blank one's bytes are noughts

zeros : (l : List ℕ) → all_zeros l ≡ true → l ≡ replicate (length l) 0
unfolding every
zeros [] e = refl
zeros (x ∷ l) e =
    let (here, later) = both (within 0 0 x) (all_zeros l) e in
    let nought : x ≡ 0 = omega (arith, (within_bounds 0 0 x here).1) in
    λ i. nought i ∷ zeros l later i

blank_by : (l : List ℕ) → length l ≡ entry_n → same_bytes l (entry_bytes (entry_in l)) && is_blank (entry_in l) ≡ all_zeros l
unfolding starts_with every kept_bytes
blank_by l long =
    let x = entry_in l in
    agree (same_bytes l (entry_bytes x) && is_blank x) (all_zeros l)
    (λ e.
    let (same, blank) = both (same_bytes l (entry_bytes x)) (is_blank x) e in
    ap all_zeros (same_true l (entry_bytes x) same ∙ ap entry_bytes (blank_is x blank)))
    (λ e. let is : l ≡ replicate entry_n 0 = rw long at (zeros l e) in rw is)

blanks_by : (n : ℕ) (l : List ℕ) → length l ≡ n * entry_n → entries_same n l && all_blank (entries_in_of n l) ≡ all_zeros l
unfolding rows_same rows_in all_blank every
blanks_by zero [] long = refl
blanks_by zero (x ∷ l) long = absurd (omega arith)
blanks_by (suc n) l long =
    let r = take entry_n l in
    let rest = drop entry_n l in
    let here = blank_by r (length-take-le entry_n l (omega (arith, suc-mul n entry_n))) in
    let later = blanks_by n rest (length-drop entry_n l ∙ omega (arith, suc-mul n entry_n)) in
    paired (same_bytes r (entry_bytes (entry_in r))) (entries_same n rest) (is_blank (entry_in r)) (all_blank (entries_in_of n rest))
    ∙ rw (here, later) (sym (every_append (within 0 0) r rest) ∙ ap all_zeros (take-append-drop entry_n l))

-- one entry: it may stand and names no value that is never put, just where it may be taken back and what it leaves is right

map_set : {A B : Type 0} (f : A → B) (l : List A) (i : ℕ) (a : A) → map f (set l i a) ≡ set (map f l) i (f a)
map_set f [] i a = refl
map_set f (x ∷ l) zero a = refl
map_set f (x ∷ l) (suc i) a = ap (λ (m : List _). f x ∷ m) (map_set f l i a)

pub puts_back_lem : (t : Item) (f : Former) (l : List Kept) → puts_of (values_back l t f) ≡ puts_back (puts_of l) t f.kept
puts_back_lem Free f l = refl
puts_back_lem (Setting i) f l = refl
puts_back_lem (Stored i) f l = map_set is_put l i f.kept

pub turn : (c : Contents) (t : Item) (f : Former) → contents_right c ≡ true
    → item_right c.series t f.parameter f.kept && back_right (puts_of c.values) t
    ≡ may_go_back c t f && contents_right (contents_back c (record { item = t; former = f }))
turn c Free f e = refl
turn c (Setting i) f e =
    let k = c.series in
    let l = c.settings in
    let values = eqb (length c.values) values_n && values_right 0 c.values in
    let (ranges, held) = both (in_ranges (held_rows k) l) values e in
    let long : length l ≡ settings_most = ranges_long (held_rows k) l ranges ∙ held_rows_long k in
    by_test (ltb i (settings_n k))
    (λ there.
    let is : in_ranges (held_rows k) (set l i f.parameter) ≡ in_range (row_at k i) f.parameter =
    ranges_set (held_rows k) l i f.parameter ranges (omega (arith, ltb-true i (settings_n k) there, settings_few k))
    ∙ ap (λ (r : Row). in_range r f.parameter) (place_row k i)
    in
    rw (there, is, held) (simp sorted))
    (λ past. rw past)
turn c (Stored i) f e =
    let k = c.series in
    let l = c.values in
    let v = f.kept in
    let long = eqb (length l) values_n in
    let (ranges, held) = both (in_ranges (held_rows k) c.settings) (long && values_right 0 l) e in
    let (all, right) = both long (values_right 0 l) held in
    by_test (ltb i values_n)
    (λ there.
    let is : values_right 0 (set l i v) ≡ kept_right i f.kept =
    values_set 0 l i v right (omega (arith, ltb-true i values_n there, eqb-true (length l) values_n all)) ∙ rw zero-add
    in
    let put : get_or (puts_of l) i false ≡ is_put (value_held l i) = get_or-map is_put l i None in
    rw (there, ranges, length-set l i v, all, is, put) (simp sorted))
    (λ past. rw past)

-- entries up to the count, taken back one after the other

pub step : (now same rows may back right named next rest : Bool) → (now ≡ true → right && named ≡ may && next) → rows && back ≡ next && rest
    → (same && rows) && (now && (may && back)) ≡ now && ((same && right) && (named && rest))
step false same rows may back right named next rest one later = and-false (same && rows)
step true same rows may back right named next rest one later =
    let joined : (same && may) && (next && rest) ≡ same && ((may && next) && rest) = simp sorted in
    paired same rows may back ∙ rw later (joined ∙ rw (← one refl) (simp sorted))

entries_by : (n m : ℕ) (c : Contents) (l : List ℕ) → n ≤ m
    → entries_same n l && right_back n c (entries_in_of m l) ≡ contents_right c && entries_lie c.series n (puts_of c.values) l
unfolding rows_same right_back entries_lie
entries_by zero m c l few = sym (and-true (contents_right c))
entries_by (suc n) m c l few =
    let r = row_from n l in
    let x = entry_in r in
    let next = contents_back c x in
    rw (same_last entry_bytes entry_in entry_n n l, row_at_lem entry_in entry_n n m l blank_entry (omega arith), ← puts_back_lem x.item x.former c.values)
    (step (contents_right c) (same_bytes r (entry_bytes x)) (entries_same n l) (may_go_back c x.item x.former) (right_back n next (entries_in_of m l))
    (entry_right c.series x) (back_right (puts_of c.values) x.item) (contents_right next) (entries_lie c.series n (puts_of next.values) l)
    (turn c x.item x.former) (entries_by n m next l (omega arith)))

-- with those past the count
all_by : (n m : ℕ) (c : Contents) (l : List ℕ) → n ≤ m → length l ≡ m * entry_n
    → entries_same m l && (all_blank (drop n (entries_in_of m l)) && right_back n c (entries_in_of m l))
    ≡ contents_right c && (all_zeros (drop (n * entry_n) l) && entries_lie c.series n (puts_of c.values) l)
all_by n m c l few long =
    let past = drop (n * entry_n) l in
    let q : m ≡ n + (m - n) = omega arith in
    let split : entries_same m l ≡ entries_same (m - n) past && entries_same n l =
    ap (λ (i : ℕ). entries_same i l) q ∙ same_split entry_bytes entry_in entry_n n (m - n) l
    in
    let gone : drop n (entries_in_of m l) ≡ entries_in_of (m - n) past =
    ap (λ (i : ℕ). drop n (entries_in_of i l)) q ∙ rows_drop entry_in entry_n n (m - n) l
    in
    let blank = blanks_by (m - n) past (length-drop (n * entry_n) l ∙ omega arith) in
    rw (split, gone)
    (paired (entries_same (m - n) past) (entries_same n l) (all_blank (entries_in_of (m - n) past)) (right_back n c (entries_in_of m l))
    ∙ rw (blank, entries_by n m c l few) (and_left (all_zeros past) (contents_right c) (entries_lie c.series n (puts_of c.values) l)))

-- settings: what they are padded with is right
ranges_by : (k : Series) (ps : List ℕ) → length ps ≡ settings_n k → in_ranges (held_rows k) (padded ps) ≡ in_ranges (rows_of k) ps
ranges_by k ps long =
    agree (in_ranges (held_rows k) (padded ps)) (in_ranges (rows_of k) ps)
    (λ e. rw (padded_held k ps long) at (held_right k (padded ps) e))
    (padded_right k ps)

-- the whole; settings and count are read as they stand, so only the first byte, the values and the entries are left to compare

parts_same : (x y : ℕ) (g v w c d e : List ℕ) → length v ≡ length w
    → same_bytes (x ∷ (g ++ (v ++ (c ++ d)))) (y ∷ (g ++ (w ++ (c ++ e)))) ≡ eqb x y && (same_bytes v w && same_bytes d e)
parts_same x y g v w c d e h =
    same_cons x y (g ++ (v ++ (c ++ d))) (g ++ (w ++ (c ++ e)))
    ∙ rw (same_append g g (v ++ (c ++ d)) (w ++ (c ++ e)) refl, same_refl g, same_append v w (c ++ d) (c ++ e) h, same_append c c d e refl, same_refl c)

gathered : (form values entries back ranges right rest : Bool) → entries && back ≡ (ranges && right) && rest
    → (form && (values && entries)) && back ≡ form && (ranges && ((values && right) && rest))
gathered form values entries back ranges right rest e =
    let front : (form && (values && entries)) && back ≡ form && (values && (entries && back)) = simp sorted in
    front ∙ rw e (simp sorted)

module _ (k : Series) (x : ℕ) (g r : List ℕ) (lg : length g ≡ settings_n k) (lr : length r ≡ rest_n) where
  abbrev read : State
  read = state_from entries_n k g r

  entries_long : length (drop entries_at r) ≡ entries_n * entry_n
  entries_long = length-drop entries_at r ∙ omega arith

  entries_whole : take (entries_n * entry_n) (drop entries_at r) ≡ drop entries_at r
  entries_whole = take_all (entries_n * entry_n) (drop entries_at r) (omega (arith, entries_long))

  -- a count that the list has room for is of two bytes, and is laid down as it was read
  image_same : count_from r ≤ entries_n → same_bytes (x ∷ (g ++ r)) (image_of read)
      ≡ eqb x (form_of k) && (values_same values_n (take count_at r) && entries_same entries_n (drop entries_at r))
  unfolding image_of
  image_same few =
      let v = take count_at r in
      let e = drop entries_at r in
      let h = get_or r count_at 0 in
      let l = get_or r (count_at + 1) 0 in
      let vb = values_bytes (values_in v) in
      let eb = entries_bytes (entries_in e) in
      let wide : (y : Kept) → length (kept_bytes y) ≡ value_n = kept_long in
      let lv : length v ≡ count_at = length-take-le count_at r (omega arith) in
      let lb : length vb ≡ count_at = flat_length kept_bytes value_n wide (values_in v) ∙ rw (rows_long kept_in value_n values_n v) in
      let split : r ≡ v ++ (h ∷ l ∷ e) =
      sym (take-append-drop count_at r)
      ∙ ap (λ (t : List ℕ). v ++ t) (drop-cons r count_at 0 (omega arith) ∙ ap (λ (t : List ℕ). h ∷ t) (drop-cons r (count_at + 1) 0 (omega arith)))
      in
      let first : (h * 256 + l) / 256 % 256 ≡ h = omega arith in
      let second : (h * 256 + l) % 256 ≡ l = omega arith in
      let image : image_of read ≡ form_of k ∷ (g ++ (vb ++ (h ∷ l ∷ eb))) =
      λ i. form_of k ∷ (padded_held k g lg i ++ (vb ++ (first i ∷ second i ∷ entries_bytes (entries_in (entries_whole i)))))
      in
      (λ i. same_bytes (x ∷ (g ++ split i)) (image i))
      ∙ parts_same x (form_of k) g v vb (h ∷ l ∷ []) e eb (lv ∙ sym lb)
      ∙ rw (rows_same_lem kept_bytes kept_in value_n wide values_n v lv, rows_same_lem entry_bytes entry_in entry_n entry_long entries_n e entries_long)

  judged : same_bytes (x ∷ (g ++ r)) (image_of read) && is_state read ≡ eqb x (form_of k) && (in_ranges (rows_of k) g && rest_right k r)
  judged =
      let v = take count_at r in
      let e = drop entries_at r in
      let n = count_from r in
      let u = entries_in e in
      let c = contents_of read in
      rw (entries_whole, rows_long entry_in entry_n entries_n e)
      (by_test (leb n entries_n)
      (λ few.
      let all = all_by n entries_n c e (leb-true n entries_n few) entries_long in
      rw (rw entries_whole at (image_same (leb-true n entries_n few)), few, ← values_by 0 values_n v)
      (gathered (eqb x (form_of k)) (values_same values_n v) (entries_same entries_n e) (all_blank (drop n u) && right_back n c u) (in_ranges (rows_of k) g)
      (values_right 0 (values_in v)) (all_zeros (drop (n * entry_n) e) && entries_lie k n (puts_of (values_in v)) e)
      (rw (rows_long kept_in value_n values_n v, ranges_by k g lg) at all)))
      (λ many. rw many (simp and-false)))

pub image_by : (l : List ℕ) → is_image l ≡ is_image_by l
unfolding state_as_of
image_by l =
    let k = series_in l in
    let x = get_or l 0 0 in
    let g = take (settings_n k) (drop 1 l) in
    let r = drop (values_at k) l in
    by_test (eqb (length l) (image_n k))
    (λ e.
    let long : length l ≡ image_n k = eqb-true (length l) (image_n k) e in
    let split : l ≡ x ∷ (g ++ r) =
    drop-cons l 0 0 (omega arith)
    ∙ ap (λ (t : List ℕ). x ∷ t) (sym (take-append-drop (settings_n k) (drop 1 l)) ∙ ap (λ (t : List ℕ). g ++ t) (drop-drop (settings_n k) 1 l))
    in
    let lg : length g ≡ settings_n k = length-take-le (settings_n k) (drop 1 l) (omega (arith, length-drop 1 l)) in
    let lr : length r ≡ rest_n = length-drop (values_at k) l ∙ omega arith in
    let s = state_as k l in
    rw e (ap (λ (t : List ℕ). same_bytes t (image_of s) && is_state s) split ∙ judged k x g r lg lr))
    (λ e. rw e)
