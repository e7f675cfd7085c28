-- What is read at the places of an image is the state's, and what is laid down there makes the image of the state so altered.
use Prim.Native.Nat.{ℕ, ◌+◌, ◌-◌, ◌*◌, ◌<◌, ◌≤◌}
use mathlib.Core.Path.{◌≡◌, refl, sym, ap, ◌∙◌}
use mathlib.Core.Bool.{Bool, true, cond}
use mathlib.Core.List.{List, [], ◌∷◌, ◌++◌, append_assoc}
use native.Mathlib.Nat.{min-eq_left}
use native.Mathlib.Omega.{arith}
use borrow.Author.Tests.{eqb-true, eq-eqb, ne_eqb, lt-ltb, le-leb}
use lib.Dec.{eqb}
use lib.ListN.{length, get_or, set, take, drop, replicate, length-drop, length-set, length-replicate, length-append, replicate-append-replicate}
use lib.ListN.{take-append-drop, get_or-append}
use lib.Seq.{get_or-take, get_or-drop, drop-drop, length-take-le, take-set-lt, set-append_left}
use Rattle.figures.proofs.Tests.{both}
use Rattle.instrument.specs.Settings.{settings_n, settings_most, held, padded}
use Rattle.instrument.specs.Values.{values_n}
use Rattle.instrument.specs.declared.settings.Series.{Series}
use Rattle.std.specs.Prelude.{None}
use Rattle.instrument.specs.Values.{Kept}
use Rattle.instrument.proofs.Ranges.{settings_few}
use Rattle.state.specs.Entries.{entries_n, value_held, blank_entry, no_entries, is_blank, all_blank, is_state}
use Rattle.state.specs.Image.{form_of, value_n, entry_n, values_at, count_at, entries_at, rest_n, image_n, kept_bytes, entry_bytes, count_bytes, values_bytes, entries_bytes, rest_of, image_of}
use Rattle.state.specs.Image.{kept_in, entry_in, values_in, entries_in, series_in, state_as_of, state_as, state_in}
use Rattle.state.specs.Keeping.{Imaged, count_in, stored_in, entry_at, values_read, entries_read, state_of}
use Rattle.state.specs.Keeping.{laid_at, parameter_laid, value_laid, entry_laid, count_laid, cleared, contents_laid}
use Rattle.state.specs.declared.entries.Entry.{Entry}
use Rattle.state.specs.declared.entries.State.{State}
use Rattle.state.proofs.Steps.{state_parts, blank_is}
use Rattle.state.proofs.Rows.{rows_none, rows_first, rows_long, row_part}
use Rattle.state.proofs.Rows.{laid_after, laid_before, laid_all, byte_laid, row_laid, flat_append, flat_length, flat_zeros}
use Rattle.state.proofs.Images.{Shaped, shaped, imaged, image_long_of, image_of_lem, padded_is, length_held, length_values, kept_long, entry_long}

blanks_are : (u : List Entry) → all_blank u ≡ true → u ≡ replicate (length u) blank_entry
unfolding all_blank
blanks_are [] h = refl
blanks_are (e ∷ u) h =
    let (here, later) = both (is_blank e) (all_blank u) h in
    λ i. blank_is e here i ∷ blanks_are u later i

-- a list that is blank past its first n is those, and blanks
pub blank_past : (u : List Entry) (n : ℕ) → length u ≡ entries_n → all_blank (drop n u) ≡ true → u ≡ take n u ++ replicate (entries_n - n) blank_entry
blank_past u n long blank =
    sym (take-append-drop n u) ∙ ap (λ (t : List Entry). take n u ++ t) (blanks_are (drop n u) blank ∙ rw (length-drop n u, long))

-- entries read up to the count are all of them, where those past it are blank
entries_read_lem : (n : ℕ) (e : List ℕ) → length e ≡ entries_n * entry_n → n ≤ entries_n → all_blank (drop n (entries_in e)) ≡ true → entries_read n e ≡ entries_in e
entries_read_lem n e long few blank =
    let all = blank_past (entries_in e) n (rows_long entry_in entry_n entries_n e) blank in
    rw (eq-eqb (length e) (entries_n * entry_n) long, min-eq_left few, ← rows_first entry_in entry_n n entries_n e few) (sym all)

pub entries_none : (n : ℕ) (e : List ℕ) → (length e ≡ entries_n * entry_n → ⊥) → replicate entries_n blank_entry ≡ entries_read n e
entries_none n e short = rw (ne_eqb (length e) (entries_n * entry_n) short, rows_none entry_in entry_n e)

-- what is read from an image of the series k

module _ {k : Series} {l : List ℕ} (im : Imaged k l) where
  pub image_long : length l ≡ image_n k
  image_long = eqb-true (length l) (image_n (series_in l)) (both (eqb (length l) (image_n (series_in l))) _ im.is).0 ∙ ap image_n (sym im.series)

  as_said : state_as k l ≡ state_in l
  as_said = ap (λ (t : Series). state_as t l) im.series

  pub series_read : (state_in l).series ≡ k
  unfolding state_as_of
  series_read = sym im.series

  pub count_read : count_in k l ≡ (state_in l).count
  unfolding state_as_of
  count_read = ap (λ (t : Series). count_in t l) im.series

  pub parameter_read : (i : ℕ) → i < settings_n k → get_or l (1 + i) 0 ≡ get_or (state_in l).settings i 0
  unfolding state_as_of
  parameter_read i h =
      let n = settings_n k in
      let g = take n (drop 1 l) in
      let long : length g ≡ n = length-take-le n (drop 1 l) (omega (arith, length-drop 1 l, image_long)) in
      let held : get_or (padded g) i 0 ≡ get_or g i 0 =
      ap (λ (t : List ℕ). get_or t i 0) (padded_is k g long) ∙ get_or-append g (replicate (settings_most - n) 0) 0 i (omega arith) in
      sym (get_or-drop 1 l i 0) ∙ sym (get_or-take n (drop 1 l) i 0 h) ∙ sym held ∙ ap (λ (s : State). get_or s.settings i 0) as_said

  pub stored_read : (i : ℕ) → i < values_n → stored_in k i l ≡ value_held (state_in l).values i
  unfolding state_as_of
  stored_read i h =
      let at = values_at k in
      let row = row_part kept_in value_n i values_n at l None h (omega (arith, image_long)) in
      rw (lt-ltb i values_n h, le-leb (at + i * value_n + value_n) (length l) (omega (arith, image_long)))
      (sym row ∙ ap (λ (s : State). value_held s.values i) as_said)

  pub entry_read : (n : ℕ) → n < entries_n → entry_at k n l ≡ get_or (state_in l).undo n blank_entry
  unfolding state_as_of
  entry_read n h =
      let at = values_at k + entries_at in
      let part : drop entries_at (drop (values_at k) l) ≡ drop at l = drop-drop entries_at (values_at k) l in
      let row = row_part entry_in entry_n n entries_n at l blank_entry h (omega (arith, image_long)) in
      rw (lt-ltb n entries_n h, le-leb (at + n * entry_n + entry_n) (length l) (omega (arith, image_long)))
      (sym (rw part row) ∙ ap (λ (s : State). get_or s.undo n blank_entry) as_said)

  -- the whole state by the parts of the image
  pub state_read : state_of k (take (settings_n k) (drop 1 l)) (take count_at (drop (values_at k) l))
      (take (entries_n * entry_n) (drop entries_at (drop (values_at k) l))) (count_in k l) ≡ state_in l
  unfolding state_as_of
  state_read =
      let rest = drop (values_at k) l in
      let v = take count_at rest in
      let e = take (entries_n * entry_n) (drop entries_at rest) in
      let lr : length rest ≡ rest_n = length-drop (values_at k) l ∙ omega (arith, image_long) in
      let lv : length v ≡ count_at = length-take-le count_at rest (omega arith) in
      let le : length e ≡ entries_n * entry_n = length-take-le (entries_n * entry_n) (drop entries_at rest) (omega (arith, length-drop entries_at rest)) in
      let p = state_parts entries_n (state_as k l) (ap is_state as_said ∙ (image_of_lem l im.is).0) in
      let values : values_read v ≡ values_in v = rw (eq-eqb (length v) count_at lv) in
      let entries = entries_read_lem (count_in k l) e le p.few p.past in
      (λ i. record {
        series = k;
        settings = padded (take (settings_n k) (drop 1 l));
        values = values i;
        undo = entries i;
        count = count_in k l;
      }) ∙ as_said

-- a state's image, and its parts: what comes before the values, the values, the count, the entries

abbrev front : State → List ℕ
front s = form_of s.series ∷ held s.series s.settings

abbrev stored : State → List ℕ
stored s = values_bytes s.values

abbrev listed : State → List ℕ
listed s = entries_bytes s.undo

-- a state with other contents, and with another list

abbrev pub with_contents : State → List ℕ → List Kept → State
with_contents s settings values = record { series = s.series; settings = settings; values = values; undo = s.undo; count = s.count }

abbrev pub with_undo : State → List Entry → ℕ → State
with_undo s undo count = record { series = s.series; settings = s.settings; values = s.values; undo = undo; count = count }

-- with a parameter of the series stored, what lies past its own is nought as before
pub stored_held : (k : Series) (l : List ℕ) (i p : ℕ) → length l ≡ settings_most → padded (held k l) ≡ l → i < settings_n k
    → padded (held k (set l i p)) ≡ set l i p
stored_held k l i p long back h =
    let g = held k l in
    let lg = length_held k l long in
    ap padded (take-set-lt (settings_n k) l i p h)
    ∙ padded_is k (set g i p) (length-set g i p ∙ lg)
    ∙ sym (set-append_left g (replicate (settings_most - settings_n k) 0) i p (omega arith))
    ∙ ap (λ (t : List ℕ). set t i p) (sym (padded_is k g lg) ∙ back)

chosen : {t : Bool} {x : List ℕ} (y : List ℕ) → t ≡ true → cond t x y ≡ x
chosen y e = rw e

module _ (s : State) (h : Shaped s) where
  -- it stays in shape

  pub contents_shaped : (settings : List ℕ) (values : List Kept) → length settings ≡ settings_most → padded (held s.series settings) ≡ settings
      → length values ≡ values_n → Shaped (with_contents s settings values)
  contents_shaped settings values ls back lv =
      record { settings_long = ls; settings_held = back; values_long = lv; undo_long = h.undo_long; few = h.few }

  pub entries_shaped : (undo : List Entry) (n : ℕ) → length undo ≡ entries_n → n < 65536 → Shaped (with_undo s undo n)
  entries_shaped undo n lu few =
      record { settings_long = h.settings_long; settings_held = h.settings_held; values_long = h.values_long; undo_long = lu; few = few }

  pub parameter_shaped : (i p : ℕ) → i < settings_n s.series → Shaped (with_contents s (set s.settings i p) s.values)
  parameter_shaped i p lt =
      contents_shaped (set s.settings i p) s.values (length-set s.settings i p ∙ h.settings_long)
      (stored_held s.series s.settings i p h.settings_long h.settings_held lt) h.values_long

  pub value_shaped : (i : ℕ) (v : Kept) → Shaped (with_contents s s.settings (set s.values i v))
  value_shaped i v = contents_shaped s.settings (set s.values i v) h.settings_long h.settings_held (length-set s.values i v ∙ h.values_long)

  pub entry_shaped : (n : ℕ) (e : Entry) → Shaped (with_undo s (set s.undo n e) s.count)
  entry_shaped n e = entries_shaped (set s.undo n e) s.count (length-set s.undo n e ∙ h.undo_long) h.few

  -- laid down past its first parts

  held_long : length (held s.series s.settings) ≡ settings_n s.series
  held_long = length_held s.series s.settings h.settings_long

  stored_long : length (stored s) ≡ count_at
  stored_long = length_values s.values h.values_long

  past_front : (q : ℕ) (w r : List ℕ) → laid_at (values_at s.series + q) w (front s ++ r) ≡ front s ++ laid_at q w r
  past_front q w r = laid_after (values_at s.series) q w (front s) r (omega (arith, held_long))

  past_values : (q : ℕ) (w r : List ℕ) → laid_at (values_at s.series + (count_at + q)) w (front s ++ (stored s ++ r)) ≡ front s ++ (stored s ++ laid_at q w r)
  past_values q w r =
      past_front (count_at + q) w (stored s ++ r) ∙ ap (λ (t : List ℕ). front s ++ t) (laid_after count_at q w (stored s) r stored_long)

  past_count : (q : ℕ) (w : List ℕ) → laid_at (values_at s.series + entries_at + q) w (image_of s) ≡ front s ++ (stored s ++ (count_bytes s.count ++ laid_at q w (listed s)))
  unfolding image_of
  past_count q w =
      let n : values_at s.series + entries_at + q ≡ values_at s.series + (count_at + (2 + q)) = omega arith in
      ap (λ (j : ℕ). laid_at j w (image_of s)) n
      ∙ past_values (2 + q) w (count_bytes s.count ++ listed s)
      ∙ ap (λ (t : List ℕ). front s ++ (stored s ++ t)) (laid_after 2 q w (count_bytes s.count) (listed s) refl)

  -- the image with a part laid down anew

  pub parameter_laid_lem : (i p : ℕ) → i < settings_n s.series → parameter_laid i p (image_of s) ≡ image_of (with_contents s (set s.settings i p) s.values)
  unfolding image_of
  parameter_laid_lem i p lt =
      let k = s.series in
      let g = held k s.settings in
      let r = rest_of s.values s.count s.undo in
      let here : laid_at i (p ∷ []) g ≡ held k (set s.settings i p) =
      byte_laid i p g (omega (arith, held_long)) ∙ sym (take-set-lt (settings_n k) s.settings i p lt) in
      chosen (image_of s) (lt-ltb i settings_most (omega (arith, settings_few k)))
      ∙ laid_after 1 i (p ∷ []) (form_of k ∷ []) (g ++ r) refl
      ∙ ap (λ (t : List ℕ). form_of k ∷ t) (laid_before i (p ∷ []) g r (omega (arith, held_long)) ∙ ap (λ (t : List ℕ). t ++ r) here)

  pub value_laid_lem : (i : ℕ) (w : Kept) → i < values_n → value_laid s.series i w (image_of s) ≡ image_of (with_contents s s.settings (set s.values i w))
  unfolding image_of
  value_laid_lem i w lt =
      let r = count_bytes s.count ++ listed s in
      let row = row_laid kept_bytes value_n kept_long s.values i w (omega (arith, h.values_long)) in
      chosen (image_of s) (lt-ltb i values_n lt)
      ∙ past_front (i * value_n) (kept_bytes w) (stored s ++ r)
      ∙ ap (λ (t : List ℕ). front s ++ t)
      (laid_before (i * value_n) (kept_bytes w) (stored s) r (omega (arith, kept_long w, stored_long)) ∙ ap (λ (t : List ℕ). t ++ r) row)

  pub entry_laid_lem : (n : ℕ) (e : Entry) → n < entries_n → entry_laid s.series n e (image_of s) ≡ image_of (with_undo s (set s.undo n e) s.count)
  unfolding image_of
  entry_laid_lem n e lt =
      let row = row_laid entry_bytes entry_n entry_long s.undo n e (omega (arith, h.undo_long)) in
      chosen (image_of s) (lt-ltb n entries_n lt)
      ∙ past_count (n * entry_n) (entry_bytes e)
      ∙ ap (λ (t : List ℕ). front s ++ (stored s ++ (count_bytes s.count ++ t))) row

  pub count_laid_lem : (n : ℕ) → count_laid s.series n (image_of s) ≡ image_of (with_undo s s.undo n)
  unfolding image_of
  count_laid_lem n =
      past_values 0 (count_bytes n) (count_bytes s.count ++ listed s)
      ∙ ap (λ (t : List ℕ). front s ++ (stored s ++ t)) (laid_before 0 (count_bytes n) (count_bytes s.count) (listed s) (omega arith))

  pub contents_laid_lem : (settings : List ℕ) (values : List Kept) → length settings ≡ settings_most → length values ≡ values_n
      → contents_laid s.series settings values (image_of s) ≡ image_of (with_contents s settings values)
  unfolding image_of
  contents_laid_lem settings values ls lv =
      let k = s.series in
      let g = held k settings in
      let v = values_bytes values in
      let old = held k s.settings in
      let r = count_bytes s.count ++ listed s in
      let lg = length_held k settings ls in
      let lw = length_values values lv in
      let long : length (g ++ v) ≡ length (old ++ stored s) = omega (arith, length-append g v, length-append old (stored s), held_long, stored_long) in
      let whole : laid_at 0 (g ++ v) (old ++ (stored s ++ r)) ≡ g ++ (v ++ r) =
      ap (laid_at 0 (g ++ v)) (sym (append_assoc old (stored s) r))
      ∙ laid_before 0 (g ++ v) (old ++ stored s) r (omega arith)
      ∙ ap (λ (t : List ℕ). t ++ r) (laid_all (g ++ v) (old ++ stored s) long)
      ∙ append_assoc g v r in
      laid_after 1 0 (g ++ v) (form_of k ∷ []) (old ++ (stored s ++ r)) refl ∙ ap (λ (t : List ℕ). form_of k ∷ t) whole

-- with those up to the count blank all entries are

blank_zeros : entry_bytes blank_entry ≡ replicate entry_n 0
unfolding kept_bytes
blank_zeros = refl

entries_cleared : (u : List Entry) (n : ℕ) → length u ≡ entries_n → n ≤ entries_n → all_blank (drop n u) ≡ true
    → laid_at 0 (replicate (n * entry_n) 0) (entries_bytes u) ≡ entries_bytes (replicate entries_n blank_entry)
entries_cleared u n long few blank =
    let zeros : List ℕ = replicate (n * entry_n) 0 in
    let done = entries_bytes (take n u) in
    let past = replicate (entries_n - n) blank_entry in
    let m : n + (entries_n - n) ≡ entries_n = omega arith in
    let split = blank_past u n long blank in
    let ld : length done ≡ n * entry_n =
    flat_length entry_bytes entry_n entry_long (take n u) ∙ rw (length-take-le n u (omega arith)) in
    let lz : length zeros ≡ n * entry_n = length-replicate (n * entry_n) 0 in
    ap (laid_at 0 zeros) (ap entries_bytes split ∙ flat_append entry_bytes (take n u) past)
    ∙ laid_before 0 zeros done (entries_bytes past) (omega arith)
    ∙ ap (λ (t : List ℕ). t ++ entries_bytes past) (laid_all zeros done (lz ∙ sym ld) ∙ sym (flat_zeros entry_bytes entry_n blank_entry blank_zeros n))
    ∙ sym (flat_append entry_bytes (replicate n blank_entry) past)
    ∙ ap entries_bytes (replicate-append-replicate n (entries_n - n) blank_entry ∙ ap (λ (j : ℕ). replicate j blank_entry) m)

-- the state need not be one, if it is in shape and its entries past the count are blank
pub list_cleared : (s : State) → Shaped s → s.count ≤ entries_n → all_blank (drop s.count s.undo) ≡ true
    → cleared s.series (image_of s) ≡ image_of (no_entries s.series s.settings s.values)
unfolding image_of state_as_of
list_cleared s h few past =
    let k = s.series in
    let n = s.count in
    let at = values_at k + entries_at in
    let zeros : List ℕ = replicate (n * entry_n) 0 in
    let blanks = replicate entries_n blank_entry in
    let back = (imaged s h (values_in (stored s)) (entries_in (listed s)) refl refl).1 in
    let said : count_in k (image_of s) ≡ n =
    ap (λ (t : Series). count_in t (image_of s)) (sym (ap (λ (t : State). t.series) back)) ∙ ap (λ (t : State). t.count) back in
    let here : at ≡ at + 0 = omega arith in
    let blank : laid_at at zeros (image_of s) ≡ image_of (with_undo s blanks n) =
    ap (λ (j : ℕ). laid_at j zeros (image_of s)) here
    ∙ past_count s h 0 zeros
    ∙ ap (λ (t : List ℕ). front s ++ (stored s ++ (count_bytes n ++ t))) (entries_cleared s.undo n h.undo_long few past) in
    chosen (image_of s) (le-leb (at + count_in k (image_of s) * entry_n) (length (image_of s)) (omega (arith, image_long_of s h)))
    ∙ ap (λ (j : ℕ). count_laid k 0 (laid_at at (replicate (j * entry_n) 0) (image_of s))) said
    ∙ ap (count_laid k 0) blank
    ∙ count_laid_lem (with_undo s blanks n) (entries_shaped s h blanks n (length-replicate {A = Entry} entries_n blank_entry) h.few) 0

pub all_cleared : (s : State) → is_state s ≡ true → cleared s.series (image_of s) ≡ image_of (no_entries s.series s.settings s.values)
all_cleared s e = let p = state_parts entries_n s e in list_cleared s (shaped s e) p.few p.past

-- an image whose contents are laid down anew and whose list is cleared after that
pub contents_cleared : {k : Series} {l : List ℕ} → Imaged k l → (settings : List ℕ) (values : List Kept) → length settings ≡ settings_most
    → padded (held k settings) ≡ settings → length values ≡ values_n
    → cleared k (contents_laid k settings values l) ≡ image_of (no_entries k settings values)
contents_cleared {k} {l} im settings values ls back lv =
    let s = state_in l in
    let (right, laid) = image_of_lem l im.is in
    let p = state_parts entries_n s right in
    let h = shaped s right in
    let is = series_read im in
    let new = list_cleared (with_contents s settings values) (contents_shaped s h settings values ls (rw is back) lv) p.few p.past in
    ap (λ (t : List ℕ). cleared k (contents_laid k settings values t)) laid
    ∙ rw (← is) (ap (cleared s.series) (contents_laid_lem s h settings values ls lv) ∙ new)
