-- A sheet of either form and what it loads to: a state's sheet loads to what the form shows of it, and what loads writes back to the same bytes.
use Prim.Native.Nat.{ℕ, ◌+◌, ◌≤◌, ◌<◌}
use mathlib.Core.Path.{◌≡◌, refl, sym, ap, subst, ◌∙◌}
use mathlib.Core.Bool.{Bool, true, false, cond}
use mathlib.Core.List.{List, [], ◌∷◌, ◌++◌, append_assoc, append-nil}
use native.Mathlib.Omega.{arith}
use borrow.Author.Tests.{eq-eqb, eqb-true, eqb-false, leb-true, le-leb}
use lib.Dec.{eqb, leb}
use lib.ListN.{length, get_or, drop, length-append, drop_of_length-le}
use lib.Seq.{drop-drop, drop_at, drop-append_seam}
use Rattle.figures.specs.Bytes.{starts_with}
use Rattle.figures.proofs.Bytes.{starts_append}
use Rattle.figures.proofs.Tests.{both, by_test}
use Rattle.instrument.specs.Settings.{held, padded, settings_n}
use Rattle.state.specs.Entries.{entries_n, with_entries, no_entries, contents_of, is_state}
use Rattle.instrument.specs.Values.{values_n}
use Rattle.instrument.specs.declared.settings.Series.{Series}
use Rattle.instrument.specs.declared.settings.Series.TheVariants.{Tps100, Tps300}
use Rattle.instrument.specs.Values.{Kept}
use Rattle.state.specs.declared.entries.Entry.{Entry}
use Rattle.state.specs.declared.entries.State.{State}
use Rattle.state.proofs.Images.{shaped, padded_held}
use Rattle.state.proofs.Listed.{entries_of_lem}
use Rattle.state.proofs.Steps.{state_parts, back_now, none_state}
use Rattle.sheets.specs.Lines.{LinesOf, lines_by, Part, wrong_at, part_by}
use Rattle.sheets.specs.Sheet.{series_line, setting_lines, value_lines, sheet_of}
use Rattle.sheets.specs.Undo.{form_line, count_line, count_lines, entry_lines, entries_of, list_text, undo_text, sheet_as}
use Rattle.sheets.specs.Loading.{Loading, wrong, right, loaded_state, settings_from, values_from, count_from, entries_from, after_entries, after_count, undo_from}
use Rattle.sheets.specs.Loading.{FirstLines, first_wrong_at, settings_in, after_settings, first_lines, after_undo, contents_named, after_first, loading_as}
use Rattle.sheets.specs.Loading.{form_in, loading_of}
use Rattle.sheets.specs.declared.forms.Form.{Form}
use Rattle.sheets.specs.declared.forms.Form.TheVariants.{One, Two}
use Rattle.std.specs.Prelude.{Ok}
use Rattle.sheets.proofs.Partwise.{right_by, Said, came, starts_parted, TakenLines, NoLine, Went, finished, stopped, part_load, part_went}
use Rattle.sheets.proofs.Says.{setting_said_lem, value_said, Named, count_said, entry_said_lem}
use Rattle.sheets.proofs.Lined.{Lined, entries_in, state_lined, lined_as, unlisted, named_contents, entries_back}

-- a sheet by its parts

abbrev pub body_by : Series → List ℕ → List Kept → List ℕ
body_by k settings values = series_line k ++ (lines_by (setting_lines k) 0 settings ++ lines_by value_lines 0 values)

abbrev pub tail_by : Form → Series → List Entry → List ℕ
tail_by One k entries = []
tail_by Two k entries = list_text k entries

abbrev pub sheet_by : Form → Series → List ℕ → List Kept → List Entry → List ℕ
sheet_by f k settings values entries = form_line f ++ (body_by k settings values ++ tail_by f k entries)

pub sheet_one : (s : State) → sheet_as One s ≡ sheet_of s
unfolding sheet_as
sheet_one s = refl

-- form 1's depends on settings and values alone
pub sheet_contents : (s : State) → sheet_of s ≡ sheet_of (no_entries s.series s.settings s.values)
unfolding sheet_of
sheet_contents s = refl

-- what it shows of a state

abbrev pub shown_in : Form → State → State
shown_in One s = no_entries s.series s.settings s.values
shown_in Two s = s

pub sheet_by_lem : (f : Form) (s : State) → sheet_as f s ≡ sheet_by f s.series (held s.series s.settings) s.values (entries_in f s)
unfolding sheet_as sheet_of undo_text
sheet_by_lem One s = sym (append-nil (body_by s.series (held s.series s.settings) s.values))
sheet_by_lem Two s = refl

-- the first line tells the form

form_starts : (k : Series) (l : List ℕ) → starts_with (form_line Two) (series_line k ++ l) ≡ false
unfolding starts_with
form_starts Tps100 l = refl
form_starts Tps300 l = refl

pub form_in_lem : (f : Form) (s : State) → form_in (sheet_as f s) ≡ f
unfolding sheet_as sheet_of
form_in_lem One s = ap (λ (b : Bool). cond b Two One) (form_starts s.series _)
form_in_lem Two s = ap (λ (b : Bool). cond b Two One) (starts_append (form_line Two) _)

pub one_form : (f g : Form) (s t : State) → sheet_as f s ≡ sheet_as g t → f ≡ g
one_form f g s t e = sym (form_in_lem f s) ∙ ap form_in e ∙ form_in_lem g t

-- parts otherwise bracketed

pub four : (a b c d : List ℕ) → ((a ++ b) ++ c) ++ d ≡ a ++ (b ++ (c ++ d))
four a b c d = simp append_assoc

five : (a b c d e : List ℕ) → a ++ ((b ++ (c ++ d)) ++ e) ≡ ((a ++ b) ++ c) ++ (d ++ e)
five a b c d e = simp append_assoc

-- what is written loads

-- the lines of a part, wherever they stand
part_there : {A : Type 0} (l : LinesOf A) → Said l → {n at : ℕ} {sheet : List ℕ} (xs : List A) (front rest : List ℕ)
    → sheet ≡ front ++ (lines_by l 0 xs ++ rest) → at ≡ length front → length xs ≡ n → right_by l [] 0 xs ≡ true
    → part_by l n 0 at (drop at sheet) [] ≡ came (at + length (lines_by l 0 xs)) xs
part_there l said {n} {at} xs front rest is here long judged =
    ap (λ (t : List ℕ). part_by l n 0 at (drop at t) []) is
    ∙ ap (λ (t : List ℕ). part_by l n 0 at t []) (drop_at front (lines_by l 0 xs ++ rest) at (sym here))
    ∙ rw (← long) (part_load l said xs 0 at rest [] judged)

first_load : (f : Form) (k : Series) (settings : List ℕ) (values : List Kept) (rest : List ℕ) → Named k settings values
    → first_lines f k (form_line f ++ (body_by k settings values ++ rest))
    ≡ record { came = Ok (length (form_line f ++ body_by k settings values)); settings = settings; values = values }
unfolding first_lines
first_load f k settings values rest n =
    let first = form_line f in
    let head = series_line k in
    let g = lines_by (setting_lines k) 0 settings in
    let v = lines_by value_lines 0 values in
    let body = head ++ (g ++ v) in
    let sheet = first ++ (body ++ rest) in
    let a = length first + length head in
    let b = a + length g in
    let series : starts_with head (drop (length first) sheet) ≡ true =
    ap (starts_with head) (drop-append_seam first (body ++ rest) ∙ append_assoc head (g ++ v) rest) ∙ starts_append head ((g ++ v) ++ rest) in
    let one : settings_in k sheet (length first) ≡ came b settings =
    ap (λ (t : Bool). cond t (settings_from k sheet a) (wrong_at (length first))) series
    ∙ part_there (setting_lines k) (setting_said_lem k) settings (first ++ head) (v ++ rest) (five first head g v rest ∙ append_assoc (first ++ head) g (v ++ rest))
    (sym (length-append first head)) n.settings_long n.settings_right in
    let to : b + length v ≡ length (first ++ body) = omega (arith, length-append first body, length-append head (g ++ v), length-append g v) in
    let two : values_from sheet b ≡ came (length (first ++ body)) values =
    part_there value_lines value_said values ((first ++ head) ++ g) rest (five first head g v rest)
    (omega (arith, length-append first head, length-append (first ++ head) g)) n.values_long n.values_right_lem
    ∙ ap (λ (m : ℕ). came m values) to in
    ap (λ (t : Bool). cond t (after_settings sheet (settings_in k sheet (length first)).got (settings_in k sheet (length first)).came) (first_wrong_at 0))
    (starts_append first (body ++ rest))
    ∙ ap (λ (p : Part ℕ). after_settings sheet p.got p.came) one
    ∙ ap (λ (p : Part Kept). record { came = p.came; settings = settings; values = p.got }) two

-- a line for one count
count_line_lem : (n : ℕ) → lines_by count_lines 0 (n ∷ []) ≡ count_line n
unfolding lines_by
count_line_lem n = append-nil (count_line n)

count_right : (n : ℕ) → n ≤ entries_n → right_by count_lines [] 0 (n ∷ []) ≡ true
unfolding right_by
count_right n h = rw (le-leb n entries_n h)

-- what follows form 1's lines
tail_load : (f : Form) (k : Series) (settings : List ℕ) (values : List Kept) (entries : List Entry) → Lined f k settings values entries
    → is_state (loaded_state k settings values entries) ≡ true → let sheet = sheet_by f k settings values entries in
    undo_from f (contents_named k settings values) sheet (length (form_line f ++ body_by k settings values)) ≡ came (length sheet) entries
unfolding undo_from
tail_load One k settings values entries n is =
    let body = body_by k settings values in
    let to : length body ≡ length (body ++ []) = ap length (sym (append-nil body)) in
    rw n.shows (rw (eq-eqb (length body) (length (body ++ [])) to) (λ i. came (to i) []))
tail_load Two k settings values entries n is =
    let c = contents_named k settings values in
    let front = form_line Two ++ body_by k settings values in
    let counted = lines_by count_lines 0 (length entries ∷ []) in
    let e = lines_by (entry_lines k) 0 entries in
    let sheet = sheet_by Two k settings values entries in
    let at = length front in
    let parts : sheet ≡ front ++ (counted ++ (e ++ [])) =
    rw (count_line_lem (length entries), append-nil e) (sym (append_assoc (form_line Two) (body_by k settings values) _)) in
    let one : count_from sheet at ≡ came (at + length counted) (length entries ∷ []) =
    part_there count_lines count_said (length entries ∷ []) front (e ++ []) parts refl refl (count_right (length entries) n.listed.few) in
    let two : entries_from k (length entries) sheet (at + length counted) ≡ came (at + length counted + length e) entries =
    part_there (entry_lines k) (entry_said_lem k) entries (front ++ counted) [] (parts ∙ sym (append_assoc front counted (e ++ [])))
    (sym (length-append front counted)) refl n.listed.each in
    let to : at + length counted + length e ≡ length sheet =
    omega (arith, ap length parts, length-append front (counted ++ (e ++ [])), length-append counted (e ++ []), ap length (append-nil e)) in
    ap (λ (p : Part ℕ). after_count c sheet at p.got p.came) one
    ∙ ap (λ (p : Part Entry). after_entries c sheet at p.got p.came) two
    ∙ rw (eq-eqb (at + length counted + length e) (length sheet) to, is) (λ i. came (to i) entries)

lines_load : (f : Form) (k : Series) (settings : List ℕ) (values : List Kept) (entries : List Entry) → Lined f k settings values entries
    → is_state (loaded_state k settings values entries) ≡ true → loading_as f k (sheet_by f k settings values entries) ≡ right settings values entries
lines_load f k settings values entries n is =
    let sheet = sheet_by f k settings values entries in
    ap (λ (p : FirstLines). after_first f k sheet p.settings p.values p.came) (first_load f k settings values (tail_by f k entries) n.named)
    ∙ ap (λ (p : Part Entry). after_undo settings values p.got p.came) (tail_load f k settings values entries n is)

-- the state that it names is what the form shows
pub shown_back : (f : Form) (s : State) → is_state s ≡ true → loaded_state s.series (held s.series s.settings) s.values (entries_in f s) ≡ shown_in f s
shown_back One s e = ap (λ (l : List ℕ). no_entries s.series l s.values) (shaped s e).settings_held
shown_back Two s e = ap (λ (l : List ℕ). with_entries s.series l s.values (entries_of s)) (shaped s e).settings_held ∙ sym (entries_of_lem s e)

pub shown_state : (f : Form) (s : State) → is_state s ≡ true → is_state (shown_in f s) ≡ true
shown_state One s e =
    none_state s.series s.settings s.values (back_now s.count (contents_of s) s.undo (state_parts entries_n s e).back)
shown_state Two s e = e

module _ (f : Form) (s : State) (e : is_state s ≡ true) where
  pub sheet_loads : loading_as f s.series (sheet_as f s) ≡ right (held s.series s.settings) s.values (entries_in f s)
  sheet_loads =
      ap (loading_as f s.series) (sheet_by_lem f s)
      ∙ lines_load f s.series (held s.series s.settings) s.values (entries_in f s) (lined_as f s (state_lined s e)) (ap is_state (shown_back f s e) ∙ shown_state f s e)

  pub sheet_loads_of : loading_of s.series (sheet_as f s) ≡ right (held s.series s.settings) s.values (entries_in f s)
  sheet_loads_of = ap (λ (g : Form). loading_as g s.series (sheet_as f s)) (form_in_lem f s) ∙ sheet_loads

-- a sheet names its series
pub series_apart : (k t : Series) (l m : List ℕ) → series_line k ++ l ≡ series_line t ++ m → k ≡ t
series_apart Tps100 Tps100 l m e = refl
series_apart Tps300 Tps300 l m e = refl
series_apart Tps100 Tps300 l m e = absurd (eqb-false 49 51 refl (ap (λ (x : List ℕ). get_or x 10 0) e))
series_apart Tps300 Tps100 l m e = absurd (eqb-false 51 49 refl (ap (λ (x : List ℕ). get_or x 10 0) e))

pub past_form : (f : Form) (k : Series) (settings : List ℕ) (values : List Kept) (entries : List Entry)
    → drop (length (form_line f)) (sheet_by f k settings values entries)
    ≡ series_line k ++ ((lines_by (setting_lines k) 0 settings ++ lines_by value_lines 0 values) ++ tail_by f k entries)
past_form f k settings values entries =
    drop-append_seam (form_line f) (body_by k settings values ++ tail_by f k entries)
    ∙ append_assoc (series_line k) (lines_by (setting_lines k) 0 settings ++ lines_by value_lines 0 values) (tail_by f k entries)

pub one_series : (f : Form) (s t : State) → sheet_as f s ≡ sheet_as f t → s.series ≡ t.series
one_series f s t e =
    series_apart s.series t.series _ _
    (sym (past_form f s.series (held s.series s.settings) s.values (entries_in f s))
    ∙ ap (drop (length (form_line f))) (sym (sheet_by_lem f s) ∙ e ∙ sheet_by_lem f t)
    ∙ past_form f t.series (held t.series t.settings) t.values (entries_in f t))

-- what it shows it tells
pub one_shown : (f : Form) (s t : State) → is_state s ≡ true → is_state t ≡ true → sheet_as f s ≡ sheet_as f t → shown_in f s ≡ shown_in f t
one_shown f s t hs ht e =
    let k = one_series f s t e in
    let same : right (held s.series s.settings) s.values (entries_in f s) ≡ right (held t.series t.settings) t.values (entries_in f t) =
    sym (sheet_loads f s hs) ∙ (λ i. loading_as f (k i) (e i)) ∙ sheet_loads f t ht in
    let settings : held s.series s.settings ≡ held t.series t.settings = cc in
    let values : s.values ≡ t.values = cc in
    let entries : entries_in f s ≡ entries_in f t = cc in
    sym (shown_back f s hs) ∙ (λ i. loaded_state (k i) (settings i) (values i) (entries i)) ∙ shown_back f t ht

-- in form 1 settings and values
pub one_sheet : (s t : State) → is_state s ≡ true → is_state t ≡ true → sheet_of s ≡ sheet_of t
    → (s.series ≡ t.series) × (s.settings ≡ t.settings) × (s.values ≡ t.values)
one_sheet s t hs ht e =
    let same = one_shown One s t hs ht (sheet_one s ∙ e ∙ sym (sheet_one t)) in
    (ap (λ (x : State). x.series) same, ap (λ (x : State). x.settings) same, ap (λ (x : State). x.values) same)

-- in form 2 the whole state
pub one_state : (s t : State) → is_state s ≡ true → is_state t ≡ true → sheet_as Two s ≡ sheet_as Two t → s ≡ t
one_state = one_shown Two

-- a sheet of the other series is wrong at its series line

other_starts : (k t : Series) (l : List ℕ) → (k ≡ t → ⊥) → starts_with (series_line k) (series_line t ++ l) ≡ false
unfolding starts_with
other_starts Tps100 Tps100 l apart = absurd (apart refl)
other_starts Tps100 Tps300 l apart = refl
other_starts Tps300 Tps100 l apart = refl
other_starts Tps300 Tps300 l apart = absurd (apart refl)

pub other_wrong : (f : Form) (k t : Series) (l : List ℕ) → (k ≡ t → ⊥) → loading_as f k (form_line f ++ (series_line t ++ l)) ≡ wrong (length (form_line f))
unfolding first_lines
other_wrong f k t l apart =
    let rest = series_line t ++ l in
    rw (starts_append (form_line f) rest, drop-append_seam (form_line f) rest, other_starts k t l apart)

pub other_sheet : (f : Form) (k : Series) (s : State) → (k ≡ s.series → ⊥) → loading_as f k (sheet_as f s) ≡ wrong (length (form_line f))
other_sheet f k s apart =
    let lines = lines_by (setting_lines s.series) 0 (held s.series s.settings) ++ lines_by value_lines 0 s.values in
    let tail = tail_by f s.series (entries_in f s) in
    ap (loading_as f k) (sheet_by_lem f s ∙ ap (λ (l : List ℕ). form_line f ++ l) (append_assoc (series_line s.series) lines tail))
    ∙ other_wrong f k s.series (lines ++ tail) apart

-- what loads is what would be written

pub sheet_back : (f : Form) (k : Series) (settings : List ℕ) (values : List Kept) (entries : List Entry) → length settings ≡ settings_n k
    → sheet_as f (loaded_state k settings values entries) ≡ sheet_by f k settings values entries
unfolding sheet_as sheet_of undo_text
sheet_back One k settings values entries long =
    ap (λ (l : List ℕ). body_by k l values) (padded_held k settings long) ∙ sym (append-nil (body_by k settings values))
sheet_back Two k settings values entries long =
    λ i. sheet_by Two k (padded_held k settings long i) values (entries_back k settings values entries i)

-- the bytes before a place
pub record Parted (front : List ℕ) (at : ℕ) (sheet : List ℕ) : Type 0 where
  pub is : sheet ≡ front ++ drop at sheet
  pub here : at ≡ length front

pub parted_as : {front other : List ℕ} {at : ℕ} {sheet : List ℕ} → front ≡ other → Parted front at sheet → Parted other at sheet
parted_as {at = at} {sheet = sheet} e p = subst (λ (l : List ℕ). Parted l at sheet) e p

pub parted_on : {A : Type 0} {l : LinesOf A} {n at to : ℕ} {sheet : List ℕ} {all : List A} (front : List ℕ) → Parted front at sheet
    → TakenLines l n [] 0 sheet at to all → Parted (front ++ lines_by l 0 all) to sheet
parted_on {l = l} {to = to} {sheet = sheet} {all = all} front p t =
    let lines = lines_by l 0 all in
    record {
      is = p.is ∙ ap (λ (r : List ℕ). front ++ r) t.after ∙ sym (append_assoc front lines (drop to sheet));
      here = omega (arith, t.to_is, p.here, length-append front lines);
    }

pub parted_starts : {front : List ℕ} {at : ℕ} {sheet : List ℕ} (w : List ℕ) → Parted front at sheet → starts_with w (drop at sheet) ≡ true
    → Parted (front ++ w) (at + length w) sheet
parted_starts {front = front} {at = at} {sheet = sheet} w p e = record {
  is = p.is
      ∙ ap (λ (r : List ℕ). front ++ r) (starts_parted w (drop at sheet) e ∙ ap (λ (r : List ℕ). w ++ r) (drop-drop (length w) at sheet))
      ∙ sym (append_assoc front w (drop (at + length w) sheet));
  here = omega (arith, p.here, length-append front w);
}

-- a whole sheet, where nothing stands after it
pub parted_all : {front : List ℕ} {at : ℕ} {sheet : List ℕ} → Parted front at sheet → at ≡ length sheet → sheet ≡ front
parted_all {front = front} {at = at} {sheet = sheet} p end =
    p.is ∙ ap (λ (l : List ℕ). front ++ l) (drop_of_length-le sheet {i = at} (omega arith)) ∙ append-nil front

pub parted_within : {front : List ℕ} {at : ℕ} {sheet : List ℕ} → Parted front at sheet → at ≤ length sheet
parted_within {front = front} {at = at} {sheet = sheet} p = omega (arith, p.here, ap length p.is, length-append front (drop at sheet))

-- how far the lines of a sheet are right, and what loading it comes to by that
pub data Ways (f : Form) (k : Series) (sheet : List ℕ) (l : Loading) : Type 0 where
  other_form : l ≡ wrong 0 → starts_with (form_line f) sheet ≡ false → Ways f k sheet l
  other_series : (at : ℕ) → l ≡ wrong at → Parted (form_line f) at sheet → starts_with (series_line k) (drop at sheet) ≡ false → Ways f k sheet l
  setting : (at : ℕ) (settings : List ℕ) → l ≡ wrong at → Parted (form_line f ++ (series_line k ++ lines_by (setting_lines k) 0 settings)) at sheet
      → right_by (setting_lines k) [] 0 settings ≡ true → length settings < settings_n k
      → NoLine (setting_lines k) settings (0 + length settings) (drop at sheet) → Ways f k sheet l
  value : (at : ℕ) (settings : List ℕ) (values : List Kept) → l ≡ wrong at → Parted (form_line f ++ body_by k settings values) at sheet
      → length settings ≡ settings_n k → right_by (setting_lines k) [] 0 settings ≡ true → right_by value_lines [] 0 values ≡ true → length values < values_n
      → NoLine value_lines values (0 + length values) (drop at sheet) → Ways f k sheet l
  count : (at : ℕ) (settings : List ℕ) (values : List Kept) → f ≡ Two → l ≡ wrong at → Parted (form_line f ++ body_by k settings values) at sheet
      → Named k settings values → NoLine count_lines [] 0 (drop at sheet) → Ways f k sheet l
  entry : (at : ℕ) (settings : List ℕ) (values : List Kept) (n : ℕ) (entries : List Entry) → f ≡ Two → l ≡ wrong at
      → Parted (form_line f ++ (body_by k settings values ++ (count_line n ++ lines_by (entry_lines k) 0 entries))) at sheet → Named k settings values
      → n ≤ entries_n → right_by (entry_lines k) [] 0 entries ≡ true → length entries < n
      → NoLine (entry_lines k) entries (0 + length entries) (drop at sheet) → Ways f k sheet l
  surplus : (at : ℕ) (settings : List ℕ) (values : List Kept) (entries : List Entry) → l ≡ wrong at → Parted (sheet_by f k settings values entries) at sheet
      → at < length sheet → Lined f k settings values entries → Ways f k sheet l
  no_list : (at : ℕ) (settings : List ℕ) (values : List Kept) (entries : List Entry) → f ≡ Two → l ≡ wrong at
      → at ≡ length (form_line f ++ body_by k settings values) → sheet ≡ sheet_by f k settings values entries → Lined f k settings values entries
      → is_state (loaded_state k settings values entries) ≡ false → Ways f k sheet l
  through : (settings : List ℕ) (values : List Kept) (entries : List Entry) → l ≡ right settings values entries
      → sheet ≡ sheet_by f k settings values entries → Lined f k settings values entries → is_state (loaded_state k settings values entries) ≡ true
      → Ways f k sheet l

-- what follows form 1's lines

module _ (k : Series) (sheet : List ℕ) where
  module _ (at : ℕ) (settings : List ℕ) (values : List Kept) (n : Named k settings values) where
    abbrev ended : Part Entry → Loading
    ended p = after_undo settings values p.got p.came

    module _ (p : Parted (form_line Two ++ body_by k settings values) at sheet) where
      abbrev front : List ℕ
      front = form_line Two ++ body_by k settings values

      abbrev listed : Part Entry → Loading
      listed q = ended (after_entries (contents_named k settings values) sheet at q.got q.came)

      entries_went : {m to : ℕ} → Parted (front ++ count_line m) to sheet → m ≤ entries_n → (q : Part Entry) → Went (entry_lines k) m [] 0 sheet to q
          → Ways Two k sheet (listed q)
      entries_went {m} c few q (finished end entries e t) =
          let lines = lines_by (entry_lines k) 0 entries in
          let whole : (front ++ count_line m) ++ lines ≡ sheet_by Two k settings values entries =
          four (form_line Two) (body_by k settings values) (count_line m) lines
          ∙ ap (λ (j : ℕ). form_line Two ++ (body_by k settings values ++ (count_line j ++ lines))) (sym t.long) in
          let parted = parted_as whole (parted_on (front ++ count_line m) c t) in
          let lined : Lined Two k settings values entries =
          record { named = n; listed = record { few = omega (arith, t.long); each = t.judged }; shows = tt } in
          let is = is_state (loaded_state k settings values entries) in
          by_test (eqb end (length sheet))
          (λ y.
          let all = parted_all parted (eqb-true end (length sheet) y) in
          by_test is
          (λ b. through settings values entries (ap listed e ∙ rw (y, b)) all lined b)
          (λ b. no_list at settings values entries refl (ap listed e ∙ rw (y, b)) p.here all lined b))
          (λ y. surplus end settings values entries (ap listed e ∙ rw y) parted (omega (arith, parted_within parted, eqb-false end (length sheet) y)) lined)
      entries_went {m} c few q (stopped end entries e t less none) =
          let lines = lines_by (entry_lines k) 0 entries in
          let parted = parted_as (four (form_line Two) (body_by k settings values) (count_line m) lines) (parted_on (front ++ count_line m) c t) in
          entry end settings values m entries refl (ap listed e) parted n few t.judged less none

      list_went : (q : Part ℕ) → Went count_lines 1 [] 0 sheet at q
          → Ways Two k sheet (ended (after_count (contents_named k settings values) sheet at q.got q.came))
      unfolding right_by lines_by
      list_went q (finished to [] e t) = absurd (omega (arith, t.long))
      list_went q (finished to (m ∷ []) e t) =
          let parted = parted_as (ap (λ (l : List ℕ). front ++ l) (count_line_lem m)) (parted_on front p t) in
          let few = leb-true m entries_n (both (leb m entries_n) true t.judged).0 in
          rw e (entries_went parted few (entries_from k m sheet to) (part_went (entry_lines k) (entry_said_lem k) m 0 to sheet []))
      list_went q (finished to (m ∷ x ∷ more) e t) = absurd (omega (arith, t.long))
      list_went q (stopped to [] e t less none) =
          count to settings values refl (ap (λ (r : Part ℕ). ended (after_count (contents_named k settings values) sheet at r.got r.came)) e)
          (parted_as (append-nil front) (parted_on front p t)) n none
      list_went q (stopped to (m ∷ more) e t less none) = absurd (omega arith)

  tail_went : (f : Form) (at : ℕ) (settings : List ℕ) (values : List Kept) → Named k settings values → Parted (form_line f ++ body_by k settings values) at sheet
      → Ways f k sheet (after_first f k sheet settings values (Ok at))
  unfolding undo_from
  tail_went One at settings values n p =
      let body = body_by k settings values in
      let parted = parted_as (sym (append-nil body)) p in
      let lined = unlisted One k settings values n in
      by_test (eqb at (length sheet))
      (λ y.
      through settings values [] (rw y) (parted_all parted (eqb-true at (length sheet) y)) lined
      (none_state k (padded settings) values (named_contents k settings values n)))
      (λ y. surplus at settings values [] (rw y) parted (omega (arith, parted_within parted, eqb-false at (length sheet) y)) lined)
  tail_went Two at settings values n p = list_went at settings values n p (count_from sheet at) (part_went count_lines count_said 1 0 at sheet [])

-- form 1's lines

module _ (f : Form) (k : Series) (sheet : List ℕ) where
  abbrev head : List ℕ
  head = form_line f ++ series_line k

  values_went : (a : ℕ) (settings : List ℕ) → Parted (head ++ lines_by (setting_lines k) 0 settings) a sheet → length settings ≡ settings_n k
      → right_by (setting_lines k) [] 0 settings ≡ true → (q : Part Kept) → Went value_lines values_n [] 0 sheet a q
      → Ways f k sheet (after_first f k sheet settings q.got q.came)
  values_went a settings p long judged q (finished b values e t) =
      rw e (tail_went k sheet f b settings values (record { settings_long = long; settings_right = judged; values_long = t.long; values_right_lem = t.judged })
      (parted_as (four (form_line f) (series_line k) (lines_by (setting_lines k) 0 settings) (lines_by value_lines 0 values))
      (parted_on (head ++ lines_by (setting_lines k) 0 settings) p t)))
  values_went a settings p long judged q (stopped b values e t less none) =
      value b settings values (ap (λ (r : Part Kept). after_first f k sheet settings r.got r.came) e)
      (parted_as (four (form_line f) (series_line k) (lines_by (setting_lines k) 0 settings) (lines_by value_lines 0 values))
      (parted_on (head ++ lines_by (setting_lines k) 0 settings) p t)) long judged t.judged less none

  abbrev onward : FirstLines → Loading
  onward p = after_first f k sheet p.settings p.values p.came

  settings_went : (a : ℕ) → Parted head a sheet → (q : Part ℕ) → Went (setting_lines k) (settings_n k) [] 0 sheet a q
      → Ways f k sheet (onward (after_settings sheet q.got q.came))
  settings_went a p q (finished b settings e t) =
      rw e (values_went b settings (parted_on head p t) t.long t.judged (values_from sheet b) (part_went value_lines value_said values_n 0 b sheet []))
  settings_went a p q (stopped b settings e t less none) =
      setting b settings (ap (λ (r : Part ℕ). onward (after_settings sheet r.got r.came)) e)
      (parted_as (append_assoc (form_line f) (series_line k) _) (parted_on head p t)) t.judged less none

  pub ways : Ways f k sheet (loading_as f k sheet)
  unfolding first_lines
  ways =
      let first = length (form_line f) in
      let a = first + length (series_line k) in
      by_test (starts_with (form_line f) sheet)
      (λ e.
      let start : Parted (form_line f) first sheet = record { is = starts_parted (form_line f) sheet e; here = refl } in
      by_test (starts_with (series_line k) (drop first sheet))
      (λ s.
      let went = part_went (setting_lines k) (setting_said_lem k) (settings_n k) 0 a sheet [] in
      rw (e, s) (settings_went a (parted_starts (series_line k) start s) (settings_from k sheet a) went))
      (λ s. other_series first (rw (e, s)) start s))
      (λ e. other_form (rw e) e)

pub wrong_right : (at : ℕ) (settings : List ℕ) (values : List Kept) (entries : List Entry) → wrong at ≡ right settings values entries → ⊥
wrong_right at settings values entries e = let z : ◌≡◌ {A = ℕ} 0 1 = cc in omega arith

pub loads_sheet : (f : Form) (k : Series) (sheet settings : List ℕ) (values : List Kept) (entries : List Entry)
    → loading_as f k sheet ≡ right settings values entries → let s = loaded_state k settings values entries in
    (is_state s ≡ true) × (sheet_as f s ≡ sheet)
loads_sheet f k sheet settings values entries e = by (ways f k sheet)
  where
    not_wrong : {at : ℕ} → loading_as f k sheet ≡ wrong at → ⊥
    not_wrong {at} q = wrong_right at settings values entries (sym q ∙ e)

    by : Ways f k sheet (loading_as f k sheet) → let s = loaded_state k settings values entries in
        (is_state s ≡ true) × (sheet_as f s ≡ sheet)
    by (other_form q o) = absurd (not_wrong q)
    by (other_series at q p o) = absurd (not_wrong q)
    by (setting at g q p r less none) = absurd (not_wrong q)
    by (value at g v q p long r w less none) = absurd (not_wrong q)
    by (count at g v two q p n none) = absurd (not_wrong q)
    by (entry at g v m es two q p n few r less none) = absurd (not_wrong q)
    by (surplus at g v es q p more n) = absurd (not_wrong q)
    by (no_list at g v es two q here all n not) = absurd (not_wrong q)
    by (through g v es q all n is) =
        let same : right g v es ≡ right settings values entries = sym q ∙ e in
        let gs : g ≡ settings = cc in
        let vs : v ≡ values = cc in
        let en : es ≡ entries = cc in
        rw (← gs, ← vs, ← en) (is, sheet_back f k g v es n.named.settings_long ∙ sym all)

-- so of a sheet as it loads, in its own form
pub loads_sheet_of : (k : Series) (sheet settings : List ℕ) (values : List Kept) (entries : List Entry)
    → loading_of k sheet ≡ right settings values entries → let s = loaded_state k settings values entries in
    (is_state s ≡ true) × (sheet_as (form_in sheet) s ≡ sheet)
loads_sheet_of k sheet = loads_sheet (form_in sheet) k sheet
