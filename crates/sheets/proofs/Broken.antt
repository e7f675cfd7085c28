-- Where an input stops being a sheet's: it is right up to a place, and each sheet of that form and series that begins so goes on otherwise.
use Prim.Native.Nat.{ℕ, zero, suc, ◌+◌, ◌-◌, ◌≤◌, ◌<◌}
use mathlib.Core.Path.{◌≡◌, refl, sym, ap, ◌∙◌}
use mathlib.Core.Bool.{true, false}
use mathlib.Core.List.{List, [], ◌∷◌, ◌++◌, append_assoc, append-nil}
use native.Mathlib.Nat.{add-zero}
use native.Mathlib.Omega.{arith}
use borrow.Author.Tests.{le-leb}
use lib.ListN.{length, drop, length-append, length-drop}
use lib.Seq.{append_snoc}
use Rattle.figures.specs.Bytes.{starts_with}
use Rattle.figures.proofs.Tests.{both}
use Rattle.instrument.specs.Settings.{no_row, rows100, rows300, rows_of, row_at, factory_of, in_range, settings_n}
use Rattle.instrument.specs.Values.{values_n}
use Rattle.instrument.proofs.Seek.{each_row, row_tested}
use Rattle.instrument.specs.declared.settings.Row.{Row}
use Rattle.instrument.specs.declared.settings.Series.{Series}
use Rattle.instrument.specs.declared.settings.Series.TheVariants.{Tps100, Tps300}
use Rattle.instrument.specs.Values.{Kept}
use Rattle.state.specs.Entries.{entries_n, entry_of}
use Rattle.state.specs.declared.entries.Item.TheVariants.{Stored}
use Rattle.state.specs.declared.entries.Entry.{Entry}
use Rattle.sheets.specs.Lines.{LinesOf, lines_by}
use Rattle.sheets.specs.Sheet.{series_line, setting_lines, value_lines}
use Rattle.sheets.specs.Undo.{form_line, count_line, count_lines, entry_lines}
use Rattle.sheets.specs.FirstWrong.{are_lines}
use Rattle.sheets.specs.declared.forms.Form.{Form}
use Rattle.sheets.specs.declared.forms.Form.TheVariants.{One, Two}
use Rattle.sheets.proofs.Linewise.{lines_append}
use Rattle.sheets.proofs.Partwise.{right_by, Said, NoLine}
use Rattle.sheets.proofs.Says.{setting_said_lem, value_said, count_said, entry_said_lem, Named, Listed}
use Rattle.sheets.proofs.Sheets.{body_by, tail_by, sheet_by, Parted}
use Rattle.sheets.proofs.Lined.{Lined, unlisted}
use Rattle.sheets.proofs.Ended.{OneLf, one_line, lines_more, one_lines, LinesEnd, part_lines, form_line_lem, series_line_lem}
use Rattle.sheets.proofs.Ended.{setting_ends, value_ends, count_ends, entry_ends}
use Rattle.std.specs.Prelude.{None}

-- what goes on otherwise than the bytes that stand there: it ends where some stand, or has a line that doesn't stand there
pub data Apart (x rest : List ℕ) : Type 0 where
  over : x ≡ [] → 0 < length rest → Apart x rest
  on : (line more : List ℕ) → x ≡ line ++ more → OneLf line → starts_with line rest ≡ false → Apart x rest

-- a part, whatever its lines hold

module _ {A : Type 0} (l : LinesOf A) where
  -- things after those that are held, and all in their turn
  right_on : (xs ys got : List A) (i : ℕ) → right_by l got i xs ≡ true → right_by l (got ++ xs) (i + length xs) ys ≡ true → right_by l got i (xs ++ ys) ≡ true
  unfolding right_by
  right_on [] ys got i ex ey = rw (append-nil, add-zero) at ey
  right_on (x ∷ xs) ys got i ex ey =
      let parts = both (l.may got i x) (right_by l (got ++ (x ∷ [])) (i + 1) xs) ex in
      let place : i + suc (length xs) ≡ i + 1 + length xs = omega arith in
      rw parts.0 (right_on xs ys (got ++ (x ∷ [])) (i + 1) parts.1 (rw (← append_snoc got x xs, place) at ey))

  -- n more, by something that may be held at each place
  module _ (fill : List A → ℕ → A) (fills : (got : List A) (i : ℕ) → l.may got i (fill got i) ≡ true) where
    filled : (n : ℕ) (got : List A) (i : ℕ) → (more : List A) × (length more ≡ n) × (right_by l got i more ≡ true)
    unfolding right_by
    filled zero got i = ([], refl, refl)
    filled (suc n) got i =
        let x = fill got i in
        let t = filled n (got ++ (x ∷ [])) (i + 1) in
        (x ∷ t.0, ap suc t.1, rw (fills got i) t.2)

    filled_to : (n : ℕ) (xs : List A) → right_by l [] 0 xs ≡ true → length xs ≤ n
        → (more : List A) × (length (xs ++ more) ≡ n) × (right_by l [] 0 (xs ++ more) ≡ true)
    filled_to n xs r h =
        let t = filled (n - length xs) xs (0 + length xs) in
        (t.0, omega (arith, length-append xs t.0, t.1), right_on xs t.0 [] 0 r t.2)

  module _ (said : Said l) (ends : LinesEnd l) where
    -- what the lines at the start of others hold begins what those hold
    follow : (xs ys got : List A) (i : ℕ) (a b : List ℕ) → right_by l got i xs ≡ true → right_by l got i ys ≡ true → length xs ≤ length ys
        → lines_by l i xs ++ a ≡ lines_by l i ys ++ b
        → (zs : List A) × (length ys ≡ length xs + length zs) × (right_by l (got ++ xs) (i + length xs) zs ≡ true) × (a ≡ lines_by l (i + length xs) zs ++ b)
    unfolding right_by lines_by
    follow [] ys got i a b ex ey h e = (ys, omega arith, rw (append-nil, add-zero) ey, rw add-zero e)
    follow (x ∷ xs) [] got i a b ex ey h e = absurd (omega arith)
    follow (x ∷ xs) (y ∷ ys) got i a b ex ey h e =
        let px = both (l.may got i x) (right_by l (got ++ (x ∷ [])) (i + 1) xs) ex in
        let py = both (l.may got i y) (right_by l (got ++ (y ∷ [])) (i + 1) ys) ey in
        let v = l.write i x in
        let w = l.write i y in
        let t = one_line v w (lines_by l (i + 1) xs ++ a) (lines_by l (i + 1) ys ++ b) (ends got i x px.0) (ends got i y py.0)
        (sym (append_assoc v (lines_by l (i + 1) xs) a) ∙ e ∙ append_assoc w (lines_by l (i + 1) ys) b) in
        let same : y ≡ x = sym (said got i y [] py.0) ∙ ap (λ (s : List ℕ). l.says i (s ++ [])) (sym t.0) ∙ said got i x [] px.0 in
        let place : i + 1 + length xs ≡ i + suc (length xs) = omega arith in
        let r = follow xs ys (got ++ (x ∷ [])) (i + 1) a b px.1 (rw same at py.1) (omega arith) t.1 in
        (r.0, omega (arith, r.1), rw (append_snoc got x xs, place) at r.2, rw place at r.3)

    -- as many lines at the start of the same bytes: what stands after them is the same
    same_lines : (xs ys : List A) (a b : List ℕ) → right_by l [] 0 xs ≡ true → right_by l [] 0 ys ≡ true → length xs ≡ length ys
        → lines_by l 0 xs ++ a ≡ lines_by l 0 ys ++ b → a ≡ b
    unfolding lines_by
    same_lines xs ys a b ex ey h e =
        let t = follow xs ys [] 0 a b ex ey (omega arith) e in
        none t.0 (omega (arith, t.1)) t.3
      where
        none : (zs : List A) → length zs ≡ 0 → a ≡ lines_by l (0 + length xs) zs ++ b → a ≡ b
        none [] q r = r
        none (z ∷ zs) q r = absurd (omega arith)

    -- a place at which no line that may stand there stands: those that hold more go on otherwise
    stop_apart : (xs ys : List A) (x rest b : List ℕ) → right_by l [] 0 xs ≡ true → right_by l [] 0 ys ≡ true → length xs < length ys
        → NoLine l xs (0 + length xs) rest → lines_by l 0 xs ++ x ≡ lines_by l 0 ys ++ b → Apart x rest
    unfolding right_by lines_by
    stop_apart xs ys x rest b ex ey h none e =
        let t = follow xs ys [] 0 x b ex ey (omega arith) e in
        by t.0 (omega (arith, t.1)) t.2 t.3
      where
        by : (zs : List A) → 0 < length zs → right_by l xs (0 + length xs) zs ≡ true → x ≡ lines_by l (0 + length xs) zs ++ b → Apart x rest
        by [] q r f = absurd (omega arith)
        by (z ∷ zs) q r f =
            let i = 0 + length xs in
            let m = (both (l.may xs i z) (right_by l (xs ++ (z ∷ [])) (i + 1) zs) r).0 in
            on (l.write i z) (lines_by l (i + 1) zs ++ b) (f ∙ append_assoc (l.write i z) (lines_by l (i + 1) zs) b) (ends xs i z m) (none z m)

-- what may be held at each place: the factory's parameter, and no value

factory_fits : (k : Series) → (in_range no_row (factory_of no_row) ≡ true) × (each_row (λ (r : Row). in_range r (factory_of r)) (rows_of k) ≡ true)
unfolding each_row rows100 rows300
factory_fits Tps100 = (refl, refl)
factory_fits Tps300 = (refl, refl)

setting_fills : (k : Series) (got : List ℕ) (i : ℕ) → in_range (row_at k i) (factory_of (row_at k i)) ≡ true
setting_fills k got i = let t = factory_fits k in row_tested (λ (r : Row). in_range r (factory_of r)) (rows_of k) no_row t.0 t.1 i

-- parts otherwise bracketed

three : (a b c d : List ℕ) → (a ++ (b ++ c)) ++ d ≡ a ++ (b ++ (c ++ d))
three a b c d = simp append_assoc

three' : (a b c d : List ℕ) → (a ++ b) ++ (c ++ d) ≡ a ++ ((b ++ c) ++ d)
three' a b c d = simp append_assoc

four : (a b c d : List ℕ) → (a ++ (b ++ c)) ++ d ≡ (a ++ b) ++ (c ++ d)
four a b c d = simp append_assoc

-- sheets of a form and series that begin with the same lines

pub form_off : (f : Form) (x y : List ℕ) → form_line f ++ x ≡ form_line f ++ y → x ≡ y
form_off One x y e = e
form_off Two x y e = (one_line (form_line Two) (form_line Two) x y form_line_lem form_line_lem e).1

form_lines : (f : Form) → are_lines (form_line f) ≡ true
unfolding are_lines
form_lines One = refl
form_lines Two = refl

count_off : (n m : ℕ) (a b : List ℕ) → n ≤ entries_n → m ≤ entries_n → count_line n ++ a ≡ count_line m ++ b → (n ≡ m) × (a ≡ b)
count_off n m a b hn hm e =
    let en = le-leb n entries_n hn in
    let em = le-leb m entries_n hm in
    let t = one_line (count_line n) (count_line m) a b (count_ends [] 0 n en) (count_ends [] 0 m em) e in
    (sym (count_said [] 0 n [] en) ∙ ap (λ (w : List ℕ). count_lines.says 0 (w ++ [])) t.0 ∙ count_said [] 0 m [] em, t.1)

module _ (k : Series) where
  abbrev head : List ℕ
  head = series_line k

  abbrev part : List ℕ → List ℕ
  part settings = lines_by (setting_lines k) 0 settings

  abbrev text : List Kept → List ℕ
  text values = lines_by value_lines 0 values

  abbrev list : List Entry → List ℕ
  list entries = lines_by (entry_lines k) 0 entries

  -- past the settings
  settings_off : (settings others : List ℕ) (a b : List ℕ) → length settings ≡ settings_n k → right_by (setting_lines k) [] 0 settings ≡ true
      → length others ≡ settings_n k → right_by (setting_lines k) [] 0 others ≡ true → head ++ (part settings ++ a) ≡ head ++ (part others ++ b) → a ≡ b
  settings_off settings others a b n r m q e =
      same_lines (setting_lines k) (setting_said_lem k) (setting_ends k) settings others a b r q (omega arith)
      (one_line head head _ _ (series_line_lem k) (series_line_lem k) e).1

  -- past form 1's lines
  pub body_off : (f : Form) (settings others : List ℕ) (values those : List Kept) (a b : List ℕ) → Named k settings values → Named k others those
      → (form_line f ++ body_by k settings values) ++ a ≡ form_line f ++ (body_by k others those ++ b) → a ≡ b
  body_off f settings others values those a b n m e =
      let body = form_off f _ _ (sym (append_assoc (form_line f) (body_by k settings values) a) ∙ e) in
      let rest = settings_off settings others (text values ++ a) (text those ++ b) n.settings_long n.settings_right m.settings_long
      m.settings_right (sym (three head (part settings) (text values) a) ∙ body ∙ three head (part others) (text those) b) in
      same_lines value_lines value_said value_ends values those a b n.values_right_lem m.values_right_lem (omega (arith, n.values_long, m.values_long)) rest

  -- no sheet begins with another and more
  pub no_more : (f : Form) (settings others : List ℕ) (values those : List Kept) (entries these : List Entry) (a : List ℕ)
      → Lined f k settings values entries → Lined f k others those these
      → sheet_by f k settings values entries ++ a ≡ sheet_by f k others those these → a ≡ []
  no_more f settings others values those entries these a n m e =
      by f n.listed m.listed
      (body_off f settings others values those (tail_by f k entries ++ a) (tail_by f k these) n.named m.named
      (sym (four (form_line f) (body_by k settings values) (tail_by f k entries) a) ∙ e))
    where
      by : (g : Form) → Listed k entries → Listed k these → tail_by g k entries ++ a ≡ tail_by g k these → a ≡ []
      by One p q t = t
      by Two p q t =
          let c = count_off (length entries) (length these) (list entries ++ a) (list these) p.few q.few
          (sym (append_assoc (count_line (length entries)) (list entries) a) ∙ t) in
          same_lines (entry_lines k) (entry_said_lem k) (entry_ends k) entries these a [] p.each q.each c.0 (c.1 ∙ sym (append-nil (list these)))

  -- whole lines

  settings_lines : (settings : List ℕ) → right_by (setting_lines k) [] 0 settings ≡ true → are_lines (head ++ part settings) ≡ true
  settings_lines settings r =
      lines_more head (part settings) (one_lines head (series_line_lem k)) (part_lines (setting_lines k) (setting_ends k) [] 0 settings r)

  body_lines : (settings : List ℕ) (values : List Kept) → right_by (setting_lines k) [] 0 settings ≡ true → right_by value_lines [] 0 values ≡ true
      → are_lines (body_by k settings values) ≡ true
  body_lines settings values r rv =
      ap are_lines (sym (append_assoc head (part settings) (text values)))
      ∙ lines_more (head ++ part settings) (text values) (settings_lines settings r) (part_lines value_lines value_ends [] 0 values rv)

  list_lines : (n : ℕ) (entries : List Entry) → n ≤ entries_n → right_by (entry_lines k) [] 0 entries ≡ true → are_lines (count_line n ++ list entries) ≡ true
  list_lines n entries h r =
      lines_more (count_line n) (list entries) (one_lines (count_line n) (count_ends [] 0 n (le-leb n entries_n h)))
      (part_lines (entry_lines k) (entry_ends k) [] 0 entries r)

  pub sheet_lines : (f : Form) (settings : List ℕ) (values : List Kept) (entries : List Entry) → Lined f k settings values entries
      → are_lines (sheet_by f k settings values entries) ≡ true
  unfolding are_lines
  sheet_lines f settings values entries n =
      let body = body_by k settings values in
      lines_more (form_line f) (body ++ tail_by f k entries) (form_lines f)
      (lines_more body (tail_by f k entries) (body_lines settings values n.named.settings_right n.named.values_right_lem) (by f n.listed))
    where
      by : (g : Form) → Listed k entries → are_lines (tail_by g k entries) ≡ true
      by One l = refl
      by Two l = list_lines (length entries) entries l.few l.each

  -- values that go on from some, and settings with any
  values_on : (values : List Kept) → right_by value_lines [] 0 values ≡ true → length values ≤ values_n
      → (v : List Kept) × (length (values ++ v) ≡ values_n) × (right_by value_lines [] 0 (values ++ v) ≡ true)
  values_on = filled_to value_lines (λ got i. None) (λ got i. refl) values_n

  named_on : (settings : List ℕ) → right_by (setting_lines k) [] 0 settings ≡ true → length settings ≤ settings_n k
      → (g : List ℕ) × (v : List Kept) × Named k (settings ++ g) v
  unfolding right_by
  named_on settings r h =
      let s = filled_to (setting_lines k) (λ got i. factory_of (row_at k i)) (setting_fills k) (settings_n k) settings r h in
      let v = values_on [] refl (omega arith) in
      (s.0, v.0, record { settings_long = s.1; settings_right = s.2; values_long = v.1; values_right_lem = v.2 })

-- an input that is right up to a place as a sheet of the form and series, where each such sheet that begins so goes on otherwise
pub record Broken (f : Form) (k : Series) (input : List ℕ) (at : ℕ) : Type 0 where
  pub front : List ℕ
  pub parted : Parted front at input
  pub lined : are_lines front ≡ true
  -- there is one
  pub settings : List ℕ
  pub values : List Kept
  pub entries : List Entry
  pub shown : Lined f k settings values entries
  pub more : List ℕ
  pub whole : front ++ more ≡ sheet_by f k settings values entries
  pub apart : (others : List ℕ) (those : List Kept) (these : List Entry) → Lined f k others those these → (x : List ℕ)
      → front ++ x ≡ sheet_by f k others those these → Apart x (drop at input)

module _ (k : Series) (input : List ℕ) (at : ℕ) where
  pub broken_series : (f : Form) → Parted (form_line f) at input → starts_with (series_line k) (drop at input) ≡ false → Broken f k input at
  unfolding right_by
  broken_series f p none =
      let (g, v, n) = named_on k [] refl (omega arith) in
      record {
        front = form_line f;
        parted = p;
        lined = form_lines f;
        settings = g;
        values = v;
        entries = [];
        shown = unlisted f k g v n;
        more = body_by k g v ++ tail_by f k [];
        whole = refl;
        apart = λ others those these m x e.
            on (series_line k) _ (form_off f _ _ e ∙ append_assoc (series_line k) _ (tail_by f k these)) (series_line_lem k) none;
      }

  pub broken_setting : (f : Form) (settings : List ℕ) → Parted (form_line f ++ (series_line k ++ lines_by (setting_lines k) 0 settings)) at input
      → right_by (setting_lines k) [] 0 settings ≡ true → length settings < settings_n k
      → NoLine (setting_lines k) settings (0 + length settings) (drop at input) → Broken f k input at
  unfolding right_by
  broken_setting f settings p r less none =
      let (g, v, n) = named_on k settings r (omega arith) in
      let first = series_line k ++ part k settings in
      let rest = lines_by (setting_lines k) (0 + length settings) g in
      let on-body : first ++ (rest ++ text k v) ≡ body_by k (settings ++ g) v =
      append_assoc (series_line k) (part k settings) (rest ++ text k v)
      ∙ ap (λ (l : List ℕ). series_line k ++ l) (sym (append_assoc (part k settings) rest (text k v)))
      ∙ ap (λ (l : List ℕ). series_line k ++ (l ++ text k v)) (sym (lines_append (setting_lines k) 0 settings g)) in
      record {
        front = form_line f ++ first;
        parted = p;
        lined = lines_more (form_line f) first (form_lines f) (settings_lines k settings r);
        settings = settings ++ g;
        values = v;
        entries = [];
        shown = unlisted f k (settings ++ g) v n;
        more = (rest ++ text k v) ++ tail_by f k [];
        whole = three' (form_line f) first (rest ++ text k v) (tail_by f k []) ∙ ap (λ (l : List ℕ). form_line f ++ (l ++ tail_by f k [])) on-body;
        apart = λ others those these m x e.
            stop_apart (setting_lines k) (setting_said_lem k) (setting_ends k) settings others x (drop at input) (text k those ++ tail_by f k these) r
            m.named.settings_right (omega (arith, m.named.settings_long)) none
            (one_line (series_line k) (series_line k) _ _ (series_line_lem k) (series_line_lem k)
            (sym (append_assoc (series_line k) (part k settings) x)
            ∙ form_off f _ _ (sym (append_assoc (form_line f) first x) ∙ e)
            ∙ three (series_line k) (part k others) (text k those) (tail_by f k these))).1;
      }

  pub broken_value : (f : Form) (settings : List ℕ) (values : List Kept) → Parted (form_line f ++ body_by k settings values) at input
      → length settings ≡ settings_n k → right_by (setting_lines k) [] 0 settings ≡ true → right_by value_lines [] 0 values ≡ true → length values < values_n
      → NoLine value_lines values (0 + length values) (drop at input) → Broken f k input at
  broken_value f settings values p long r rv less none =
      let (v, many, rights) = values_on k values rv (omega arith) in
      let body = body_by k settings values in
      let rest = lines_by value_lines (0 + length values) v in
      let on-body : body ++ rest ≡ body_by k settings (values ++ v) =
      three (series_line k) (part k settings) (text k values) rest
      ∙ ap (λ (l : List ℕ). series_line k ++ (part k settings ++ l)) (sym (lines_append value_lines 0 values v)) in
      record {
        front = form_line f ++ body;
        parted = p;
        lined = lines_more (form_line f) body (form_lines f) (body_lines k settings values r rv);
        settings = settings;
        values = values ++ v;
        entries = [];
        shown = unlisted f k settings (values ++ v) (record { settings_long = long; settings_right = r; values_long = many; values_right_lem = rights });
        more = rest ++ tail_by f k [];
        whole = three' (form_line f) body rest (tail_by f k []) ∙ ap (λ (l : List ℕ). form_line f ++ (l ++ tail_by f k [])) on-body;
        apart = λ others those these m x e.
            stop_apart value_lines value_said value_ends values those x (drop at input) (tail_by f k these) rv m.named.values_right_lem
            (omega (arith, m.named.values_long)) none
            (settings_off k settings others (text k values ++ x) (text k those ++ tail_by f k these) long r m.named.settings_long m.named.settings_right
            (sym (three (series_line k) (part k settings) (text k values) x)
            ∙ form_off f _ _ (sym (append_assoc (form_line f) body x) ∙ e)
            ∙ three (series_line k) (part k others) (text k those) (tail_by f k these)));
      }

  pub broken_count : (settings : List ℕ) (values : List Kept) → Parted (form_line Two ++ body_by k settings values) at input → Named k settings values
      → NoLine count_lines [] 0 (drop at input) → Broken Two k input at
  broken_count settings values p n none =
      let body = body_by k settings values in
      record {
        front = form_line Two ++ body;
        parted = p;
        lined = lines_more (form_line Two) body (form_lines Two) (body_lines k settings values n.settings_right n.values_right_lem);
        settings = settings;
        values = values;
        entries = [];
        shown = unlisted Two k settings values n;
        more = tail_by Two k [];
        whole = append_assoc (form_line Two) body (tail_by Two k []);
        apart = λ others those these m x e.
            let may = le-leb (length these) entries_n m.listed.few in
            on (count_line (length these)) (list k these) (body_off k Two settings others values those x (tail_by Two k these) n m.named e)
            (count_ends [] 0 (length these) may) (none (length these) may);
      }

  pub broken_entry : (settings : List ℕ) (values : List Kept) (n : ℕ) (entries : List Entry)
      → Parted (form_line Two ++ (body_by k settings values ++ (count_line n ++ lines_by (entry_lines k) 0 entries))) at input → Named k settings values
      → n ≤ entries_n → right_by (entry_lines k) [] 0 entries ≡ true → length entries < n
      → NoLine (entry_lines k) entries (0 + length entries) (drop at input) → Broken Two k input at
  broken_entry settings values n entries p named few r less none =
      let body = body_by k settings values in
      let counted = count_line n ++ list k entries in
      let (z, many, rights) = filled_to (entry_lines k) (λ got i. entry_of (Stored 0) 0 None) (λ got i. refl) n entries r (omega arith) in
      let rest = lines_by (entry_lines k) (0 + length entries) z in
      let on_list : counted ++ rest ≡ tail_by Two k (entries ++ z) =
      append_assoc (count_line n) (list k entries) rest ∙ (λ i. count_line (sym many i) ++ sym (lines_append (entry_lines k) 0 entries z) i) in
      record {
        front = form_line Two ++ (body ++ counted);
        parted = p;
        lined = lines_more (form_line Two) (body ++ counted) (form_lines Two)
            (lines_more body counted (body_lines k settings values named.settings_right named.values_right_lem) (list_lines k n entries few r));
        settings = settings;
        values = values;
        entries = entries ++ z;
        shown = record { named = named; listed = record { few = omega (arith, many); each = rights }; shows = tt };
        more = rest;
        whole = three (form_line Two) body counted rest ∙ ap (λ (l : List ℕ). form_line Two ++ (body ++ l)) on_list;
        apart = λ others those these m x e.
            let tail = body_off k Two settings others values those (counted ++ x) (tail_by Two k these) named m.named
            (sym (four (form_line Two) body counted x) ∙ e) in
            let c = count_off n (length these) (list k entries ++ x) (list k these) few m.listed.few
            (sym (append_assoc (count_line n) (list k entries) x) ∙ tail) in
            stop_apart (entry_lines k) (entry_said_lem k) (entry_ends k) entries these x (drop at input) [] r m.listed.each (omega (arith, c.0)) none
            (c.1 ∙ sym (append-nil (list k these)));
      }

  pub broken_surplus : (f : Form) (settings : List ℕ) (values : List Kept) (entries : List Entry) → Parted (sheet_by f k settings values entries) at input
      → at < length input → Lined f k settings values entries → Broken f k input at
  broken_surplus f settings values entries p more n = record {
    front = sheet_by f k settings values entries;
    parted = p;
    lined = sheet_lines k f settings values entries n;
    settings = settings;
    values = values;
    entries = entries;
    shown = n;
    more = [];
    whole = append-nil _;
    apart = λ others those these m x e. over (no_more k f settings others values those entries these x n m e) (omega (arith, length-drop at input));
  }
