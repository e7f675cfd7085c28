-- Laws of what loading answers: what is kept of a part that came to its end, what the sheet is loaded as, and the image of that.
use Prim.Native.Nat.{ℕ, zero, suc, ◌+◌, ◌-◌, ◌≤◌}
use mathlib.Core.Path.{◌≡◌, refl, sym, ap, ◌∙◌}
use mathlib.Core.Bool.{Bool, true, false, cond}
use mathlib.Core.List.{List, [], ◌++◌, append-nil}
use native.Mathlib.Numerals.{add-one}
use native.Mathlib.Omega.{arith}
use borrow.Author.Tests.{eq-eqb, ne_eqb}
use lib.Dec.{eqb}
use lib.ListN.{length, get_or, take, drop, replicate, length-drop, drop_of_length-le, length-replicate, take-append-drop, get_or-append}
use lib.Seq.{length-take-le}
use Rattle.figures.specs.Bytes.{starts_with}
use Rattle.figures.proofs.Bytes.{laid_fits, length_laid, starts_length}
use Rattle.figures.proofs.Tests.{by_test}
use Rattle.state.specs.Entries.{entries_n, blank_entry, no_entries, with_entries, Contents, contents_right, is_state}
use Rattle.instrument.specs.Values.{values_n}
use Rattle.instrument.specs.Settings.{settings_n, settings_most, padded}
use Rattle.instrument.specs.declared.settings.Series.{Series}
use Rattle.state.specs.Image.{image_of, series_in, is_image}
use Rattle.state.specs.Keeping.{Imaged, cleared, contents_laid, entry_laid, count_laid}
use Rattle.state.specs.declared.entries.Entry.{Entry}
use Rattle.state.proofs.Images.{Shaped, shaped, padded_held}
use Rattle.state.proofs.Steps.{state_parts, none_state}
use Rattle.state.proofs.Places.{contents_cleared}
use Rattle.state.proofs.Listed.{listed_to, listed_more, listed_all}
use Rattle.instrument.specs.Values.{Kept}
use Rattle.sheets.specs.Lines.{Came, Part, lines_by}
use Rattle.sheets.specs.Sheet.{series_line, setting_lines, value_lines}
use Rattle.sheets.specs.Undo.{form_line}
use Rattle.sheets.specs.Loading.{Loading, wrong, right, listed, after_entries, after_count, count_from, entries_from, list_from, undo_from, values_from}
use Rattle.sheets.specs.Loading.{FirstLines, first_wrong_at, settings_in, after_settings, first_lines, after_undo, contents_named, after_first, loading_as, form_in}
use Rattle.sheets.specs.Loading.{loading_of, loaded_state, Loaded·image, loaded_by, loaded, Loads}
use Rattle.sheets.specs.Keeping.{settings_as, values_as, first_held, first_to, first_as, contents_by, entries_filled, counted_to, list_count, entries_laid, undo_laid}
use Rattle.sheets.specs.declared.forms.Form.{Form}
use Rattle.sheets.specs.declared.forms.Form.TheVariants.{One, Two}
use Rattle.std.specs.Prelude.{Result, Ok, Err}
use Rattle.sheets.specs.declared.answers.SheetRefusal.{SheetRefusal}
use Rattle.sheets.specs.declared.answers.SheetRefusal.TheVariants.{NoState, Wrong}
use Rattle.sheets.specs.declared.loading.Taken.{Taken}
use Rattle.sheets.specs.declared.loading.First.{First}
use Rattle.sheets.proofs.Partwise.{kept_astray, kept_whole, came, wrong_came, starts_parted, TakenLines, taken_within, part_taken}
use Rattle.sheets.proofs.Says.{setting_said_lem, value_said, Named}
use Rattle.sheets.proofs.Lined.{named_contents}
use Rattle.sheets.proofs.Sheets.{body_by, four, Parted, parted_as, parted_on, parted_starts, parted_within}
use Rattle.std.specs.Prelude.{None}

-- what the code keeps of a part that came to its end

pub settings_kept : (at i : ℕ) (got : List ℕ) → length got ≡ settings_most → drop i got ≡ drop i (replicate settings_most 0) → i ≤ settings_most
    → settings_as (came at (take i got)) ≡ Ok (record { to = at; held = got })
settings_kept at i got long past few =
    let blanks : List ℕ = replicate settings_most 0 in
    let n : length (take i got) ≡ i = length-take-le i got (omega arith) in
    let fits : length (take i got) ≤ length blanks = omega (arith, length-replicate {A = ℕ} settings_most 0) in
    let all : padded (take i got) ≡ got =
    laid_fits (take i got) blanks fits
    ∙ ap (λ (j : ℕ). take i got ++ drop j blanks) n
    ∙ ap (λ (l : List ℕ). take i got ++ l) (sym past)
    ∙ take-append-drop i got in
    λ j. Ok (record { to = at; held = all j })

values_filled : (got : List Kept) → length got ≡ values_n → got ++ drop (length got) (replicate values_n None) ≡ got
values_filled got h =
    let nevers : List Kept = replicate values_n None in
    rw (drop_of_length-le nevers {i = length got} (omega arith)) (append-nil got)

pub values_kept : (at : ℕ) (got : List Kept) → length got ≡ values_n → values_as (came at got) ≡ Ok (record { to = at; held = got })
values_kept at got h = λ j. Ok (record { to = at; held = values_filled got h j })

-- the first form's lines, once they came to their end

module _ (k : Series) (sheet : List ℕ) (start : ℕ) (there : start ≤ length sheet) where
  abbrev head : List ℕ
  head = series_line k

  -- the series' line stands, and then as many settings as the series has
  settings_by : (at : ℕ) (settings : List ℕ) → settings_in k sheet start ≡ came at settings
      → (starts_with head (drop start sheet) ≡ true) × TakenLines (setting_lines k) (settings_n k) [] 0 sheet (start + length head) at settings
  settings_by at settings q =
      by_test (starts_with head (drop start sheet))
      (λ e. (e, part_taken (setting_lines k) (settings_n k) (start + length head) sheet at settings (setting_said_lem k) (rw e at q)))
      (λ e. absurd (wrong_came (rw e at q)))

  pub settings_taken : (at : ℕ) → (settings_in k sheet start).came ≡ Ok at → at ≤ length sheet
  settings_taken at e =
      let got = (settings_in k sheet start).got in
      let t = settings_by at got (λ j. record { came = e j; got = got }) in
      taken_within t.1 (omega (arith, starts_length head (drop start sheet) t.0, length-drop start sheet))

-- the form's line and the first form's lines stand before a place
pub record FirstTaken (f : Form) (k : Series) (sheet : List ℕ) (at : ℕ) (settings : List ℕ) (values : List Kept) : Type 0 where
  pub named : Named k settings values
  pub parted : Parted (form_line f ++ body_by k settings values) at sheet

pub wrong_to : {a to : ℕ} → ◌≡◌ {A = Came} (Err a) (Ok to) → ⊥
wrong_to e = let z : ◌≡◌ {A = ℕ} 0 1 = cc in omega arith

module _ (f : Form) (k : Series) (sheet : List ℕ) where
  pub first_formless : starts_with (form_line f) sheet ≡ false → first_lines f k sheet ≡ first_wrong_at 0
  unfolding first_lines
  first_formless e = rw e

  module _ (formed : starts_with (form_line f) sheet ≡ true) where
    abbrev start : ℕ
    start = length (form_line f)

    pub form_within : start ≤ length sheet
    form_within = starts_length (form_line f) sheet formed

    pub first_settings : (c : Came) → (settings_in k sheet start).came ≡ c → first_lines f k sheet ≡ after_settings sheet (settings_in k sheet start).got c
    unfolding first_lines
    first_settings c e =
        ap (λ (b : Bool). cond b (after_settings sheet (settings_in k sheet start).got (settings_in k sheet start).came) (first_wrong_at 0)) formed
        ∙ ap (after_settings sheet (settings_in k sheet start).got) e

    first_by : (at : ℕ) (settings : List ℕ) (values : List Kept) (a : ℕ) → settings_in k sheet start ≡ came a settings → values_from sheet a ≡ came at values
        → FirstTaken f k sheet at settings values
    first_by at settings values a q r =
        let series = series_line k in
        let (stands, t) = settings_by k sheet start form_within a settings q in
        let u = part_taken value_lines values_n a sheet at values value_said r in
        let g = lines_by (setting_lines k) 0 settings in
        let head = parted_starts {front = form_line f} series (record { is = starts_parted (form_line f) sheet formed; here = refl }) stands in
        let lines = parted_on ((form_line f ++ series) ++ g) (parted_on (form_line f ++ series) head t) u in
        record {
          named = record { settings_long = t.long; settings_right = t.judged; values_long = u.long; values_right_lem = u.judged };
          parted = parted_as (four (form_line f) series g (lines_by value_lines 0 values)) lines;
        }

    -- as they are kept
    module _ (settings : Result (Taken (List ℕ)) SheetRefusal) (named : settings ≡ settings_as (settings_in k sheet start)) where
      abbrev part : Part ℕ
      part = settings_in k sheet start

      pub first_astray : {e : SheetRefusal} → settings ≡ Err e → Err e ≡ first_as (first_lines f k sheet)
      first_astray {e} z =
          let s = kept_astray (padded part.got) part.came (sym named ∙ z) in
          ap (λ (r : SheetRefusal). Err r) s.tells ∙ ap first_as (sym (first_settings (Err s.at) s.came))

      module _ (t : Taken (List ℕ)) (ok : settings ≡ Ok t) where
        settings_to : part.came ≡ Ok t.to
        settings_to = (kept_whole (padded part.got) part.came (sym named ∙ ok)).0

        pub settings_within : t.to ≤ length sheet
        settings_within = settings_taken k sheet start form_within t.to settings_to

        module _ (values : Result (Taken (List Kept)) SheetRefusal) (are : values ≡ values_as (values_from sheet t.to)) where
          abbrev rest : Part Kept
          rest = values_from sheet t.to

          filled : List Kept
          filled = rest.got ++ drop (length rest.got) (replicate values_n None)

          first_is : (c : Came) → rest.came ≡ c → first_lines f k sheet ≡ record { came = c; settings = part.got; values = rest.got }
          first_is c q = first_settings (Ok t.to) settings_to ∙ (λ j. record { came = q j; settings = part.got; values = rest.got })

          pub first_valueless : {e : SheetRefusal} → values ≡ Err e → Err e ≡ first_as (first_lines f k sheet)
          unfolding filled
          first_valueless {e} z =
              let s = kept_astray filled rest.came (sym are ∙ z) in
              ap (λ (r : SheetRefusal). Err r) s.tells ∙ ap first_as (sym (first_is (Err s.at) s.came))

          pub first_whole : (u : Taken (List Kept)) → values ≡ Ok u
              → Ok (record { to = u.to; settings = t.held; values = u.held }) ≡ first_as (first_lines f k sheet)
          unfolding filled
          first_whole u z =
              let s = kept_whole filled rest.came (sym are ∙ z) in
              let p = kept_whole (padded part.got) part.came (sym named ∙ ok) in
              (λ j. Ok (record { to = u.to; settings = p.1 j; values = s.1 j })) ∙ ap first_as (sym (first_is (Ok u.to) s.0))

  pub first_taken : (at : ℕ) → (first_lines f k sheet).came ≡ Ok at → FirstTaken f k sheet at (first_lines f k sheet).settings (first_lines f k sheet).values
  first_taken at e =
      by_test (starts_with (form_line f) sheet)
      (λ s. by s (settings_in k sheet (length (form_line f))).came refl)
      (λ s. absurd (wrong_to (sym (ap (λ (p : FirstLines). p.came) (first_formless s)) ∙ e)))
    where
      by : starts_with (form_line f) sheet ≡ true → (c : Came) → (settings_in k sheet (length (form_line f))).came ≡ c
          → FirstTaken f k sheet at (first_lines f k sheet).settings (first_lines f k sheet).values
      by s (Err a) q = absurd (wrong_to (sym (ap (λ (p : FirstLines). p.came) (first_settings s (Err a) q)) ∙ e))
      by s (Ok a) q =
          let so = first_settings s (Ok a) q in
          let settings = (settings_in k sheet (length (form_line f))).got in
          let values = (values_from sheet a).got in
          let to = sym (ap (λ (p : FirstLines). p.came) so) ∙ e in
          rw so (first_by s at settings values a (λ j. record { came = q j; got = settings }) (λ j. record { came = to j; got = values }))

-- no list that is taken is longer than a state's

entries_few : (c : Contents) (sheet : List ℕ) (undo : ℕ) (entries : List Entry) (m : Came) → length (after_entries c sheet undo entries m).got ≤ entries_n
entries_few c sheet undo entries (Err at) = omega arith
entries_few c sheet undo entries (Ok at) =
    by_test (eqb at (length sheet))
    (λ e. by_test (is_state (listed c entries)) (λ s. rw (e, s) (state_parts entries_n (listed c entries) s).few) (λ s. rw (e, s) (omega arith)))
    (λ e. rw e (omega arith))

list_few : (c : Contents) (sheet : List ℕ) (undo : ℕ) (counts : List ℕ) (m : Came) → length (after_count c sheet undo counts m).got ≤ entries_n
list_few c sheet undo counts (Err at) = omega arith
list_few c sheet undo counts (Ok at) =
    let p = entries_from c.series (get_or counts 0 0) sheet at in entries_few c sheet undo p.got p.came

undo_few : (f : Form) (c : Contents) (sheet : List ℕ) (at : ℕ) → length (undo_from f c sheet at).got ≤ entries_n
unfolding undo_from
undo_few One c sheet at = by_test (eqb at (length sheet)) (λ e. rw e (omega arith)) (λ e. rw e (omega arith))
undo_few Two c sheet at = let p = count_from sheet at in list_few c sheet at p.got p.came

-- what follows by the form: in the first nothing may, in the second the list

module _ {f : Form} (one : f ≡ One) (c : Contents) (sheet : List ℕ) (at : ℕ) where
  follows_none : at ≡ length sheet → undo_from f c sheet at ≡ came at []
  unfolding undo_from
  follows_none e = rw (one, eq-eqb at (length sheet) e)

  follows_wrong : (at ≡ length sheet → ⊥) → (undo_from f c sheet at).came ≡ Err at
  unfolding undo_from
  follows_wrong e = rw (one, ne_eqb at (length sheet) e)

follows_two : {f : Form} → f ≡ Two → (c : Contents) (sheet : List ℕ) (at : ℕ) → undo_from f c sheet at ≡ list_from c sheet at
unfolding undo_from
follows_two e c sheet at = ap (λ (g : Form). undo_from g c sheet at) e

-- what the sheet is loaded as

-- settings and values that the first form's lines hold, and the list that is read over them
abbrev pub contents_in : Form → Series → List ℕ → Contents
contents_in f k sheet = let p = first_lines f k sheet in contents_named k p.settings p.values

abbrev pub undo_in : Form → Series → List ℕ → ℕ → Part Entry
undo_in f k sheet at = undo_from f (contents_in f k sheet) sheet at

module _ (f : Form) (k : Series) (sheet : List ℕ) where
  abbrev first : FirstLines
  first = first_lines f k sheet

  first_wrong : (at : ℕ) → first.came ≡ Err at → loading_as f k sheet ≡ wrong at
  first_wrong at e = ap (after_first f k sheet first.settings first.values) e

  module _ (at : ℕ) (came : first.came ≡ Ok at) where
    pub undo_came : (c : Came) → (undo_in f k sheet at).came ≡ c → loading_as f k sheet ≡ after_undo first.settings first.values (undo_in f k sheet at).got c
    undo_came c e =
        ap (after_first f k sheet first.settings first.values) came ∙ ap (after_undo first.settings first.values (undo_in f k sheet at).got) e

    contents_right_lem : contents_right (contents_in f k sheet) ≡ true
    contents_right_lem = named_contents k first.settings first.values (first_taken f k sheet at came).named

    -- settings and values as they are kept
    pub first_kept : let r = first_held first at in contents_by k r.settings r.values ≡ contents_in f k sheet
    first_kept =
        let all = values_filled first.values (first_taken f k sheet at came).named.values_long in
        λ j. contents_by k (padded first.settings) (all j)

    pub kept_right : let r = first_held first at in (contents_right (contents_by k r.settings r.values) ≡ true) × (at ≤ length sheet)
    kept_right = (ap contents_right first_kept ∙ contents_right_lem, parted_within (first_taken f k sheet at came).parted)

    -- the list over them is the second form's
    pub undo_kept : f ≡ Two → let r = first_held first at in list_from (contents_by k r.settings r.values) sheet at ≡ undo_in f k sheet at
    undo_kept two = ap (λ (c : Contents). list_from c sheet at) first_kept ∙ sym (follows_two two (contents_in f k sheet) sheet at)

-- entries laid down one by one: none, one more, and all of them in an image that has none

pub laid_none : (k : Series) (entries : List Entry) (image : List ℕ) → image ≡ entries_laid k entries 0 image
unfolding entries_laid
laid_none k entries image = refl

pub laid_more : (k : Series) (entries : List Entry) (i : ℕ) (image : List ℕ) {one two : List ℕ} → one ≡ entries_laid k entries i image
    → two ≡ entry_laid k i (get_or entries i blank_entry) one → two ≡ entries_laid k entries (i + 1) image
unfolding entries_laid
laid_more k entries i image first next =
    next ∙ ap (entry_laid k i (get_or entries i blank_entry)) first ∙ ap (λ (n : ℕ). entries_laid k entries n image) (sym (add-one i))

module _ (k : Series) (settings : List ℕ) (values : List Kept) (now : contents_right (contents_by k settings values) ≡ true) (entries : List Entry)
    (few : length entries ≤ entries_n) (past : List Entry) where
  abbrev bare : List ℕ
  bare = image_of (no_entries k settings values)

  shape : Shaped (no_entries k settings values)
  shape = shaped (no_entries k settings values) (none_state k settings values now)

  entries_laid_lem : (n : ℕ) → n ≤ length entries → entries_laid k (entries ++ past) n bare ≡ image_of (listed_to k settings values entries n)
  unfolding entries_laid
  entries_laid_lem zero h = refl
  entries_laid_lem (suc n) h =
      ap (entry_laid k n (get_or (entries ++ past) n blank_entry)) (entries_laid_lem n (omega arith))
      ∙ ap (λ (e : Entry). entry_laid k n e (image_of (listed_to k settings values entries n))) (get_or-append entries past blank_entry n h)
      ∙ listed_more k settings values shape entries few n h
      ∙ ap (λ (m : ℕ). image_of (listed_to k settings values entries m)) (add-one n)

  pub undo_laid_lem : undo_laid k (entries ++ past) (length entries) bare ≡ image_of (with_entries k settings values entries)
  undo_laid_lem =
      ap (count_laid k (length entries)) (entries_laid_lem (length entries) (omega arith))
      ∙ listed_all k settings values shape entries few

-- the answer

module _ (image sheet : List ℕ) where
  pub loads_none : is_image image ≡ false → Loads image sheet (Err NoState) image
  loads_none i =
      let k = series_in image in
      let e : loaded image sheet ≡ record { answer = Err NoState; image = image } =
      ap (λ (b : Bool). cond b (loaded_by k image (loading_of k sheet)) (record { answer = Err NoState; image = image })) i in
      (ap (λ (l : Loaded·image). l.answer) (sym e), ap (λ (l : Loaded·image). l.image) (sym e))

module _ {k : Series} {image : List ℕ} (im : Imaged k image) (sheet : List ℕ) {f : Form} (form : f ≡ form_in sheet) where
  by : (l : Loading) → loading_as f k sheet ≡ l → loaded image sheet ≡ loaded_by k image l
  by l e =
      ap (λ (b : Bool). cond b (loaded_by (series_in image) image (loading_of (series_in image) sheet)) (record { answer = Err NoState; image = image })) im.is
      ∙ ap (λ (t : Series). loaded_by t image (loading_of t sheet)) (sym im.series)
      ∙ ap (λ (g : Form). loaded_by k image (loading_as g k sheet)) (sym form)
      ∙ ap (loaded_by k image) e

  pub loads_wrong : (at : ℕ) {e : SheetRefusal} → e ≡ Wrong at → loading_as f k sheet ≡ wrong at → Loads image sheet (Err e) image
  loads_wrong at tells e =
      (ap (λ (r : SheetRefusal). Err r) tells ∙ ap (λ (l : Loaded·image). l.answer) (sym (by (wrong at) e)), ap (λ (l : Loaded·image). l.image) (sym (by (wrong at) e)))

  -- the first form's lines as they were read
  module _ (first : Result First SheetRefusal) (is : first ≡ first_as (first_lines f k sheet)) where
    abbrev p : FirstLines
    p = first_lines f k sheet

    pub loads_astray : {e : SheetRefusal} → first ≡ Err e → Loads image sheet (Err e) image
    loads_astray {e} z = read p.came refl
      where
        read : (c : Came) → p.came ≡ c → Loads image sheet (Err e) image
        read (Err at) q =
            let so : first_to p (Err at) ≡ Err e = ap (first_to p) (sym q) ∙ sym is ∙ z in
            let tells : e ≡ Wrong at = cc in loads_wrong at tells (first_wrong f k sheet at q)
        read (Ok at) q = let so : first_to p (Ok at) ≡ Err e = ap (first_to p) (sym q) ∙ sym is ∙ z in absurd (cc so)

    module _ (r : First) (ok : first ≡ Ok r) where
      record Read : Type 0 where
        came : p.came ≡ Ok r.to
        held : r ≡ first_held p r.to

      read : Read
      read = by_came p.came refl
        where
          by_came : (c : Came) → p.came ≡ c → Read
          by_came (Err at) q = let so : first_to p (Err at) ≡ Ok r = ap (first_to p) (sym q) ∙ sym is ∙ ok in absurd (cc so)
          by_came (Ok at) q =
              let so : first_to p (Ok at) ≡ Ok r = ap (first_to p) (sym q) ∙ sym is ∙ ok in
              let same : r ≡ first_held p at = cc in
              let to : at ≡ r.to = ap (λ (x : First). x.to) (sym same) in
              record { came = q ∙ ap (λ (n : ℕ). Ok n) to; held = same ∙ ap (first_held p) to }

      contents_read : contents_by k r.settings r.values ≡ contents_in f k sheet
      contents_read = ap (λ (x : First). contents_by k x.settings x.values) read.held ∙ first_kept f k sheet r.to read.came

      pub first_right : (contents_right (contents_by k r.settings r.values) ≡ true) × (r.to ≤ length sheet)
      first_right = rw read.held (kept_right f k sheet r.to read.came)

      abbrev list : Part Entry
      list = undo_in f k sheet r.to

      -- what was read is laid into the image, its list is cleared, and then the entries are laid down, where there are any
      loads_by : (end : ℕ) → list.came ≡ Ok end → (last : List ℕ) → last ≡ image_of (loaded_state k p.settings p.values list.got)
          → Loads image sheet (Ok tt) last
      loads_by end ended last e =
          let so = by (right p.settings p.values list.got) (undo_came f k sheet r.to read.came (Ok end) ended) in
          (ap (λ (l : Loaded·image). l.answer) (sym so), e ∙ ap (λ (l : Loaded·image). l.image) (sym so))

      module _ (one two : List ℕ) (e1 : one ≡ contents_laid k r.settings r.values image) (e2 : two ≡ cleared k one) where
        emptied : two ≡ image_of (loaded_state k p.settings p.values [])
        emptied =
            let n = (first_taken f k sheet r.to read.came).named in
            e2 ∙ ap (cleared k) (e1 ∙ ap (λ (x : Contents). contents_laid k x.settings x.values image) contents_read)
            ∙ contents_cleared im (padded p.settings) p.values (length_laid p.settings (replicate settings_most 0))
            (ap padded (padded_held k p.settings n.settings_long)) n.values_long

        pub loads_one : f ≡ One → r.to ≡ length sheet → Loads image sheet (Ok tt) two
        loads_one e here =
            let so = follows_none e (contents_in f k sheet) sheet r.to here in
            loads_by r.to (ap (λ (q : Part Entry). q.came) so) two
            (emptied ∙ ap (λ (q : Part Entry). image_of (loaded_state k p.settings p.values q.got)) (sym so))

        -- whatever the form is
        pub loads_listed : (end : ℕ) → list.came ≡ Ok end → (three : List ℕ) → three ≡ undo_laid k (entries_filled list.got) (length list.got) two
            → Loads image sheet (Ok tt) three
        loads_listed end ended three e3 =
            let got = list.got in
            loads_by end ended three
            (e3 ∙ ap (undo_laid k (entries_filled got) (length got)) emptied
            ∙ undo_laid_lem k (padded p.settings) p.values (contents_right_lem f k sheet r.to read.came) got (undo_few f (contents_in f k sheet) sheet r.to)
            (replicate (entries_n - length got) blank_entry))

      pub loads_surplus : f ≡ One → (r.to ≡ length sheet → ⊥) → Loads image sheet (Err (Wrong r.to)) image
      loads_surplus one past =
          loads_wrong r.to refl (undo_came f k sheet r.to read.came (Err r.to) (follows_wrong one (contents_in f k sheet) sheet r.to past))

      -- the list, in the second form
      module _ (two_lem : f ≡ Two) (told : Result ℕ SheetRefusal) (listed : told ≡ list_count (list_from (contents_by k r.settings r.values) sheet r.to)) where
        over : list_from (contents_by k r.settings r.values) sheet r.to ≡ list
        over = ap (λ (x : First). list_from (contents_by k x.settings x.values) sheet r.to) read.held ∙ undo_kept f k sheet r.to read.came two_lem

        list_read : told ≡ list_count list
        list_read = listed ∙ ap list_count over

        pub loads_unlisted : {e : SheetRefusal} → told ≡ Err e → Loads image sheet (Err e) image
        loads_unlisted {e} z = by_came list.came refl
          where
            by_came : (c : Came) → list.came ≡ c → Loads image sheet (Err e) image
            by_came (Err at) q =
                let so : counted_to (length list.got) (Err at) ≡ Err e = ap (counted_to (length list.got)) (sym q) ∙ sym list_read ∙ z in
                let tells : e ≡ Wrong at = cc in loads_wrong at tells (undo_came f k sheet r.to read.came (Err at) q)
            by_came (Ok at) q =
                let so : counted_to (length list.got) (Ok at) ≡ Err e = ap (counted_to (length list.got)) (sym q) ∙ sym list_read ∙ z in
                absurd (cc so)

        module _ (n : ℕ) (counted : told ≡ Ok n) where
          record Listed : Type 0 where
            end : ℕ
            came : list.came ≡ Ok end
            count : n ≡ length list.got

          list_held : Listed
          list_held = by_came list.came refl
            where
              by_came : (c : Came) → list.came ≡ c → Listed
              by_came (Err at) q =
                  let so : counted_to (length list.got) (Err at) ≡ Ok n = ap (counted_to (length list.got)) (sym q) ∙ sym list_read ∙ counted in
                  absurd (cc so)
              by_came (Ok at) q =
                  let so : counted_to (length list.got) (Ok at) ≡ Ok n = ap (counted_to (length list.got)) (sym q) ∙ sym list_read ∙ counted in
                  record { end = at; came = q; count = cc }

          pub count_few : n ≤ entries_n
          count_few = omega (arith, list_held.count, undo_few f (contents_in f k sheet) sheet r.to)

          pub loads_two : (entries : List Entry) → entries ≡ entries_filled (list_from (contents_by k r.settings r.values) sheet r.to).got
              → (one two three : List ℕ) → one ≡ contents_laid k r.settings r.values image → two ≡ cleared k one
              → three ≡ undo_laid k entries n two → Loads image sheet (Ok tt) three
          loads_two entries are one two three e1 e2 e3 =
              let filled : entries ≡ entries_filled list.got = are ∙ ap (λ (p : Part Entry). entries_filled p.got) over in
              loads_listed one two e1 e2 list_held.end list_held.came three (e3 ∙ (λ j. undo_laid k (filled j) (list_held.count j) two))

-- the first form's returns, as the code comes to them: what stands after its lines is the first wrong line, and else the image is that of what they hold
module _ (image sheet : List ℕ) (right : is_image image ≡ true) (one : form_in sheet ≡ One) where
  abbrev k : Series
  k = series_in image

  im : Imaged k image
  im = record { is = right; series = refl }

  surplus : (at : ℕ) → (first_lines (form_in sheet) k sheet).came ≡ Ok at → (at ≡ length sheet → ⊥) → Loads image sheet (Err (Wrong at)) image
  surplus at to past =
      loads_wrong im sheet refl at refl
      (undo_came (form_in sheet) k sheet at to (Err at) (follows_wrong one (contents_in (form_in sheet) k sheet) sheet at past))

  pub surplus_told : (at : ℕ) → (first_lines (form_in sheet) k sheet).came ≡ Ok at → (at ≡ length sheet → ⊥)
      → Err (Wrong at) ≡ (loaded image sheet).answer
  surplus_told at to past = (surplus at to past).0

  pub surplus_left : ((first_lines (form_in sheet) k sheet).came ≡ Ok (length sheet) → ⊥) → image ≡ (loaded image sheet).image
  surplus_left past = by (first_lines (form_in sheet) k sheet).came refl
    where
      by : (m : Came) → (first_lines (form_in sheet) k sheet).came ≡ m → image ≡ (loaded image sheet).image
      by (Err at) e = (loads_wrong im sheet refl at refl (first_wrong (form_in sheet) k sheet at e)).1
      by (Ok at) e = (surplus at e (λ q. past (e ∙ ap (λ (n : ℕ). Ok n) q))).1

  pub loads_first : (first_lines (form_in sheet) k sheet).came ≡ Ok (length sheet) → (last : List ℕ)
      → let r = first_held (first_lines (form_in sheet) k sheet) (length sheet) in last ≡ cleared k (contents_laid k r.settings r.values image)
      → Loads image sheet (Ok tt) last
  loads_first to last e =
      let p = first_lines (form_in sheet) k sheet in
      let r = first_held p (length sheet) in
      loads_one im sheet refl (first_as p) refl r (ap (first_to p) to) (contents_laid k r.settings r.values image) last refl e one refl
