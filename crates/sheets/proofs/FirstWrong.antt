-- 40 is told at the first wrong line: the bytes before it begin some sheet of the series, and none goes on as the input does; or at `undo=`, where each line is
-- right but no state has that list.
use Prim.Native.Nat.{ℕ, suc, ◌+◌, ◌<◌}
use mathlib.Core.Path.{◌≡◌, refl, sym, ap, subst, ◌∙◌}
use mathlib.Core.Bool.{Bool, true, false, cond, false≢true}
use mathlib.Core.List.{List, [], ◌∷◌, ◌++◌, append_assoc, append-nil}
use native.Mathlib.Omega.{arith}
use borrow.Author.Tests.{eqb-true, eqb-false}
use lib.Dec.{eqb}
use lib.ListN.{length, get_or, take, drop, length-append, length-drop, take-append-drop}
use lib.Seq.{take_at, take-add, take_all, take-suc}
use Rattle.figures.specs.Bytes.{starts_with}
use Rattle.figures.proofs.Bytes.{starts_append}
use Rattle.figures.proofs.Tests.{clash, by_test}
use Rattle.instrument.specs.Settings.{held}
use Rattle.instrument.specs.declared.settings.Series.{Series}
use Rattle.instrument.specs.Values.{Kept}
use Rattle.state.specs.Image.{series_in}
use Rattle.state.specs.declared.entries.Entry.{Entry}
use Rattle.state.specs.declared.entries.State.{State}
use Rattle.sheets.specs.Lines.{lines_by}
use Rattle.sheets.specs.Sheet.{series_line, setting_lines, value_lines, sheet_of}
use Rattle.sheets.specs.Undo.{form_line, count_line, entry_lines, sheet_as}
use Rattle.sheets.specs.Loading.{Loading, wrong, right, loaded_state, loading_as, form_in, loading_of, Loaded·image, loaded}
use Rattle.sheets.specs.Writing.{series_named, moved_by, moved_sheet}
use Rattle.sheets.specs.FirstWrong.{are_lines, has_no_lf, line_n, is_lined, NoneBegins, FirstWrong, Tells, wrong_line, no_list}
use Rattle.sheets.specs.Keeping.{is_of}
use Rattle.sheets.specs.declared.forms.Form.{Form}
use Rattle.sheets.specs.declared.forms.Form.TheVariants.{One, Two}
use Rattle.sheets.specs.declared.answers.SheetRefusal.TheVariants.{Wrong}
use Rattle.sheets.specs.Answers.{Sheeted}
use Rattle.std.specs.Prelude.{Err}
use Rattle.sheets.proofs.Partwise.{starts_parted}
use Rattle.sheets.proofs.Sheets.{body_by, tail_by, sheet_by, four, sheet_one, sheet_by_lem, form_in_lem, sheet_loads_of, series_apart, one_series}
use Rattle.sheets.proofs.Sheets.{sheet_back, Parted, parted_all, parted_within, Ways, other_form, other_series, setting, value, count, entry, surplus, no_list as unlisted}
use Rattle.sheets.proofs.Sheets.{through, wrong_right, ways, loads_sheet}
use Rattle.sheets.proofs.Images.{LoadsAs, lent_none, lent_wrong, lent_right, loads_as}
use Rattle.sheets.proofs.Moves.{move_takes}
use Rattle.sheets.proofs.Moved.{form_of, of_own, not_of_form}
use Rattle.sheets.proofs.Sizes.{series_long}
use Rattle.sheets.proofs.Lined.{Lined, entries_in, lined_as, shown_lined}
use Rattle.sheets.proofs.Ended.{OneLf, one_line, first_line, lines_more, one_lines, lines_lf, lines_end, lines_start, form_line_lem}
use Rattle.sheets.proofs.Broken.{Apart, over, on, form_off, no_more, sheet_lines, Broken}
use Rattle.sheets.proofs.Broken.{broken_series, broken_setting, broken_value, broken_count, broken_entry, broken_surplus}

-- the first line tells the form: whole lines that a sheet of a form begins with are judged as that form's, whatever stands after them
pub form_told : (f : Form) (s : State) (l a b : List ℕ) → 0 < length l → are_lines l ≡ true → l ++ a ≡ sheet_as f s → form_in (l ++ b) ≡ f
form_told f s l a b h lines e =
    let same : (x : List ℕ) → starts_with (form_line Two) (l ++ x) ≡ starts_with (form_line Two) l = λ x. lines_start (form_line Two) l x form_line_lem h lines in
    ap (λ (t : Bool). cond t Two One) (same b ∙ sym (same a)) ∙ ap form_in e ∙ form_in_lem f s

sheet_some : (f : Form) (s : State) → 0 < length (sheet_as f s)
sheet_some f s =
    let k = s.series in
    let lines = lines_by (setting_lines k) 0 (held k s.settings) ++ lines_by value_lines 0 s.values in
    let body = series_line k ++ lines in
    let tail = tail_by f k (entries_in f s) in
    let long = length-append (form_line f) (body ++ tail) in
    omega (arith, ap length (sheet_by_lem f s), long, length-append body tail, length-append (series_line k) lines, series_long k)

-- and an input starts as its form does
starts_own : (input : List ℕ) → starts_with (form_line (form_in input)) input ≡ true
unfolding starts_with
starts_own input = by_test (starts_with (form_line Two) input) (λ e. rw (e, e)) (λ e. rw e)

-- a sheet of the series, by what it shows
pub as_lined : (f : Form) (k : Series) (s : State) → is_lined s ≡ true → s.series ≡ k →
    let settings = held s.series s.settings in
    Lined f k settings s.values (entries_in f s) × (sheet_as f s ≡ sheet_by f k settings s.values (entries_in f s))
as_lined f k s e of =
    let settings = held s.series s.settings in (
      subst (λ (t : Series). Lined f t settings s.values (entries_in f s)) of (lined_as f s e),
      sheet_by_lem f s ∙ ap (λ (t : Series). sheet_by f t settings s.values (entries_in f s)) of,
    )

-- where the first sheet is the beginning of the second
begins_series : (f : Form) (s : State) (k : Series) (settings : List ℕ) (values : List Kept) (entries : List Entry) (more : List ℕ)
    → sheet_as f s ++ more ≡ sheet_by f k settings values entries → s.series ≡ k
begins_series f s k settings values entries more e =
    let t = s.series in
    let body = body_by t (held t s.settings) s.values in
    let tail = tail_by f t (entries_in f s) in
    series_apart t k _ _
    (sym (four (series_line t) _ tail more)
    ∙ form_off f _ _ (sym (append_assoc (form_line f) (body ++ tail) more) ∙ ap (λ (l : List ℕ). l ++ more) (sym (sheet_by_lem f s)) ∙ e)
    ∙ append_assoc (series_line k) _ (tail_by f k entries))

module _ (k : Series) (input : List ℕ) (at : ℕ) (b : Broken (form_in input) k input at) where
  abbrev own : Form
  own = form_in input

  abbrev front : List ℕ
  front = b.front

  abbrev rest : List ℕ
  rest = drop at input

  front_is : take at input ≡ front
  front_is = ap (take at) b.parted.is ∙ take_at front rest at (sym b.parted.here)

  -- a sheet that begins with the bytes before the place goes on otherwise
  goes_on : (s : State) → is_lined s ≡ true → s.series ≡ k → (x : List ℕ) → front ++ x ≡ sheet_as own s → Apart x rest
  goes_on s e of x q = let t = as_lined own k s e of in b.apart _ _ _ t.0 x (q ∙ t.1)

  no_own : (s : State) → is_lined s ≡ true → s.series ≡ k → sheet_as own s ≡ input → ⊥
  no_own s e of is = by (goes_on s e of rest (sym b.parted.is ∙ sym is))
    where
      by : Apart rest rest → ⊥
      by (over q h) = omega (arith, ap length q)
      by (on line more q p none) = false≢true (sym none ∙ ap (starts_with line) q ∙ starts_append line more)

  no_sheet : has_no_lf rest ≡ true → (f : Form) (s : State) → is_lined s ≡ true → sheet_as f s ≡ input → ⊥
  no_sheet none f s e is =
      let same : f ≡ own = sym (form_in_lem f s) ∙ ap form_in is in
      let as_own : sheet_as own s ≡ input = subst (λ (g : Form). sheet_as g s ≡ input) same is in
      let whole : are_lines input ≡ true = ap are_lines (sym is ∙ sheet_by_lem f s) ∙ sheet_lines s.series f _ _ _ (lined_as f s e) in
      by_test (eqb at (length input))
      (λ y.
      let all : input ≡ front = parted_all b.parted (eqb-true at (length input) y) in
      no_own s e (begins_series own s k _ _ _ b.more (ap (λ (l : List ℕ). l ++ b.more) (as_own ∙ all) ∙ b.whole)) as_own)
      (λ y.
      let some : 0 < length rest = omega (arith, length-drop at input, parted_within b.parted, eqb-false at (length input) y) in
      false≢true (sym (lines_lf rest some (lines_end front rest some (ap are_lines (sym b.parted.is) ∙ whole))) ∙ none))

  no_line : has_no_lf rest ≡ false → NoneBegins k (take (at + line_n rest) input)
  no_line some f s e of =
      let n = line_n rest in
      let line = take n rest in
      let lf = first_line rest some in
      let bytes = take (at + n) input in
      let split : bytes ≡ front ++ line = take-add at n input ∙ ap (λ (l : List ℕ). l ++ line) front_is in
      let more = drop (length bytes) (sheet_as f s) in
      by_test (starts_with bytes (sheet_as f s))
      (λ y.
      let parted : sheet_as f s ≡ bytes ++ more = starts_parted bytes (sheet_as f s) y in
      let lines : are_lines bytes ≡ true = ap are_lines split ∙ lines_more front line b.lined (one_lines line lf) in
      let long : 0 < length line = omega (arith, ap length lf.is, length-append lf.body (10 ∷ [])) in
      let same : own ≡ f =
      ap form_in (sym (take-append-drop (at + n) input))
      ∙ form_told f s bytes more (drop (at + n) input) (omega (arith, ap length split, length-append front line)) lines (sym parted) in
      let whole : front ++ (line ++ more) ≡ sheet_as own s =
      sym (append_assoc front line more)
      ∙ ap (λ (l : List ℕ). l ++ more) (sym split)
      ∙ sym parted
      ∙ ap (λ (g : Form). sheet_as g s) (sym same) in
      let stands : starts_with line rest ≡ true = ap (starts_with line) (sym (take-append-drop n rest)) ∙ starts_append line (drop n rest) in
      absurd (by line more lf long stands (goes_on s e of (line ++ more) whole)))
      (λ y. y)
    where
      by : (line more : List ℕ) → OneLf line → 0 < length line → starts_with line rest ≡ true → Apart (line ++ more) rest → ⊥
      by line more lf long stands (over q h) = omega (arith, ap length q, length-append line more)
      by line more lf long stands (on other after q p none) =
          false≢true (sym none ∙ ap (λ (w : List ℕ). starts_with w rest) (sym (one_line line other more after lf p q).0) ∙ stands)

  no_byte : (f : Form) (s : State) → is_lined s ≡ true → s.series ≡ k → take at input ≡ sheet_as f s → NoneBegins k (take (suc at) input)
  no_byte f s e of is g t d on-it =
      let bytes = take (suc at) input in
      let sheet : front ≡ sheet_as f s = sym front_is ∙ is in
      let some : 0 < length front = omega (arith, ap length sheet, sheet_some f s) in
      let same : own ≡ f = ap form_in b.parted.is ∙ form_told f s front [] rest some b.lined (append-nil front ∙ sheet) in
      let as_own : front ≡ sheet_as own s = sheet ∙ ap (λ (h : Form). sheet_as h s) (sym same) in
      by_test (eqb at (length input))
      (λ q. absurd (no_own s e of (sym as_own ∙ sym front_is ∙ take_all at input (omega (arith, eqb-true at (length input) q)))))
      (λ q.
      by_test (starts_with bytes (sheet_as g t))
      (λ y.
      let byte = get_or input at 0 ∷ [] in
      let more = drop (length bytes) (sheet_as g t) in
      let below : at < length input = omega (arith, parted_within b.parted, eqb-false at (length input) q) in
      let split : bytes ≡ front ++ byte = take-suc input at 0 below ∙ ap (λ (l : List ℕ). l ++ byte) front_is in
      let whole : front ++ (byte ++ more) ≡ sheet_as g t =
      sym (append_assoc front byte more) ∙ ap (λ (l : List ℕ). l ++ more) (sym split) ∙ sym (starts_parted bytes (sheet_as g t) y) in
      let also : own ≡ g = ap form_in b.parted.is ∙ form_told g t front (byte ++ more) rest some b.lined whole in
      let one = as_lined own k s e of in
      let two = as_lined own k t d on-it in
      let none = no_more k own _ _ _ _ _ _ (byte ++ more) one.0 two.0
      (ap (λ (l : List ℕ). l ++ (byte ++ more)) (sym (as_own ∙ one.1)) ∙ whole ∙ ap (λ (h : Form). sheet_as h t) (sym also) ∙ two.1) in
      absurd (omega (arith, ap length none, length-append byte more)))
      (λ y. y))

  pub first_wrong : FirstWrong k input at
  first_wrong = record {
    within = parted_within b.parted;
    lines = ap are_lines front_is ∙ b.lined;
    before = record {
      form = own;
      state = loaded_state k b.settings b.values b.entries;
      is = shown_lined own k b.settings b.values b.entries b.shown;
      of = refl;
      begins = ap (starts_with (take at input)) (sheet_back own k b.settings b.values b.entries b.shown.named.settings_long ∙ sym b.whole)
          ∙ rw front_is (starts_append front b.more);
    };
    unended = no_sheet;
    ended = no_line;
    surplus = no_byte;
  }

-- every 40 tells one of the two
pub tells : (k : Series) (input : List ℕ) (at : ℕ) → loading_of k input ≡ wrong at → Tells k input at
tells k input at e = by (ways own k input)
  where
    own : Form
    own = form_in input

    to : (n : ℕ) → loading_of k input ≡ wrong n → Broken own k input n → Tells k input at
    to n q t =
        let same : wrong n ≡ wrong at = sym q ∙ e in
        let is : n ≡ at = cc in
        subst (Tells k input) is (wrong_line (first_wrong k input n t))

    as_two : {n : ℕ} → own ≡ Two → Broken Two k input n → Broken own k input n
    as_two {n} two t = subst (λ (f : Form). Broken f k input n) (sym two) t

    by : Ways own k input (loading_of k input) → Tells k input at
    by (other_form q o) = absurd (false≢true (sym o ∙ starts_own input))
    by (other_series n q p o) = to n q (broken_series k input n own p o)
    by (setting n g q p r less none) = to n q (broken_setting k input n own g p r less none)
    by (value n g v q p long r rv less none) = to n q (broken_value k input n own g v p long r rv less none)
    by (count n g v two q p named none) =
        to n q (as_two two (broken_count k input n g v (subst (λ (f : Form). Parted (form_line f ++ body_by k g v) n input) two p) named none))
    by (entry n g v m es two q p named few r less none) =
        let after = body_by k g v ++ (count_line m ++ lines_by (entry_lines k) 0 es) in
        to n q (as_two two (broken_entry k input n g v m es (subst (λ (f : Form). Parted (form_line f ++ after) n input) two p) named few r less none))
    by (surplus n g v es q p more l) = to n q (broken_surplus k input n own g v es p more l)
    by (unlisted n g v es two q here all l not) =
        let same : wrong n ≡ wrong at = sym q ∙ e in
        let is : n ≡ at = cc in
        let shown = loaded_state k g v es in
        let long = l.named.settings_long in
        let sheet : sheet_as Two shown ≡ input = sheet_back Two k g v es long ∙ subst (λ (f : Form). sheet_by f k g v es ≡ input) two (sym all) in
        let first : sheet_of shown ≡ body_by k g v = sym (sheet_one shown) ∙ sheet_back One k g v es long ∙ append-nil (body_by k g v) in
        no_list (record {
          shown = shown;
          lined = shown_lined own k g v es l;
          of = refl;
          is = sheet;
          here = sym is ∙ here ∙ ap (λ (f : Form). length (form_line f ++ body_by k g v)) two ∙ ap (λ (t : List ℕ). length (form_line Two ++ t)) (sym first);
          none = λ s d j.
              wrong_right at _ _ _ (sym e ∙ sym (λ i. loading_of (one_series Two s shown (j ∙ sym sheet) i) (j i)) ∙ sheet_loads_of Two s d);
        })
    by (through g v es q all l is) = absurd (wrong_right at g v es (sym e ∙ q))

-- so of a load that 40 refuses
pub loaded_tells : (image sheet : List ℕ) (at : ℕ) → (loaded image sheet).answer ≡ Err (Wrong at) → Tells (series_in image) sheet at
loaded_tells image sheet at e = by (loads_as image sheet)
  where
    by : LoadsAs image sheet (loaded image sheet) → Tells (series_in image) sheet at
    by (lent_none i q) = absurd (clash (cc (ap (λ (o : Loaded·image). o.answer) q)))
    by (lent_wrong n l q) = let same : n ≡ at = cc (ap (λ (o : Loaded·image). o.answer) q) in tells (series_in image) sheet at (l ∙ ap wrong same)
    by (lent_right settings values entries l q) = absurd (clash (cc (ap (λ (o : Loaded·image). o.answer) q)))

-- and of a sheet to be moved: it is of that form, or of the other and wrong at its first line
pub data MoveTells (f : Form) (sheet : List ℕ) (at : ℕ) : Type 0 where
  of_form : form_in sheet ≡ f → Tells (series_named f sheet) sheet at → MoveTells f sheet at
  of_other : (form_in sheet ≡ f → ⊥) → at ≡ 0 → MoveTells f sheet at

pub moved_tells : (f : Form) (sheet room : List ℕ) (at : ℕ) → (moved_sheet f sheet room).answer ≡ Err (Wrong at) → MoveTells f sheet at
moved_tells f sheet room at e = by (loading_as f k sheet) refl
  where
    k : Series
    k = series_named f sheet

    by : (l : Loading) → loading_as f k sheet ≡ l → MoveTells f sheet at
    by (wrong n) q =
        let come : ◌≡◌ {A = Sheeted} (Err (Wrong n)) (Err (Wrong at)) = sym (ap (λ (l : Loading). (moved_by f k room l).answer) q) ∙ e in
        let same : n ≡ at = cc in
        by_test (is_of f sheet)
        (λ y. let is = form_of f sheet y in of_form is (tells k sheet at (ap (λ (g : Form). loading_as g k sheet) is ∙ q ∙ ap wrong same)))
        (λ y.
        let first : wrong n ≡ wrong 0 = sym q ∙ not_of_form f k sheet y in
        let start : n ≡ 0 = cc in
        of_other (λ is. false≢true (sym y ∙ ap (λ (g : Form). is_of g sheet) (sym is) ∙ of_own sheet)) (sym same ∙ start))
    by (right settings values entries) q =
        let t = loads_sheet f k sheet settings values entries q in
        absurd ((move_takes f sheet room).0 (loaded_state k settings values entries, t.0, t.1) at e)
