-- Sheets moved from one form to the other (request 106): exactly the sheets of the form are taken, what comes of them, and the way back.
use Prim.Native.Nat.{ℕ, ◌≤◌}
use mathlib.Core.Path.{◌≡◌, refl, sym, ap, ◌∙◌}
use mathlib.Core.Bool.{true, cond}
use mathlib.Core.Logic.{◌↔◌}
use mathlib.Core.List.{List, ◌++◌, append_assoc, append-nil}
use native.Mathlib.Omega.{arith}
use borrow.Author.Tests.{eq-eqb, ne_eqb, eqb-true, eqb-false, leb-true}
use lib.Dec.{eqb, leb}
use lib.ListN.{length, take}
use lib.Seq.{length-take-le}
use Rattle.figures.specs.Text.{codes}
use Rattle.figures.specs.Bytes.{starts_with}
use Rattle.figures.specs.Decimal.{digits_of, digits_nBy}
use Rattle.figures.proofs.Bytes.{laid_start}
use Rattle.figures.proofs.Tests.{clash, by_test}
use Rattle.instrument.specs.Settings.{held}
use Rattle.instrument.specs.declared.settings.Series.{Series}
use Rattle.instrument.specs.declared.settings.Series.TheVariants.{Tps100, Tps300}
use Rattle.state.specs.Entries.{entries_n, with_entries, is_state}
use Rattle.state.specs.declared.entries.State.{State}
use Rattle.state.proofs.Listed.{entries_of_lem}
use Rattle.state.proofs.Steps.{state_parts}
use Rattle.sheets.specs.Lines.{lines_by}
use Rattle.sheets.specs.Sheet.{series_line, sheet_of}
use Rattle.sheets.specs.Undo.{form_line, count_line, entry_lines, entries_of, list_text, undo_text, sheet_as}
use Rattle.sheets.specs.Loading.{Loading, wrong, right, loaded_state, loading_as}
use Rattle.sheets.specs.Writing.{Sheet·room, unwritten, sheet_in_room, series_named, other_form, moved_by, moved_sheet}
use Rattle.sheets.specs.declared.forms.Form.{Form}
use Rattle.sheets.specs.declared.forms.Form.TheVariants.{One, Two}
use Rattle.sheets.specs.declared.answers.SheetRefusal.TheVariants.{Wrong, Standing}
use Rattle.std.specs.Prelude.{Ok, Err}
use Rattle.sheets.proofs.Sheets.{shown_in, sheet_one, sheet_contents, past_form, sheet_by_lem, sheet_loads, shown_back}
use Rattle.sheets.proofs.Sheets.{wrong_right, loads_sheet}
use Rattle.sheets.proofs.Lined.{entries_in}
use Rattle.sheets.proofs.Images.{Stands, fitted}

-- a state's sheet names its series

line_names : (k : Series) (l : List ℕ) → cond (starts_with (series_line Tps300) (series_line k ++ l)) Tps300 Tps100 ≡ k
unfolding starts_with
line_names Tps100 l = refl
line_names Tps300 l = refl

pub series_named_lem : (f : Form) (s : State) → series_named f (sheet_as f s) ≡ s.series
series_named_lem f s =
    ap (series_named f) (sheet_by_lem f s)
    ∙ ap (λ (l : List ℕ). cond (starts_with (series_line Tps300) l) Tps300 Tps100)
    (past_form f s.series (held s.series s.settings) s.values (entries_in f s))
    ∙ line_names s.series _

-- what the sheet of a state that the form shows whole comes to: where no entry stands it is written in the other form
abbrev pub moved_of : Form → State → List ℕ → Sheet·room
moved_of f s room =
    cond (eqb s.count 0) (sheet_in_room (sheet_as (other_form f) s) room) (unwritten (Standing (length (form_line Two ++ sheet_of s))) room)

pub moved_sheet_lem : (f : Form) (s : State) (room : List ℕ) → is_state s ≡ true → moved_sheet f (sheet_as f s) room ≡ moved_of f (shown_in f s) room
moved_sheet_lem f s room e =
    ap (λ (k : Series). moved_by f k room (loading_as f k (sheet_as f s))) (series_named_lem f s)
    ∙ ap (moved_by f s.series room) (sheet_loads f s e)
    ∙ ap (λ (t : State). moved_of f t room) (shown_back f s e)

-- the sheets of a form, of either series
abbrev pub IsSheet : Form → List ℕ → Type 0
IsSheet f sheet = (s : State) × (is_state s ≡ true) × (sheet_as f s ≡ sheet)

-- what moving any bytes comes to
pub data MovesAs (f : Form) (sheet room : List ℕ) (o : Sheet·room) : Type 0 where
  no_sheet : (at : ℕ) → o ≡ unwritten (Wrong at) room → (IsSheet f sheet → ⊥) → MovesAs f sheet room o
  of_state : (s : State) → is_state s ≡ true → shown_in f s ≡ s → sheet_as f s ≡ sheet → o ≡ moved_of f s room → MovesAs f sheet room o

pub moves_as : (f : Form) (sheet room : List ℕ) → MovesAs f sheet room (moved_sheet f sheet room)
moves_as f sheet room = by (loading_as f (series_named f sheet) sheet) refl
  where
    by : (l : Loading) → loading_as f (series_named f sheet) sheet ≡ l → MovesAs f sheet room (moved_by f (series_named f sheet) room l)
    by (wrong at) e =
        no_sheet at refl
        (λ t.
        let named : series_named f sheet ≡ t.0.series = ap (series_named f) (sym t.2) ∙ series_named_lem f t.0 in
        wrong_right at _ _ _ (sym e ∙ (λ i. loading_as f (named i) (sym t.2 i)) ∙ sheet_loads f t.0 t.1))
    by (right settings values entries) e =
        let n = series_named f sheet in
        let s = loaded_state n settings values entries in
        let back = loads_sheet f n sheet settings values entries e in
        let same : right (held n s.settings) values (entries_in f s) ≡ right settings values entries =
        sym (sheet_loads f s back.0) ∙ ap (loading_as f n) back.1 ∙ e in
        let gs : held n s.settings ≡ settings = cc in
        let es : entries_in f s ≡ entries = cc in
        of_state s back.0 (sym (shown_back f s back.0) ∙ (λ i. loaded_state n (gs i) values (es i))) back.1 refl

not_wrong : (f : Form) (s : State) (room : List ℕ) (at : ℕ) → (moved_of f s room).answer ≡ Err (Wrong at) → ⊥
not_wrong f s room at q =
    let text = sheet_as (other_form f) s in
    by_test (eqb s.count 0)
    (λ y. by_test (leb (length text) (length room)) (λ h. clash (cc (rw (y, h) at q))) (λ h. clash (cc (rw (y, h) at q))))
    (λ y. clash (cc (rw y at q)))

-- it "takes exactly the bytes some sheet has", of the form and of either series: 40 is told of no such sheet, and of all else
pub move_takes : (f : Form) (sheet room : List ℕ) → IsSheet f sheet ↔ ((at : ℕ) → (moved_sheet f sheet room).answer ≡ Err (Wrong at) → ⊥)
move_takes f sheet room = (
  λ t at q.
      let come = ap (λ (l : List ℕ). moved_sheet f l room) (sym t.2) ∙ moved_sheet_lem f t.0 room t.1 in
      not_wrong f (shown_in f t.0) room at (sym (ap (λ (o : Sheet·room). o.answer) come) ∙ q),
  λ h. by h (moves_as f sheet room),
)
  where
    by : ((at : ℕ) → (moved_sheet f sheet room).answer ≡ Err (Wrong at) → ⊥) → MovesAs f sheet room (moved_sheet f sheet room) → IsSheet f sheet
    by h (no_sheet at q not) = absurd (h at (ap (λ (o : Sheet·room). o.answer) q))
    by h (of_state s is shown has q) = (s, is, has)

-- with no entry both forms show the whole state

pub shown_none : (f : Form) (s : State) → is_state s ≡ true → s.count ≡ 0 → shown_in f s ≡ s
shown_none One s e zero =
    sym (entries_of_lem s e ∙ ap (λ (n : ℕ). with_entries s.series s.settings s.values (take n s.undo)) zero)
shown_none Two s e zero = refl

pub none_line : count_line 0 ≡ codes "undo=0\n"
unfolding digits_of digits_nBy
none_line = refl

pub two_none : (s : State) → s.count ≡ 0 → sheet_as Two s ≡ form_line Two ++ (sheet_of s ++ count_line 0)
unfolding sheet_as undo_text lines_by
two_none s zero =
    ap (λ (n : ℕ). form_line Two ++ (sheet_of s ++ list_text s.series (take n s.undo))) zero
    ∙ ap (λ (l : List ℕ). form_line Two ++ (sheet_of s ++ l)) (append-nil (count_line 0))

-- "Old sheets move to the new form with `undo=0`."
pub moved_is : (sheet room : List ℕ) → IsSheet One sheet → moved_sheet One sheet room ≡ sheet_in_room (form_line Two ++ (sheet ++ count_line 0)) room
moved_is sheet room (s, e, is) =
    let new = shown_in One s in
    let old : sheet_of new ≡ sheet = sym (sheet_contents s) ∙ sym (sheet_one s) ∙ is in
    ap (λ (l : List ℕ). moved_sheet One l room) (sym is)
    ∙ moved_sheet_lem One s room e
    ∙ ap (λ (l : List ℕ). sheet_in_room l room) (two_none new refl ∙ ap (λ (l : List ℕ). form_line Two ++ (l ++ count_line 0)) old)

-- the way back

-- the place that 41 tells: the start of the `undo=` line
pub undo_place : (s : State) → is_state s ≡ true
    → sheet_as Two s ≡ (form_line Two ++ sheet_of s) ++ (count_line s.count ++ lines_by (entry_lines s.series) 0 (entries_of s))
unfolding sheet_as undo_text
undo_place s e =
    let p = state_parts entries_n s e in
    let n : length (entries_of s) ≡ s.count = length-take-le s.count s.undo (omega (arith, p.few, p.undo_long)) in
    let lines = lines_by (entry_lines s.series) 0 (entries_of s) in
    ap (λ (m : ℕ). form_line Two ++ (sheet_of s ++ (count_line m ++ lines))) n ∙ sym (append_assoc (form_line Two) (sheet_of s) (count_line s.count ++ lines))

module _ (s : State) (e : is_state s ≡ true) (room : List ℕ) where
  pub back_old : s.count ≡ 0 → moved_sheet Two (sheet_as Two s) room ≡ sheet_in_room (sheet_of s) room
  back_old zero = moved_sheet_lem Two s room e ∙ rw (eq-eqb s.count 0 zero, sheet_one s)

  pub back_standing : (s.count ≡ 0 → ⊥) → moved_sheet Two (sheet_as Two s) room ≡ unwritten (Standing (length (form_line Two ++ sheet_of s))) room
  back_standing stand = moved_sheet_lem Two s room e ∙ rw (ne_eqb s.count 0 stand)

  -- "The way back gives the old bytes exactly when the count is 0."
  pub back_exactly : length (sheet_of s) ≤ length room → let o = moved_sheet Two (sheet_as Two s) room in
      Stands (sheet_of s) o.answer o.room ↔ (s.count ≡ 0)
  back_exactly h = (
    λ t.
        by_test (eqb s.count 0) (λ y. eqb-true s.count 0 y)
        (λ y. absurd (clash (cc (sym (ap (λ (o : Sheet·room). o.answer) (back_standing (eqb-false s.count 0 y))) ∙ t.0)))),
    λ zero. fitted (sheet_of s) room (moved_sheet Two (sheet_as Two s) room) (back_old zero) h,
  )

-- there and back

other_other : (f : Form) → other_form (other_form f) ≡ f
other_other One = refl
other_other Two = refl

-- what was written had no entry, and stands in the room
written_by : (f : Form) (s : State) (room : List ℕ) (n : ℕ) → (moved_of f s room).answer ≡ Ok n
    → (s.count ≡ 0) × (take n (moved_of f s room).room ≡ sheet_as (other_form f) s)
written_by f s room n q =
    let text = sheet_as (other_form f) s in
    by_test (eqb s.count 0)
    (λ y.
    by_test (leb (length text) (length room))
    (λ h.
    let long : length text ≡ n = cc (rw (y, h) at q) in
    (eqb-true s.count 0 y, rw (y, h, ← long) (laid_start text room (leb-true (length text) (length room) h))))
    (λ h. absurd (clash (cc (rw (y, h) at q)))))
    (λ y. absurd (clash (cc (rw y at q))))

-- a sheet that was moved, moved back, gives the same bytes, whichever form it was of
pub move_back : (f : Form) (sheet room other : List ℕ) (n : ℕ) → (moved_sheet f sheet room).answer ≡ Ok n
    → moved_sheet (other_form f) (take n (moved_sheet f sheet room).room) other ≡ sheet_in_room sheet other
move_back f sheet room other n h = by (moves_as f sheet room)
  where
    by : MovesAs f sheet room (moved_sheet f sheet room)
        → moved_sheet (other_form f) (take n (moved_sheet f sheet room).room) other ≡ sheet_in_room sheet other
    by (no_sheet at q not) = absurd (clash (cc (sym (ap (λ (o : Sheet·room). o.answer) q) ∙ h)))
    by (of_state s is shown has q) =
        let g = other_form f in
        let (zero, text) = written_by f s room n (sym (ap (λ (o : Sheet·room). o.answer) q) ∙ h) in
        ap (λ (l : List ℕ). moved_sheet g l other) (ap (λ (o : Sheet·room). take n o.room) q ∙ text)
        ∙ moved_sheet_lem g s other is
        ∙ ap (λ (t : State). moved_of g t other) (shown_none g s is zero)
        ∙ rw (eq-eqb s.count 0 zero, other_other f, has)

-- refused, the room is as it was
pub move_refused : (f : Form) (sheet room : List ℕ) → ((n : ℕ) → (moved_sheet f sheet room).answer ≡ Ok n → ⊥) → (moved_sheet f sheet room).room ≡ room
move_refused f sheet room h = by (moves_as f sheet room)
  where
    by : MovesAs f sheet room (moved_sheet f sheet room) → (moved_sheet f sheet room).room ≡ room
    by (no_sheet at q not) = ap (λ (o : Sheet·room). o.room) q
    by (of_state s is shown has q) =
        let text = sheet_as (other_form f) s in
        let come = ap (λ (o : Sheet·room). o.room) q in
        let told = ap (λ (o : Sheet·room). o.answer) q in
        by_test (eqb s.count 0)
        (λ y.
        by_test (leb (length text) (length room)) (λ l. absurd (h (length text) (told ∙ rw (y, l))))
        (λ l. come ∙ rw (y, l)))
        (λ y. come ∙ rw y)
