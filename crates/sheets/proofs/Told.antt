-- What a sheet's answer tells is at most the length of the longest sheet, and of a sheet that is refused at most its own; and a refusal leaves the room.
use Prim.Native.Nat.{ℕ, ◌<◌, ◌≤◌}
use mathlib.Core.Path.{◌≡◌, refl, sym, ap}
use mathlib.Core.Bool.{Bool, true, false, cond}
use mathlib.Core.List.{List, ◌++◌}
use native.Mathlib.Omega.{arith}
use borrow.Author.Tests.{eqb-false}
use lib.Dec.{eqb, leb}
use lib.ListN.{length, take}
use lib.Seq.{length-take-le}
use Rattle.figures.specs.Bytes.{laid}
use Rattle.figures.proofs.Bytes.{starts_length}
use Rattle.figures.proofs.Tests.{by_test}
use Rattle.state.specs.Entries.{is_state}
use Rattle.state.specs.Image.{series_in, state_in, is_image}
use Rattle.state.specs.declared.entries.State.{State}
use Rattle.state.proofs.Images.{image_of_lem}
use Rattle.instrument.specs.declared.settings.Series.{Series}
use Rattle.sheets.specs.Answers.{Sheeted, sheet_number, sheet_tells, told_of_load}
use Rattle.sheets.specs.Sheet.{sheet_of}
use Rattle.sheets.specs.Undo.{form_line, sheet_as}
use Rattle.sheets.specs.Writing.{Sheet·room, unwritten, sheet_in_room, written_sheet, series_named, other_form, moved_sheet}
use Rattle.sheets.specs.Loading.{wrong, loading_of, loaded}
use Rattle.sheets.specs.FirstWrong.{Tells, wrong_line, no_list}
use Rattle.sheets.specs.Keeping.{sheet_most}
use Rattle.sheets.specs.declared.forms.Form.{Form}
use Rattle.sheets.specs.declared.forms.Form.TheVariants.{One, Two}
use Rattle.sheets.specs.declared.answers.SheetRefusal.TheVariants.{NoState, Room, Wrong}
use Rattle.std.specs.Prelude.{Ok, Err}
use Rattle.sheets.proofs.Sheets.{shown_in}
use Rattle.sheets.proofs.Sizes.{most_two, lined_below, sheet_below}
use Rattle.sheets.proofs.Images.{LoadsAs, lent_none, lent_wrong, lent_right, loads_as}
use Rattle.sheets.proofs.Moves.{MovesAs, no_sheet, of_state, moves_as, moved_of, move_refused}
use Rattle.sheets.proofs.FirstWrong.{tells, MoveTells, of_form, of_other, moved_tells}
use Rattle.sheets.proofs.OnePlace.{undo_at}

-- the `undo=` line starts within the sheet
undo_within : (s : State) → length (form_line Two ++ sheet_of s) ≤ length (sheet_as Two s)
undo_within s = omega (arith, undo_at s.series s refl)

-- a wrong line starts within the input, and where some sheet goes that far
tells_within : (k : Series) (input : List ℕ) (at : ℕ) → Tells k input at → (at ≤ length input) × (at ≤ sheet_most Two)
tells_within k input at (wrong_line w) =
    let b = w.before in
    let far = starts_length (take at input) (sheet_as b.form b.state) b.begins in
    (w.within, omega (arith, far, length-take-le at input w.within, lined_below b.form b.state b.is, most_two b.form))
tells_within k input at (no_list n) =
    let s = n.shown in
    (omega (arith, n.here, undo_within s, ap length n.is), omega (arith, n.here, undo_within s, lined_below Two s n.lined))

pub wrong_within : (k : Series) (input : List ℕ) (at : ℕ) → loading_of k input ≡ wrong at → (at ≤ length input) × (at ≤ sheet_most Two)
wrong_within k input at e = tells_within k input at (tells k input at e)

loaded_bounds : (image sheet : List ℕ) → let n = sheet_tells (told_of_load (loaded image sheet).answer) in
    (n ≤ length sheet) × (n ≤ sheet_most Two)
loaded_bounds image sheet = by (loads_as image sheet)
  where
    by : LoadsAs image sheet (loaded image sheet) → let n = sheet_tells (told_of_load (loaded image sheet).answer) in
        (n ≤ length sheet) × (n ≤ sheet_most Two)
    by (lent_none i q) = rw q (omega arith, omega arith)
    by (lent_wrong at l q) = rw q (wrong_within (series_in image) sheet at l)
    by (lent_right settings values entries l q) = rw q (omega arith, omega arith)

pub loaded_within : (image sheet : List ℕ) → sheet_tells (told_of_load (loaded image sheet).answer) ≤ length sheet
loaded_within image sheet = (loaded_bounds image sheet).0

pub loaded_most : (image sheet : List ℕ) → sheet_tells (told_of_load (loaded image sheet).answer) ≤ sheet_most Two
loaded_most image sheet = (loaded_bounds image sheet).1

-- a sheet laid into a room that may be too small for it

room_most : (sheet room : List ℕ) (most : ℕ) → length sheet ≤ most → sheet_tells (sheet_in_room sheet room).answer ≤ most
room_most sheet room most h = by_test (leb (length sheet) (length room)) (λ e. rw e h) (λ e. rw e (omega arith))

room_refused : (sheet room : List ℕ) → 0 < sheet_number (sheet_in_room sheet room).answer → (sheet_in_room sheet room).room ≡ room
room_refused sheet room = by (leb (length sheet) (length room))
  where
    by : (fits : Bool) →
        let whole : Sheet·room = record { answer = Ok (length sheet); room = laid sheet room } in
        let o = cond fits whole (unwritten Room room) in
        0 < sheet_number o.answer → o.room ≡ room
    by true h = absurd (omega arith)
    by false h = refl

pub written_most : (f : Form) (image room : List ℕ) → sheet_tells (written_sheet f image room).answer ≤ sheet_most f
written_most f image room =
    by_test (is_image image) (λ e. rw e (room_most (sheet_as f (state_in image)) room (sheet_most f) (sheet_below f (state_in image) (image_of_lem image e).0)))
    (λ e. rw e (omega arith))

-- 31 and 30: nothing is written
pub written_refused : (f : Form) (image room : List ℕ) → 0 < sheet_number (written_sheet f image room).answer → (written_sheet f image room).room ≡ room
written_refused f image room = by (is_image image)
  where
    by : (is : Bool) → let o = cond is (sheet_in_room (sheet_as f (state_in image)) room) (unwritten NoState room) in
        0 < sheet_number o.answer → o.room ≡ room
    by true h = room_refused (sheet_as f (state_in image)) room h
    by false h = refl

-- moving: 40 and 41 tell a place within the sheet

standing_within : (f : Form) (s : State) → shown_in f s ≡ s → (s.count ≡ 0 → ⊥) → length (form_line Two ++ sheet_of s) ≤ length (sheet_as f s)
standing_within One s shown stand = absurd (stand (sym (ap (λ (t : State). t.count) shown)))
standing_within Two s shown stand = undo_within s

abbrev Bounds : Sheeted → List ℕ → Type 0
Bounds a sheet = (0 < sheet_number a → sheet_tells a ≤ length sheet) × (sheet_tells a ≤ sheet_most Two)

moved_state : (f : Form) (s : State) (room : List ℕ) → is_state s ≡ true → shown_in f s ≡ s → Bounds (moved_of f s room).answer (sheet_as f s)
moved_state f s room e shown =
    let text = sheet_as (other_form f) s in
    by_test (eqb s.count 0)
    (λ y.
    by_test (leb (length text) (length room)) (λ h. rw (y, h) (λ n. absurd (omega arith), omega (arith, sheet_below (other_form f) s e, most_two (other_form f))))
    (λ h. rw (y, h) (λ n. omega arith, omega arith)))
    (λ y.
    let within = standing_within f s shown (eqb-false s.count 0 y) in
    rw y (λ n. within, omega (arith, within, sheet_below f s e, most_two f)))

moved_bounds : (f : Form) (sheet room : List ℕ) → Bounds (moved_sheet f sheet room).answer sheet
moved_bounds f sheet room = by (moves_as f sheet room)
  where
    by : MovesAs f sheet room (moved_sheet f sheet room) → Bounds (moved_sheet f sheet room).answer sheet
    by (no_sheet at q not) = rw q (place (moved_tells f sheet room at (ap (λ (o : Sheet·room). o.answer) q)))
      where
        place : MoveTells f sheet at → Bounds (Err (Wrong at)) sheet
        place (of_form is t) = let b = tells_within (series_named f sheet) sheet at t in (λ n. b.0, b.1)
        place (of_other apart start) = (λ n. omega arith, omega arith)
    by (of_state s is shown has q) = rw (q, ← has) (moved_state f s room is shown)

pub moved_within : (f : Form) (sheet room : List ℕ) → let a = (moved_sheet f sheet room).answer in
    0 < sheet_number a → sheet_tells a ≤ length sheet
moved_within f sheet room = (moved_bounds f sheet room).0

pub moved_most : (f : Form) (sheet room : List ℕ) → sheet_tells (moved_sheet f sheet room).answer ≤ sheet_most Two
moved_most f sheet room = (moved_bounds f sheet room).1

-- 40, 41 and 30: nothing is written
pub moved_refused : (f : Form) (sheet room : List ℕ) → 0 < sheet_number (moved_sheet f sheet room).answer → (moved_sheet f sheet room).room ≡ room
moved_refused f sheet room h = move_refused f sheet room (λ n e. omega (arith, h, ap sheet_number e))
