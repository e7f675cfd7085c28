-- Writing a sheet, and moving one from a form to the other: the answer, and the room as it is then.
use Rattle.std.specs.Prelude.{ℕ, ◌≡◌, cond, List, ◌++◌, eqb, leb, length, drop, Ok, Err}
use Rattle.figures.specs.Bytes.{laid, starts_with}
use Rattle.instrument.specs.declared.settings.Series.{Series}
use Rattle.instrument.specs.declared.settings.Series.TheVariants.{Tps100, Tps300}
use Rattle.state.specs.Image.{state_in, is_image}
use Rattle.sheets.specs.Sheet.{series_line, sheet_of}
use Rattle.sheets.specs.Undo.{form_line, sheet_as}
use Rattle.sheets.specs.Loading.{Loading, wrong, right, loaded_state, loading_as}
use Rattle.sheets.specs.declared.forms.Form.{Form}
use Rattle.sheets.specs.declared.forms.Form.TheVariants.{One, Two}
use Rattle.sheets.specs.Answers.{Sheeted}
use Rattle.sheets.specs.declared.answers.SheetRefusal.{SheetRefusal}
use Rattle.sheets.specs.declared.answers.SheetRefusal.TheVariants.{NoState, Room, Wrong, Standing}

pub record Sheet·room : Type 0 where
  pub answer : Sheeted
  pub room : List ℕ

-- what comes out is that
abbrev pub Leaves : Sheet·room → Sheeted → List ℕ → Type 0
Leaves o r room' = (r ≡ o.answer) × (room' ≡ o.room)

-- nothing written
abbrev pub unwritten : SheetRefusal → List ℕ → Sheet·room
unwritten r room = record { answer = Err r; room = room }

-- "Order: .. for writing, 31, then 30. Room beyond a written sheet is untouched."
abbrev pub sheet_in_room : List ℕ → List ℕ → Sheet·room
sheet_in_room sheet room =
    cond (leb (length sheet) (length room)) (record { answer = Ok (length sheet); room = laid sheet room }) (unwritten Room room)

-- "the caller says which is written" (request 106)
abbrev pub written_sheet : Form → List ℕ → List ℕ → Sheet·room
written_sheet f image room = cond (is_image image) (sheet_in_room (sheet_as f (state_in image)) room) (unwritten NoState room)

abbrev pub WritesSheet : Form → List ℕ → List ℕ → Sheeted → List ℕ → Type 0
WritesSheet f image room r room' = Leaves (written_sheet f image room) r room'

-- the series that a sheet of a form names; one that names none is wrong at that line
abbrev pub series_named : Form → List ℕ → Series
series_named f sheet = cond (starts_with (series_line Tps300) (drop (length (form_line f)) sheet)) Tps300 Tps100

-- the form that a sheet of the other is moved to
abbrev pub other_form : Form → Form
other_form One = Two
other_form Two = One

-- "Old sheets move to the new form with `undo=0`. The way back gives the old bytes exactly when the count is 0." What loads as a sheet of the one form is
-- written in the other. "40 at the first wrong line ..; then 41 for the way back with a count above 0, then 30"; 41 tells the start of the `undo=` line.
abbrev pub moved_by : Form → Series → List ℕ → Loading → Sheet·room
moved_by f k room (wrong at) = unwritten (Wrong at) room
moved_by f k room (right settings values entries) =
    let s = loaded_state k settings values entries in
    cond (eqb (length entries) 0) (sheet_in_room (sheet_as (other_form f) s) room) (unwritten (Standing (length (form_line Two ++ sheet_of s))) room)

-- from the form
abbrev pub moved_sheet : Form → List ℕ → List ℕ → Sheet·room
moved_sheet f sheet room = let k = series_named f sheet in moved_by f k room (loading_as f k sheet)

abbrev pub MovesSheet : Form → List ℕ → List ℕ → Sheeted → List ℕ → Type 0
MovesSheet f sheet room r room' = Leaves (moved_sheet f sheet room) r room'
