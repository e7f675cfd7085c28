-- Demand 3 over lines and sheet loads in any order: it starts at the factory state or at a loaded sheet, of either form.
use Rattle.std.specs.Prelude.{ℕ, ◌≤◌, ◌≡◌, true, List, [], length, Ok}
use Rattle.state.specs.Entries.{Contents, contents_of, is_state}
use Rattle.state.specs.declared.entries.State.{State}
use Rattle.commands.specs.Shapes.{is_ended, text_of, order_of}
use Rattle.commands.specs.declared.shapes.Order.TheVariants.{Undo}
use Rattle.lines.specs.Verdicts.{is_accepted}
use Rattle.lines.specs.Machine.{run, step}
use Rattle.lines.specs.Sessions.{Exchange, session, called}
use Rattle.lines.specs.Demand.{Mark, stands_at, start_of, follows, play_all, stands}
use Rattle.sheets.specs.Loading.{Loading, wrong, right, loading_of, loaded_state, loaded}

-- a line with the room for its reply, by its length or as a host lends it, or a sheet to be loaded
pub data Act (Room : Type 0) : Type 0 where
  sends : (line : List ℕ) → (room : Room) → Act Room
  loads : (sheet : List ℕ) → Act Room

-- a state, the contents of the last start with its entries taken back, and what stands of those and of the lines since
pub record Traced : Type 0 where
  pub state : State
  pub start : Contents
  pub standing : List Mark

abbrev pub starts_at : State → Traced
starts_at s = record { state = s; start = start_of s; standing = stands_at s }

-- a loaded sheet is a start; a refused one leaves everything
abbrev pub trace_load : Traced → Loading → Traced
trace_load t (wrong at) = t
trace_load t (right settings values entries) = starts_at (loaded_state t.state.series settings values entries)

-- a load has no reply
abbrev pub acted : Traced → Act ℕ → Exchange Traced
acted t (sends line room) =
    let e = follows (record { state = t.state; standing = t.standing }) (record { line = line; room = room }) in
    record { left = record { state = e.left.state; start = t.start; standing = e.left.standing }; reply = e.reply }
acted t (loads sheet) = record { left = trace_load t (loading_of t.state.series sheet); reply = [] }

abbrev pub traced : State → List (Act ℕ) → Traced
traced s acts = (session acted (starts_at s) acts).left

-- demand 3 of what was traced: settings and values are those that playing the unstruck changes in order from the last start gives, and an UNDO whose
-- reply fits is accepted exactly when one of them stands after the last KEEP
pub record Demanded (t : Traced) : Type 0 where
  pub is : is_state t.state ≡ true
  pub played : contents_of t.state ≡ play_all t.start t.standing
  pub undo : (line : List ℕ) (room : ℕ) → is_ended line ≡ true → order_of (text_of line) ≡ Ok Undo → length (run t.state line).reply ≤ room
      → is_accepted (step t.state line room).verdict ≡ stands t.standing

-- the same on a lent image

abbrev pub of_room : Act (List ℕ) → Act ℕ
of_room (sends line room) = sends line (length room)
of_room (loads sheet) = loads sheet

abbrev pub called_acts : List ℕ → Act (List ℕ) → Exchange (List ℕ)
called_acts image (sends line room) = called image (record { line = line; room = room })
called_acts image (loads sheet) = record { left = (loaded image sheet).image; reply = [] }
