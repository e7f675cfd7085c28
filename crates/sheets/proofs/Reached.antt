-- Laws of `play`: the pieces run on the factory's image are calls on its state, and what is written then is what the program prints.
use Prim.Native.Nat.{ℕ, ◌<◌, ◌≤◌}
use mathlib.Core.Path.{◌≡◌, refl, sym, ap, ◌∙◌}
use mathlib.Core.Bool.{Bool, true, false, cond}
use mathlib.Core.List.{List, map, map-map}
use borrow.Author.Tests.{le-leb, lt-leb}
use lib.Dec.{leb}
use lib.ListN.{length}
use Rattle.figures.specs.Bytes.{laid}
use Rattle.instrument.specs.declared.settings.Series.TheVariants.{Tps100}
use Rattle.state.specs.Entries as entries
use Rattle.state.specs.Entries.{is_state}
use Rattle.state.specs.Image.{image_of}
use Rattle.state.specs.declared.entries.State.{State}
use Rattle.state.proofs.Images.{factory_is_state}
use Rattle.lines.specs.Sessions.{Call, after, in_room}
use Rattle.lines.proofs.States.{after_state}
use Rattle.lines.proofs.Hosted.{hosted}
use Rattle.sheets.specs.Sheet.{sheet_of}
use Rattle.sheets.specs.Writing.{Sheet·room, sheet_in_room, written_sheet, WritesSheet}
use Rattle.pieces.specs.Pieces.{pieces}
use Rattle.sheets.specs.Playing.{call_of, refused_input, input_most, printed, Prints}
use Rattle.sheets.specs.Keeping.{lent_of, run_by}
use Rattle.sheets.specs.declared.forms.Form.TheVariants.{One}
use Rattle.sheets.specs.Answers.{Sheeted}
use Rattle.sheets.specs.declared.answers.SheetRefusal.TheVariants.{Room}
use Rattle.std.specs.Prelude.{Ok, Err}
use Rattle.std.specs.Result.{result_unwrap_or}
use Rattle.sheets.proofs.Sheets.{sheet_one}
use Rattle.sheets.proofs.Images.{image_writes}

-- the program plays a TPS100
abbrev pub factory100 : State
factory100 = entries.factory_state Tps100

pub run_after : (ls : List (List ℕ)) (s : State) → is_state s ≡ true → run_by ls (image_of s) ≡ image_of (after s (map call_of ls))
run_after ls s e =
    (hosted s e (map lent_of ls)).0.0 ∙ ap (λ (cs : List Call). image_of (after s cs)) (map-map in_room lent_of ls)

-- the state that an input is played to
abbrev pub reached : List ℕ → State
reached input = after factory100 (map call_of (pieces input))

pub reached_state : (input : List ℕ) → is_state (reached input) ≡ true
reached_state input = after_state factory100 (map call_of (pieces input)) (factory_is_state Tps100)

pub printed_sheet : (input : List ℕ) → length input ≤ input_most → printed input ≡ sheet_of (reached input)
printed_sheet input h = rw (le-leb (length input) input_most h)

pub printed_refused : (input : List ℕ) → input_most < length input → printed input ≡ refused_input
printed_refused input h = rw (lt-leb (length input) input_most h)

-- what the write of the image that the pieces are run to comes to
pub write_printed : (input image room room' : List ℕ) (answer : Sheeted) → length input ≤ input_most → image ≡ run_by (pieces input) (image_of factory100)
    → WritesSheet One image room answer room' → (answer ≡ (sheet_in_room (printed input) room).answer) × (room' ≡ (sheet_in_room (printed input) room).room)
write_printed input image room room' answer h ei w =
    let is : image ≡ image_of (reached input) = ei ∙ run_after (pieces input) factory100 (factory_is_state Tps100) in
    let out : written_sheet One image room ≡ sheet_in_room (printed input) room =
    ap (λ (i : List ℕ). written_sheet One i room) is ∙ image_writes One (reached input) room (reached_state input)
    ∙ ap (λ (l : List ℕ). sheet_in_room l room) (sheet_one (reached input) ∙ sym (printed_sheet input h))
    in
    (w.0 ∙ ap (λ (o : Sheet·room). o.answer) out, w.1 ∙ ap (λ (o : Sheet·room). o.room) out)

-- and what `play` answers of it

-- how much an answer says was written
abbrev pub written_n : Sheeted → ℕ
written_n a = result_unwrap_or a 0

fitted_tells : (sheet room : List ℕ)
    → (written_n (sheet_in_room sheet room).answer ≡ cond (leb (length sheet) (length room)) (length sheet) 0)
    × ((sheet_in_room sheet room).room ≡ cond (leb (length sheet) (length room)) (laid sheet room) room)
fitted_tells sheet room = by (leb (length sheet) (length room))
  where
    out : Bool → Sheet·room
    out b = cond b (record { answer = Ok (length sheet); room = laid sheet room }) (record { answer = Err Room; room = room })

    by : (b : Bool) → (written_n (out b).answer ≡ cond b (length sheet) 0) × ((out b).room ≡ cond b (laid sheet room) room)
    by true = (refl, refl)
    by false = (refl, refl)

pub plays_printed : (input image room room' : List ℕ) (answer : Sheeted) (r : ℕ) → length input ≤ input_most → image ≡ run_by (pieces input) (image_of factory100)
    → WritesSheet One image room answer room' → r ≡ written_n answer → Prints input room r room'
plays_printed input image room room' answer r h ei w er =
    let p = write_printed input image room room' answer h ei w in
    let t = fitted_tells (printed input) room in
    (er ∙ ap written_n p.0 ∙ t.0, p.1 ∙ t.1)

-- a longer input is refused

pub plays_short : (input room : List ℕ) → input_most < length input → length room < 14 → Prints input room 0 room
plays_short input room h k = rw (printed_refused input h, lt-leb 14 (length room) k) (refl, refl)

pub plays_refused : (input room room' : List ℕ) → input_most < length input → 14 ≤ length room → room' ≡ laid refused_input room → Prints input room 14 room'
plays_refused input room room' h k e = rw (printed_refused input h, le-leb 14 (length room) k) (refl, e)
