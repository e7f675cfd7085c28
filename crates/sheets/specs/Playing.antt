-- The program sheet: it "cuts after each CR (with LF if next), runs each line with 306 bytes of reply room, a last piece without CR included,
-- and prints the sheet".
use Rattle.std.specs.Prelude.{ℕ, ◌≡◌, cond, List, map, leb, length}
use Rattle.figures.specs.Text.{codes}
use Rattle.figures.specs.Bytes.{laid}
use Rattle.instrument.specs.declared.settings.Series.TheVariants.{Tps100}
use Rattle.state.specs.Entries.{factory_state}
use Rattle.lines.specs.Sessions.{Call, after}
use Rattle.pieces.specs.Pieces.{pieces}
use Rattle.sheets.specs.Sheet.{sheet_of}

-- "with 306 bytes of reply room"
abbrev pub reply_room : ℕ
reply_room = 306

abbrev pub call_of : List ℕ → Call
call_of l = record { line = l; room = reply_room }

-- `refused=input` and LF
abbrev pub refused_input : List ℕ
refused_input = codes "refused=input\n"

-- "reads at most 65,536 bytes .. Longer input: it prints `refused=input` and LF."
abbrev pub input_most : ℕ
input_most = 65536

-- what the program prints
abbrev pub printed : List ℕ → List ℕ
printed input = cond (leb (length input) input_most) (sheet_of (after (factory_state Tps100) (map call_of (pieces input)))) refused_input

-- in a lent room: its length, and the room as it is then; nothing where it is too short
abbrev pub Prints : List ℕ → List ℕ → ℕ → List ℕ → Type 0
Prints input room r room' =
    (r ≡ cond (leb (length (printed input)) (length room)) (length (printed input)) 0)
    × (room' ≡ cond (leb (length (printed input)) (length room)) (laid (printed input) room) room)
