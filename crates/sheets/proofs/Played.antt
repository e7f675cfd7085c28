-- What the program prints, by demand 3: the sheet of what playing the unstruck lines in order gives, from the factory state.
use Prim.Native.Nat.{ℕ, ◌≤◌}
use mathlib.Core.Path.{◌≡◌, ap, ◌∙◌}
use mathlib.Core.List.{List, map}
use lib.ListN.{length}
use Rattle.state.specs.Entries.{no_entries, Contents, contents_of}
use Rattle.instrument.specs.declared.settings.Series.TheVariants.{Tps100}
use Rattle.state.specs.declared.entries.State.{State}
use Rattle.lines.specs.Demand.{standing, play_all}
use Rattle.lines.proofs.Demand.{played_factory}
use Rattle.sheets.specs.Sheet.{sheet_of}
use Rattle.sheets.specs.Undo.{sheet_as}
use Rattle.pieces.specs.Pieces.{pieces}
use Rattle.sheets.specs.Playing.{call_of, input_most, printed}
use Rattle.sheets.proofs.Sheets.{sheet_contents}
use Rattle.sheets.proofs.Reached.{factory100, reached, printed_sheet}

-- the start with some contents
abbrev pub start_with : Contents → State
start_with c = no_entries c.series c.settings c.values

pub printed_played : (input : List ℕ) → length input ≤ input_most
    → printed input ≡ sheet_of (start_with (play_all (contents_of factory100) (standing factory100 (map call_of (pieces input)))))
unfolding sheet_as
printed_played input h =
    printed_sheet input h ∙ sheet_contents (reached input)
    ∙ ap (λ (c : Contents). sheet_of (start_with c)) (played_factory Tps100 (map call_of (pieces input)))
