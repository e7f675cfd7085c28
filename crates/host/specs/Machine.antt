-- What the stand-in's C functions answer and leave: the machine's own definitions, with number and told packed.
use Rattle.std.specs.Prelude.{ℕ, ◌+◌, ◌*◌, ◌%◌, ◌≡◌, cond, List, eqb, length}
use Rattle.instrument.specs.declared.settings.Series.{Series}
use Rattle.state.specs.Entries.{factory_state}
use Rattle.state.specs.Image.{image_n, image_of}
use Rattle.lines.specs.Verdicts.{verdict_number, verdict_which, verdict_byte}
use Rattle.lines.specs.Machine.{call}
use Rattle.lines.specs.declared.machine.Told.{Told}
use Rattle.sheets.specs.Answers.{Sheeted, sheet_number, sheet_tells, told_of_load}
use Rattle.sheets.specs.Writing.{written_sheet, moved_sheet}
use Rattle.sheets.specs.Loading.{loaded}
use Rattle.sheets.specs.declared.forms.Form.{Form}
use Rattle.host.specs.Answers.{packed}

-- told of a line: reply bytes + 2^16 * which + 2^24 * byte, each in its own bits
abbrev pub line_tells : Told → ℕ
line_tells t = t.count % 65536 + verdict_which t.verdict % 256 * 65536 + verdict_byte t.verdict % 256 * 16777216

abbrev pub told_line : Told → ℕ
told_line t = verdict_number t.verdict * 4294967296 + line_tells t

abbrev pub told_sheet : Sheeted → ℕ
told_sheet a = packed (sheet_number a) (sheet_tells a)

-- the same with nothing cut off
abbrev pub line_whole : Told → ℕ
line_whole t =
    verdict_number t.verdict * 4294967296 + (t.count + verdict_which t.verdict * 65536 + verdict_byte t.verdict * 16777216)

abbrev pub sheet_whole : Sheeted → ℕ
sheet_whole a = sheet_number a * 4294967296 + sheet_tells a

-- "Laying down the factory state takes lent bytes of exactly the image's length, with any contents, and refuses 31 otherwise."
abbrev pub LaysFactory : Series → List ℕ → ℕ → List ℕ → Type 0
LaysFactory k image r image' =
    (r ≡ cond (eqb (length image) (image_n k)) 0 (packed 31 0)) × (image' ≡ cond (eqb (length image) (image_n k)) (image_of (factory_state k)) image)

abbrev pub CallsC : List ℕ → List ℕ → List ℕ → ℕ → List ℕ → List ℕ → Type 0
CallsC image line room r image' room' =
    (r ≡ told_line (call image line room).answer) × ((image' ≡ (call image line room).image) × (room' ≡ (call image line room).room))

abbrev pub WritesSheetC : Form → List ℕ → List ℕ → ℕ → List ℕ → Type 0
WritesSheetC f image room r room' = (r ≡ told_sheet (written_sheet f image room).answer) × (room' ≡ (written_sheet f image room).room)

abbrev pub LoadsC : List ℕ → List ℕ → ℕ → List ℕ → Type 0
LoadsC image sheet r image' = (r ≡ told_sheet (told_of_load (loaded image sheet).answer)) × (image' ≡ (loaded image sheet).image)

abbrev pub MovesC : Form → List ℕ → List ℕ → ℕ → List ℕ → Type 0
MovesC f sheet room r room' = (r ≡ told_sheet (moved_sheet f sheet room).answer) × (room' ≡ (moved_sheet f sheet room).room)
