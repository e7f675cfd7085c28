-- How the code keeps what the other files define: a line, and the parts of a sheet as they are written and loaded.
use Rattle.std.specs.Prelude.{ℕ, zero, suc, ◌+◌, ◌-◌, ◌≤◌, ◌≡◌, Bool, cond, not, ◌&&◌, eqb, length, get_or, drop, replicate, Option, Some, None, Result, Ok, Err}
use mathlib.Core.List.{List, [], ◌∷◌, ◌++◌, map, foldr}
use Rattle.figures.specs.Bytes.{starts_with}
use Rattle.figures.specs.declared.rooms.Room.{Room}
use Rattle.figures.specs.Text.{codes}
use Rattle.figures.specs.Decimal.{is_digit, decimal_of}
use Rattle.instrument.specs.Rows.{name_of}
use Rattle.instrument.specs.Settings.{rows_of, held, padded}
use Rattle.state.specs.Entries.{entries_n, blank_entry, Contents}
use Rattle.instrument.specs.Values.{values_n, index_number, stored_at, put_kept, kept_right}
use Rattle.instrument.specs.declared.settings.Series.{Series}
use Rattle.instrument.specs.Values.{Kept}
use Rattle.state.specs.declared.entries.Entry.{Entry}
use Rattle.state.specs.declared.entries.State.{State}
use Rattle.state.specs.Keeping.{entry_laid, count_laid}
use Rattle.lines.specs.Sessions.{Lent, image_after}
use Rattle.pieces.specs.Pieces.{pieces}
use Rattle.sheets.specs.Lines.{LinesOf, lines_by, Came, Part}
use Rattle.sheets.specs.Sheet.{setting_key, said_by, setting_lines, characters_of, kept_line, value_lines}
use Rattle.sheets.specs.Undo.{form_line, count_lines, entry_lines}
use Rattle.sheets.specs.Loading.{FirstLines}
use Rattle.sheets.specs.Playing.{reply_room}
use Rattle.sheets.specs.declared.forms.Form.{Form}
use Rattle.sheets.specs.declared.forms.Form.TheVariants.{One, Two}
use Rattle.sheets.specs.declared.answers.SheetRefusal.{SheetRefusal}
use Rattle.sheets.specs.declared.answers.SheetRefusal.TheVariants.{Wrong}
use Rattle.sheets.specs.declared.loading.Digits.{Digits}
use Rattle.sheets.specs.declared.loading.Taken.{Taken}
use Rattle.sheets.specs.declared.loading.First.{First}

-- a sheet starts as those of the form do, and not as those of the other
abbrev pub is_of : Form → List ℕ → Bool
is_of One sheet = not (starts_with (form_line Two) sheet)
is_of Two sheet = starts_with (form_line Two) sheet

-- the length of the key that a row holds from the start of eight bytes
abbrev pub key_length : List ℕ → ℕ
key_length k = cond (eqb (get_or k 4 0) 0) (cond (eqb (get_or k 3 0) 0) 3 4) 5

-- the longest sheet of a form: a TPS300's with each parameter at its highest and each value put, and with as many entries as there can be, each of a value that
-- was put
abbrev pub sheet_most : Form → ℕ
sheet_most One = 441
sheet_most Two = 1864

-- a text fits into a room from its place on
pub record Fits (room : Room) (text : List ℕ) : Type 0 where
  pub within : room.at + length text ≤ length room.bytes.now

-- the settings' lines without their parameters: each has its key and LF
unfoldable pub keys_n : Series → ℕ
keys_n k = foldr (λ r n. length (setting_key r) + 1 + n) 0 (rows_of k)

-- a sheet's two parts after the first line
abbrev pub settings_text : State → List ℕ
settings_text s = lines_by (setting_lines s.series) 0 (held s.series s.settings)

abbrev pub values_text : State → List ℕ
values_text s = lines_by value_lines 0 s.values

-- a value's name, a separator and what was put: its line, and with a colon what follows `u=` in an entry's
abbrev pub kept_text : ℕ → ℕ → Kept → List ℕ
kept_text place separator k = name_of "v" (index_number (stored_at place)) ++ (separator ∷ (characters_of place k ++ codes "\n"))

-- how many digits stand at the start, k of them at most
unfoldable pub digits_first : ℕ → List ℕ → ℕ
digits_first zero t = 0
digits_first (suc k) [] = 0
digits_first (suc k) (b ∷ t) = cond (is_digit b) (suc (digits_first k t)) 0

abbrev pub said_of : List ℕ → Digits
said_of t = record { number = said_by 3 0 t; digits = digits_first 3 t }

-- a line is taken as `part_by` (Lines.antt) judges it: its length and what it holds, or nothing; `part_turned`, in proofs/Partwise.antt, shows it
abbrev pub line_stands : {A : Type 0} → LinesOf A → ℕ → List ℕ → Bool
line_stands l i rest = let x = l.says i rest in l.may [] i x && starts_with (l.write i x) rest

abbrev pub line_taken : {A : Type 0} → LinesOf A → ℕ → List ℕ → Option (Taken A)
line_taken l i rest = cond (line_stands l i rest) (Some (record { to = length (l.write i (l.says i rest)); held = l.says i rest })) None

-- a number in its fewest digits and LF, at the start; `number_stands`, in proofs/Takes.antt, judges it by its digits
abbrev pub number_taken : List ℕ → Option (Taken ℕ)
number_taken rest =
    let p = said_by 3 0 rest in
    let line = decimal_of p ++ codes "\n" in
    cond (starts_with line rest) (Some (record { to = length line; held = p })) None

abbrev pub setting_taken : Series → ℕ → List ℕ → Option (Taken ℕ)
setting_taken k i rest = line_taken (setting_lines k) i rest

abbrev pub value_taken : ℕ → List ℕ → Option (Taken Kept)
value_taken i rest = line_taken value_lines i rest

-- of a value that was put, what follows the four bytes of its key stands and may be held
abbrev pub put_stands : ℕ → List ℕ → Bool
put_stands i rest = let k = put_kept (drop 4 rest) in kept_right i k && starts_with (drop 4 (kept_line i k)) (drop 4 rest)

-- a setting's line up to the colon
abbrev pub setting_start : ℕ → List ℕ
setting_start n = codes "u=" ++ (name_of "s" n ++ codes ":")

abbrev pub entry_taken : Series → List ℕ → Option (Taken Entry)
entry_taken k rest = line_taken (entry_lines k) 0 rest

abbrev pub count_taken : List ℕ → Option (Taken ℕ)
count_taken rest = line_taken count_lines 0 rest

-- what is kept of lines that are right, with the place past them, or the refusal that tells the start of the first wrong one
abbrev pub kept_as : {A : Type 0} → A → Came → Result (Taken A) SheetRefusal
kept_as held (Ok at) = Ok (record { to = at; held = held })
kept_as held (Err at) = Err (Wrong at)

abbrev pub settings_as : Part ℕ → Result (Taken (List ℕ)) SheetRefusal
settings_as p = kept_as (padded p.got) p.came

abbrev pub values_as : Part Kept → Result (Taken (List Kept)) SheetRefusal
values_as p = kept_as (p.got ++ drop (length p.got) (replicate values_n None)) p.came

-- entries as they are kept, blank past the last
abbrev pub entries_filled : List Entry → List Entry
entries_filled got = got ++ replicate (entries_n - length got) blank_entry

-- the place past lines that are right, or the refusal
abbrev pub lines_to : Came → Result ℕ SheetRefusal
lines_to (Ok at) = Ok at
lines_to (Err at) = Err (Wrong at)

-- settings as they are kept, and values, of a series
abbrev pub contents_by : Series → List ℕ → List Kept → Contents
contents_by k settings values = record { series = k; settings = settings; values = values }

-- how many entries are taken, or the refusal
abbrev pub counted_to : ℕ → Came → Result ℕ SheetRefusal
counted_to n (Ok at) = Ok n
counted_to n (Err at) = Err (Wrong at)

abbrev pub list_count : Part Entry → Result ℕ SheetRefusal
list_count p = counted_to (length p.got) p.came

-- the first n entries laid down in an image, one after the other, and their count
unfoldable pub entries_laid : Series → List Entry → ℕ → List ℕ → List ℕ
entries_laid k entries zero image = image
entries_laid k entries (suc n) image = entry_laid k n (get_or entries n blank_entry) (entries_laid k entries n image)

abbrev pub undo_laid : Series → List Entry → ℕ → List ℕ → List ℕ
undo_laid k entries n image = count_laid k n (entries_laid k entries n image)

-- the first form's lines as they are kept
abbrev pub first_held : FirstLines → ℕ → First
first_held p at = record {
  to = at;
  settings = padded p.settings;
  values = p.values ++ drop (length p.values) (replicate values_n None);
}

abbrev pub first_to : FirstLines → Came → Result First SheetRefusal
first_to p (Ok at) = Ok (first_held p at)
first_to p (Err at) = Err (Wrong at)

abbrev pub first_as : FirstLines → Result First SheetRefusal
first_as p = first_to p p.came

-- a line and as many noughts as the room for its reply has bytes
abbrev pub lent_of : List ℕ → Lent
lent_of l = record { line = l; room = replicate reply_room 0 }

-- each piece as one call on an image, whatever the replies are
abbrev pub run_by : List (List ℕ) → List ℕ → List ℕ
run_by ls image = image_after image (map lent_of ls)

abbrev pub Runs : List ℕ → List ℕ → List ℕ → Type 0
Runs input image image' = image' ≡ run_by (pieces input) image
