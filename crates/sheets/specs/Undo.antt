-- The second form: "A second sheet form starts `form=2`, then the first form's lines, then `undo=` and the count, then one `u=` line for each entry, oldest
-- first: the `s` or `v` key, a colon, and what was there before" (request 106).
use Rattle.std.specs.Prelude.{ℕ, cond, List, [], ◌++◌, eqb, leb, length, get_or, take, drop}
use Rattle.figures.specs.Text.{codes, byte}
use Rattle.figures.specs.Bytes.{starts_with}
use Rattle.figures.specs.Decimal.{decimal_of}
use Rattle.instrument.specs.Rows.{name_of}
use Rattle.instrument.specs.Settings.{setting_number, row_at, setting_place}
use Rattle.instrument.specs.Values.{index_number, stored_at, value_place, put_kept}
use Rattle.state.specs.Entries.{entries_n, entry_of, blank_entry, entry_right}
use Rattle.instrument.specs.declared.settings.Series.{Series}
use Rattle.instrument.specs.Values.{Kept}
use Rattle.state.specs.declared.entries.Item.{Item}
use Rattle.state.specs.declared.entries.Item.TheVariants.{Free, Setting, Stored}
use Rattle.state.specs.declared.entries.Former.{Former}
use Rattle.state.specs.declared.entries.Entry.{Entry}
use Rattle.state.specs.declared.entries.State.{State}
use Rattle.sheets.specs.Lines.{LinesOf, lines_by}
use Rattle.sheets.specs.Sheet.{said_by, characters_of, sheet_of}
use Rattle.sheets.specs.declared.forms.Form.{Form}
use Rattle.sheets.specs.declared.forms.Form.TheVariants.{One, Two}
use Rattle.std.specs.Prelude.{Option, Some, None}

-- "starts `form=2`"; the first form has no such line
abbrev pub form_line : Form → List ℕ
form_line One = []
form_line Two = codes "form=2\n"

-- "`undo=` and the count", in its fewest digits
abbrev pub count_key : List ℕ
count_key = codes "undo="

abbrev pub count_line : ℕ → List ℕ
count_line n = count_key ++ (decimal_of n ++ codes "\n")

-- the rules for that line; no list has more entries than a state holds, nor a count more than three digits
abbrev pub count_lines : LinesOf ℕ
count_lines = record {
  write = λ i n. count_line n;
  may = λ before i n. leb n entries_n;
  says = λ i rest. said_by 3 0 (drop (length count_key) rest);
}

-- "the `s` or `v` key"; no entry that stands is of nothing
abbrev pub item_name : Series → Item → List ℕ
item_name k Free = []
item_name k (Setting i) = name_of "s" (setting_number (row_at k i))
item_name k (Stored i) = name_of "v" (index_number (stored_at i))

-- up to the colon
abbrev pub item_key : Series → Item → List ℕ
item_key k i = codes "u=" ++ (item_name k i ++ codes ":")

-- "what was there before": a parameter in its fewest digits, the characters of a value that was put, or nothing
abbrev pub former_text : Item → Former → List ℕ
former_text Free f = []
former_text (Setting i) f = decimal_of f.parameter
former_text (Stored i) f = characters_of i f.kept

abbrev pub entry_line : Series → Entry → List ℕ
entry_line k e = item_key k e.item ++ (former_text e.item e.former ++ codes "\n")

-- what a line says: the letter and the number that follows it name the item, and what stands after the colon was there
abbrev pub setting_said : Series → Option ℕ → List ℕ → Entry
setting_said k None rest = blank_entry
setting_said k (Some i) rest = entry_of (Setting i) (said_by 3 0 (drop (length (item_key k (Setting i))) rest)) None

abbrev pub kept_there : Series → ℕ → List ℕ → Kept
kept_there k i rest =
    cond (starts_with (entry_line k (entry_of (Stored i) 0 None)) rest) None (put_kept (drop (length (item_key k (Stored i))) rest))

abbrev pub stored_said : Series → Option ℕ → List ℕ → Entry
stored_said k None rest = blank_entry
stored_said k (Some i) rest = entry_of (Stored i) 0 (kept_there k i rest)

-- no number has more than three digits
abbrev pub number_said : List ℕ → ℕ
number_said rest = said_by 3 0 (drop 3 rest)

abbrev pub entry_said : Series → List ℕ → Entry
entry_said k rest =
    cond (eqb (get_or rest 2 0) (byte "s")) (setting_said k (setting_place k (number_said rest)) rest) (stored_said k (value_place (number_said rest)) rest)

-- "one `u=` line for each entry": the rules for the line of an entry of the series, right by itself
abbrev pub entry_lines : Series → LinesOf Entry
entry_lines k = record {
  write = λ i e. entry_line k e;
  may = λ before i e. entry_right k e;
  says = λ i rest. entry_said k rest;
}

-- the entries that stand, oldest first
abbrev pub entries_of : State → List Entry
entries_of s = take s.count s.undo

-- what follows the first form's lines
abbrev pub list_text : Series → List Entry → List ℕ
list_text k entries = count_line (length entries) ++ lines_by (entry_lines k) 0 entries

unfoldable pub undo_text : Form → State → List ℕ
undo_text One s = []
undo_text Two s = list_text s.series (entries_of s)

-- the sheet of a state in a form
unfoldable pub sheet_as : Form → State → List ℕ
sheet_as One s = sheet_of s
sheet_as Two s = form_line Two ++ (sheet_of s ++ undo_text Two s)
