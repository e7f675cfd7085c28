-- Loading a sheet of either form: it "takes exactly the bytes some sheet has .. otherwise refusal 40 tells the start of the first wrong, missing or surplus line".
use Rattle.std.specs.Prelude.{ℕ, ◌+◌, ◌≡◌, cond, List, [], eqb, length, get_or, drop, Ok, Err}
use Rattle.figures.specs.Bytes.{starts_with}
use Rattle.instrument.specs.Settings.{settings_n, padded}
use Rattle.instrument.specs.Values.{values_n}
use Rattle.state.specs.Entries.{with_entries, Contents, is_state}
use Rattle.state.specs.Image.{image_of, series_in, is_image}
use Rattle.state.specs.declared.entries.Entry.{Entry}
use Rattle.state.specs.declared.entries.State.{State}
use Rattle.instrument.specs.declared.settings.Series.{Series}
use Rattle.instrument.specs.Values.{Kept}
use Rattle.sheets.specs.Lines.{Came, Part, wrong_at, part_by}
use Rattle.sheets.specs.Sheet.{series_line, setting_lines, value_lines}
use Rattle.sheets.specs.Undo.{form_line, count_lines, entry_lines}
use Rattle.sheets.specs.declared.forms.Form.{Form}
use Rattle.sheets.specs.declared.forms.Form.TheVariants.{One, Two}
use Rattle.sheets.specs.Answers.{LoadAnswer}
use Rattle.sheets.specs.declared.answers.SheetRefusal.TheVariants.{NoState, Wrong}

-- what loading comes to: the start of the first line that isn't right in its turn, or settings, values and undo entries
pub data Loading : Type 0 where
  wrong : ℕ → Loading
  right : List ℕ → List Kept → List Entry → Loading

-- the state that a sheet of the series leads to
abbrev pub loaded_state : Series → List ℕ → List Kept → List Entry → State
loaded_state k settings values entries = with_entries k (padded settings) values entries

-- the lines of each part, from a place on

-- as many as the series has
abbrev pub settings_from : Series → List ℕ → ℕ → Part ℕ
settings_from k sheet at = part_by (setting_lines k) (settings_n k) 0 at (drop at sheet) []

abbrev pub values_from : List ℕ → ℕ → Part Kept
values_from sheet at = part_by value_lines values_n 0 at (drop at sheet) []

-- the one line of the count
abbrev pub count_from : List ℕ → ℕ → Part ℕ
count_from sheet at = part_by count_lines 1 0 at (drop at sheet) []

-- as many as the count says
abbrev pub entries_from : Series → ℕ → List ℕ → ℕ → Part Entry
entries_from k n sheet at = part_by (entry_lines k) n 0 at (drop at sheet) []

-- the undo list, from its `undo=` line on, over settings and values. After the last line nothing may stand; where each line is right "but no state has that
-- list", the `undo=` line is the wrong one (request 106).
abbrev pub listed : Contents → List Entry → State
listed c entries = with_entries c.series c.settings c.values entries

abbrev pub after_entries : Contents → List ℕ → ℕ → List Entry → Came → Part Entry
after_entries c sheet undo entries (Err at) = wrong_at at
after_entries c sheet undo entries (Ok at) =
    cond (eqb at (length sheet)) (cond (is_state (listed c entries)) (record { came = Ok at; got = entries }) (wrong_at undo)) (wrong_at at)

abbrev pub after_count : Contents → List ℕ → ℕ → List ℕ → Came → Part Entry
after_count c sheet undo counts (Err at) = wrong_at at
after_count c sheet undo counts (Ok at) =
    let p = entries_from c.series (get_or counts 0 0) sheet at in after_entries c sheet undo p.got p.came

abbrev pub list_from : Contents → List ℕ → ℕ → Part Entry
list_from c sheet at = let p = count_from sheet at in after_count c sheet at p.got p.came

-- what follows the values: nothing in the first form, the undo list in the second
unfoldable pub undo_from : Form → Contents → List ℕ → ℕ → Part Entry
undo_from One c sheet at = cond (eqb at (length sheet)) (record { came = Ok at; got = [] }) (wrong_at at)
undo_from Two c sheet at = list_from c sheet at

-- the first form's lines: how far they are right, and what they hold
pub record FirstLines : Type 0 where
  pub came : Came
  pub settings : List ℕ
  pub values : List Kept

abbrev pub first_wrong_at : ℕ → FirstLines
first_wrong_at at = record { came = Err at; settings = []; values = [] }

-- "a sheet of the other series is 40 at that line" (request 103)
abbrev pub settings_in : Series → List ℕ → ℕ → Part ℕ
settings_in k sheet start =
    cond (starts_with (series_line k) (drop start sheet)) (settings_from k sheet (start + length (series_line k))) (wrong_at start)

abbrev pub after_settings : List ℕ → List ℕ → Came → FirstLines
after_settings sheet settings (Err at) = first_wrong_at at
after_settings sheet settings (Ok at) = let p = values_from sheet at in record { came = p.came; settings = settings; values = p.got }

-- in a sheet of a form
unfoldable pub first_lines : Form → Series → List ℕ → FirstLines
first_lines f k sheet =
    let p = settings_in k sheet (length (form_line f)) in
    cond (starts_with (form_line f) sheet) (after_settings sheet p.got p.came) (first_wrong_at 0)

abbrev pub after_undo : List ℕ → List Kept → List Entry → Came → Loading
after_undo settings values entries (Err at) = wrong at
after_undo settings values entries (Ok at) = right settings values entries

abbrev pub contents_named : Series → List ℕ → List Kept → Contents
contents_named k settings values = record { series = k; settings = padded settings; values = values }

abbrev pub after_first : Form → Series → List ℕ → List ℕ → List Kept → Came → Loading
after_first f k sheet settings values (Err at) = wrong at
after_first f k sheet settings values (Ok at) =
    let p = undo_from f (contents_named k settings values) sheet at in after_undo settings values p.got p.came

-- as a sheet of a form
abbrev pub loading_as : Form → Series → List ℕ → Loading
loading_as f k sheet = let p = first_lines f k sheet in after_first f k sheet p.settings p.values p.came

-- "Both forms load": the first line tells the second
abbrev pub form_in : List ℕ → Form
form_in sheet = cond (starts_with (form_line Two) sheet) Two One

abbrev pub loading_of : Series → List ℕ → Loading
loading_of k sheet = loading_as (form_in sheet) k sheet

-- the answer, and the lent bytes as they are then
pub record Loaded·image : Type 0 where
  pub answer : LoadAnswer
  pub image : List ℕ

-- "makes the settings and stored values those it names and empties the undo list", or fills it from the second form's lines; "otherwise refusal 40 ..
-- leaves the state as it was"
abbrev pub loaded_by : Series → List ℕ → Loading → Loaded·image
loaded_by k image (wrong at) = record { answer = Err (Wrong at); image = image }
loaded_by k image (right settings values entries) = record { answer = Ok tt; image = image_of (loaded_state k settings values entries) }

abbrev pub loaded : List ℕ → List ℕ → Loaded·image
loaded image sheet =
    cond (is_image image) (loaded_by (series_in image) image (loading_of (series_in image) sheet)) (record { answer = Err NoState; image = image })

abbrev pub Loads : List ℕ → List ℕ → LoadAnswer → List ℕ → Type 0
Loads image sheet r image' = (r ≡ (loaded image sheet).answer) × (image' ≡ (loaded image sheet).image)
