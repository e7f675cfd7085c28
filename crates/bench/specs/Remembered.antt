-- Sheets that remember (request 106): the sheet of form 2 of a trial, what it loads to, and what 40 and 41 tell where it is damaged.
use Rattle.std.specs.Prelude.{ℕ, Err, ◌≡◌, List, [], ◌∷◌, ◌++◌}
use Prim.Native.String.{String}
use Rattle.figures.specs.Text.{codes}
use Rattle.instrument.specs.Settings.{held}
use Rattle.instrument.specs.declared.settings.Series.TheVariants.{Tps100}
use Rattle.state.specs.declared.entries.State.{State}
use Rattle.sheets.specs.Undo.{entries_of, sheet_as}
use Rattle.sheets.specs.Loading.{wrong, right, loading_of}
use Rattle.sheets.specs.Writing.{moved_sheet}
use Rattle.sheets.specs.declared.forms.Form.TheVariants.{One, Two}
use Rattle.sheets.specs.declared.answers.SheetRefusal.TheVariants.{Wrong, Standing}
use Rattle.bench.specs.Readings.{sent}

-- 40 is set, and 88 put twice
abbrev pub trial : State
trial = sent ("SET/40/2" ∷ "PUT/88...0+00001550 " ∷ "PUT/88...0+00001560 " ∷ [])

-- its sheet of form 1
abbrev pub first : List ℕ
first =
    codes "series=TPS100\ns30=0\ns32=0\ns34=0\ns40=2\ns41=0\ns44=0\ns49=0\ns50=0\ns70=5\ns71=0\ns73=1\ns76=0\ns80=0\ns81=0\n"
    ++ codes "s95=0\ns102=0\ns103=1\ns135=0\ns136=0\nv11=\nv16=\nv21=\nv24=\nv34=\nv83=\nv84=\nv85=\nv86=\nv87=\nv88=88..10+00001560\n"

-- and of form 2, with what follows the values; the `undo=` line starts at 209
abbrev pub second : String → List ℕ
second list = codes "form=2\n" ++ (first ++ codes list)

abbrev pub list : String
list = "undo=3\nu=s40:0\nu=v88:\nu=v88:88..10+00001550\n"

-- what follows the values is told at the place
abbrev pub At : String → ℕ → Type 0
At list place = loading_of Tps100 (second list) ≡ wrong place

pub record Remembered : Type 0 where
  pub written : sheet_as Two trial ≡ second list
  pub loads : loading_of Tps100 (second list) ≡ right (held Tps100 trial.settings) trial.values (entries_of trial)
  -- a count too high for its lines is told where the next should start, one too low at the surplus line, and another at its own
  pub too_high : At "undo=4\nu=s40:0\nu=v88:\nu=v88:88..10+00001550\n" 253
  pub too_low : At "undo=2\nu=s40:0\nu=v88:\nu=v88:88..10+00001550\n" 231
  pub nought_before : At "undo=03\nu=s40:0\nu=v88:\nu=v88:88..10+00001550\n" 209
  pub above_64 : At "undo=65\n" 209
  -- a parameter that 40 doesn't have, a setting and a value that there aren't, another unit, a line without its LF
  pub parameter : At "undo=1\nu=s40:3\n" 216
  pub setting : At "undo=1\nu=s33:0\n" 216
  pub value : At "undo=1\nu=v81:\n" 216
  pub unit : At "undo=1\nu=v88:88..12+00001550\n" 216
  pub unended : At "undo=1\nu=v88:" 216
  -- each line is right, but 11 was never put: no state has that list
  pub no_list : At "undo=1\nu=v11:\n" 209
  -- 41 for the way back, and 40 where no state has the list; the other form is wrong at its start
  pub standing : (moved_sheet Two (second list) []).answer ≡ Err (Standing 209)
  pub no_way_back : (moved_sheet Two (second "undo=1\nu=v11:\n") []).answer ≡ Err (Wrong 209)
  pub other_form : (moved_sheet One (second list) []).answer ≡ Err (Wrong 0)
