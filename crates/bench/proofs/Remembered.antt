-- The claims of sheets that remember, by computing. Assumes nothing.
use mathlib.Core.Path.{refl}
use mathlib.Core.List.{flat_map}
use Rattle.figures.specs.Bytes.{among, every, run_of, starts_with}
use Rattle.figures.specs.Decimal.{number_from, digits_of, digits_nBy}
use Rattle.instrument.specs.Rows.{seek}
use Rattle.instrument.specs.Settings.{rows100, in_ranges}
use Rattle.instrument.specs.Values.{stored}
use Rattle.state.specs.Entries.{all_blank, values_right, right_back}
use Rattle.commands.specs.Shapes.{groups_right, indexes_in}
use Rattle.lines.specs.Sessions.{session}
use Rattle.sheets.specs.Sheet.{said_by, sheet_of}
use Rattle.sheets.specs.Undo.{undo_text, sheet_as}
use Rattle.sheets.specs.Lines.{lines_by, part_by}
use Rattle.sheets.specs.Loading.{undo_from, first_lines}
use Rattle.bench.specs.Remembered.{Remembered}

pub remembered : Remembered
unfolding among every starts_with number_from digits_of digits_nBy seek rows100 stored run_of groups_right indexes_in flat_map session sheet_of undo_text sheet_as lines_by part_by said_by undo_from first_lines in_ranges values_right all_blank right_back
remembered = record {
  written = refl;
  loads = refl;
  too_high = refl;
  too_low = refl;
  nought_before = refl;
  above_64 = refl;
  parameter = refl;
  setting = refl;
  value = refl;
  unit = refl;
  unended = refl;
  no_list = refl;
  standing = refl;
  no_way_back = refl;
  other_form = refl;
}
