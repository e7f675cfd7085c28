-- The claims of minus nought: each reading holds, and the stand-in stores, gives back, takes back, writes and loads it; by computing. Assumes nothing.
use mathlib.Core.Path.{refl}
use mathlib.Core.Bool.{Bool, true, false}
use mathlib.Core.List.{flat_map}
use lib.ListN.{drop}
use Rattle.figures.specs.Bytes.{among, every, run_of, starts_with}
use Rattle.figures.specs.Decimal.{number_from, digits_of, digits_nBy}
use Rattle.blocks.specs.Judging.{block_from}
use Rattle.blocks.specs.Composing.{unless_wrong, words_bytes}
use Rattle.instrument.specs.Rows.{seek}
use Rattle.instrument.specs.Settings.{rows100}
use Rattle.instrument.specs.Values.{stored}
use Rattle.commands.specs.Shapes.{groups_right, indexes_in}
use Rattle.lines.specs.Sessions.{session}
use Rattle.sheets.specs.Sheet.{said_by, sheet_of}
use Rattle.sheets.specs.Lines.{lines_by, part_by}
use Rattle.sheets.specs.Loading.{undo_from, first_lines}
use Rattle.units.specs.declared.kinds.Family.TheVariants.{Station, Level}
use Rattle.bench.specs.Readings.{All}
use Rattle.bench.specs.Noughts.{station_noughts, level_noughts, beside, StoredNoughts}

pub station_noughts_lem : (wide : Bool) → All Station (station_noughts wide)
unfolding among every number_from digits_of block_from unless_wrong words_bytes
station_noughts_lem true =
    let from10 : All Station (drop 10 (station_noughts true)) = ((refl, refl, refl), ((refl, refl, refl), ((refl, refl, refl), ((refl, refl, refl), tt)))) in
    let from5 : All Station (drop 5 (station_noughts true)) =
    ((refl, refl, refl), ((refl, refl, refl), ((refl, refl, refl), ((refl, refl, refl), ((refl, refl, refl), from10))))) in
    ((refl, refl, refl), ((refl, refl, refl), ((refl, refl, refl), ((refl, refl, refl), ((refl, refl, refl), from5)))))
station_noughts_lem false =
    let from10 : All Station (drop 10 (station_noughts false)) = ((refl, refl, refl), ((refl, refl, refl), ((refl, refl, refl), ((refl, refl, refl), tt)))) in
    let from5 : All Station (drop 5 (station_noughts false)) =
    ((refl, refl, refl), ((refl, refl, refl), ((refl, refl, refl), ((refl, refl, refl), ((refl, refl, refl), from10))))) in
    ((refl, refl, refl), ((refl, refl, refl), ((refl, refl, refl), ((refl, refl, refl), ((refl, refl, refl), from5)))))

pub level_noughts_lem : (wide : Bool) → All Level (level_noughts wide)
unfolding among every number_from digits_of block_from unless_wrong words_bytes
level_noughts_lem true =
    ((refl, refl, refl), ((refl, refl, refl), ((refl, refl, refl), ((refl, refl, refl), ((refl, refl, refl), ((refl, refl, refl), ((refl, refl, refl), tt)))))))
level_noughts_lem false =
    ((refl, refl, refl), ((refl, refl, refl), ((refl, refl, refl), ((refl, refl, refl), ((refl, refl, refl), ((refl, refl, refl), ((refl, refl, refl), tt)))))))

pub beside_noughts : All Station beside
unfolding among every number_from digits_of block_from unless_wrong words_bytes
beside_noughts = ((refl, refl, refl), ((refl, refl), ((refl, refl), ((refl, refl), tt))))

pub stored_noughts : StoredNoughts
unfolding among every starts_with number_from digits_of digits_nBy seek rows100 stored run_of groups_right indexes_in flat_map session sheet_of lines_by part_by undo_from first_lines said_by
stored_noughts = record { done = refl; got = refl; undone = refl; undone_first = refl; held = refl; loads = refl }
