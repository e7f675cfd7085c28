-- The claims of request 104's bench readings: each refusal tells its byte, by computing. Assumes nothing.
use mathlib.Core.Path.{refl}
use lib.ListN.{drop}
use Rattle.figures.specs.Bytes.{among, every, run_of, starts_with}
use Rattle.figures.specs.Decimal.{number_from}
use Rattle.blocks.specs.Judging.{block_from}
use Rattle.instrument.specs.Rows.{seek}
use Rattle.instrument.specs.Settings.{rows100}
use Rattle.instrument.specs.Values.{stored}
use Rattle.commands.specs.Shapes.{groups_right, indexes_in}
use Rattle.units.specs.declared.kinds.Family.TheVariants.{Station, Level}
use Rattle.bench.specs.Readings.{All}
use Rattle.bench.specs.Told.{station_told, level_told, lines_told}

pub station_told_lem : All Station station_told
unfolding among every run_of number_from block_from
station_told_lem =
    let from16 : All Station (drop 16 station_told) = ((refl, refl), ((refl, refl), ((refl, refl), ((refl, refl), tt)))) in
    let from8 : All Station (drop 8 station_told) =
    ((refl, refl), ((refl, refl), ((refl, refl), ((refl, refl), ((refl, refl), ((refl, refl), ((refl, refl), ((refl, refl), from16)))))))) in
    ((refl, refl), ((refl, refl), ((refl, refl), ((refl, refl), ((refl, refl), ((refl, refl), ((refl, refl), ((refl, refl), from8))))))))

pub level_told_lem : All Level level_told
unfolding among every run_of number_from block_from
level_told_lem = ((refl, refl), ((refl, refl), ((refl, refl), ((refl, refl), ((refl, refl), ((refl, refl), ((refl, refl), ((refl, refl), tt))))))))

pub lines_told_lem : All Station lines_told
unfolding among every run_of starts_with number_from seek rows100 stored groups_right indexes_in
lines_told_lem =
    let from10 : All Station (drop 10 lines_told) =
    ((refl, refl, refl), ((refl, refl, refl), ((refl, refl, refl), ((refl, refl, refl), ((refl, refl, refl), tt))))) in
    let from5 : All Station (drop 5 lines_told) =
    ((refl, refl, refl), ((refl, refl, refl), ((refl, refl, refl), ((refl, refl, refl), ((refl, refl, refl), from10))))) in
    ((refl, refl, refl), ((refl, refl, refl), ((refl, refl, refl), ((refl, refl, refl), ((refl, refl, refl), from5)))))
