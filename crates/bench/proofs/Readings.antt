-- The claims: every trial of document 01's table holds, and of the level's two, and how replies end; by computing. Assumes nothing.
use mathlib.Core.Path.{refl}
use lib.ListN.{drop}
use Rattle.figures.specs.Bytes.{among, every, run_of, starts_with}
use Rattle.figures.specs.Decimal.{number_from, digits_of}
use Rattle.blocks.specs.Judging.{block_from}
use Rattle.blocks.specs.Composing.{unless_wrong, words_bytes}
use Rattle.instrument.specs.Rows.{seek}
use Rattle.instrument.specs.Settings.{rows100}
use Rattle.instrument.specs.Values.{stored}
use Rattle.commands.specs.Shapes.{groups_right, indexes_in}
use Rattle.lines.specs.Sessions.{session}
use Rattle.units.specs.declared.kinds.Family.TheVariants.{Station, Level}
use Rattle.bench.specs.Readings.{All, table, Ends}
use Rattle.bench.specs.Levels.{listing, levels}

pub readings : All Station table
unfolding among every run_of starts_with number_from digits_of block_from unless_wrong words_bytes seek rows100 stored groups_right indexes_in
readings =
    let later : All Station (drop 9 table) =
    ((refl, refl), ((refl, refl), ((refl, refl), ((refl, refl), ((refl, refl), ((refl, refl), ((refl, refl), tt))))))) in
    ((refl, refl), ((refl, refl), ((refl, refl), ((refl, refl), ((refl, refl), ((refl, refl), ((refl, refl), ((refl, refl), ((refl, refl, refl), later)))))))))

pub ends : Ends
unfolding every starts_with number_from digits_of run_of seek rows100 session
ends = record { to_cr = refl; from_cr = refl; again = refl }

pub level_listing : All Level listing
unfolding among every number_from block_from
level_listing =
    let from7 : All Level (drop 7 listing) =
    ((refl, refl), ((refl, refl), ((refl, refl), ((refl, refl), ((refl, refl), ((refl, refl), ((refl, refl), tt))))))) in
    ((refl, refl), ((refl, refl), ((refl, refl), ((refl, refl), ((refl, refl), ((refl, refl), ((refl, refl), from7)))))))

pub level_readings : All Level levels
unfolding among every run_of number_from block_from
level_readings =
    let from48 : All Level (drop 48 levels) = ((refl, refl), tt) in
    let from40 : All Level (drop 40 levels) =
    ((refl, refl), ((refl, refl), ((refl, refl), ((refl, refl), ((refl, refl), ((refl, refl), ((refl, refl), ((refl, refl), from48)))))))) in
    let from32 : All Level (drop 32 levels) =
    ((refl, refl), ((refl, refl), ((refl, refl), ((refl, refl), ((refl, refl), ((refl, refl), ((refl, refl), ((refl, refl), from40)))))))) in
    let from24 : All Level (drop 24 levels) =
    ((refl, refl), ((refl, refl), ((refl, refl), ((refl, refl), ((refl, refl), ((refl, refl), ((refl, refl), ((refl, refl), from32)))))))) in
    let from16 : All Level (drop 16 levels) =
    ((refl, refl), ((refl, refl), ((refl, refl), ((refl, refl), ((refl, refl), ((refl, refl), ((refl, refl), ((refl, refl), from24)))))))) in
    let from8 : All Level (drop 8 levels) =
    ((refl, refl), ((refl, refl), ((refl, refl), ((refl, refl), ((refl, refl), ((refl, refl), ((refl, refl), ((refl, refl), from16)))))))) in
    ((refl, refl), ((refl, refl), ((refl, refl), ((refl, refl), ((refl, refl), ((refl, refl), ((refl, refl), ((refl, refl), from8))))))))
