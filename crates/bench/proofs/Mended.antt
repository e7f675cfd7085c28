-- The claims of request 105's bench readings: what each printed block is mended to, by computing. Assumes nothing.
use mathlib.Core.Path.{refl}
use lib.ListN.{drop}
use Rattle.figures.specs.Bytes.{among, every, run_of}
use Rattle.figures.specs.Decimal.{number_from}
use Rattle.blocks.specs.Judging.{block_from}
use Rattle.listings.specs.Mending.{mended, mended_from}
use Rattle.units.specs.declared.kinds.Family.TheVariants.{Station, Level}
use Rattle.bench.specs.Mended.{AllPrinted, station_listing, station_printed, level_printed}

pub station_listing_lem : AllPrinted Station station_listing
unfolding among every run_of number_from block_from mended mended_from
station_listing_lem =
    let from8 : AllPrinted Station (drop 8 station_listing) = (refl, (refl, (refl, (refl, (refl, (refl, (refl, tt))))))) in
    ((refl, refl), (refl, (refl, (refl, (refl, (refl, (refl, (refl, from8))))))))

pub station_printed_lem : AllPrinted Station station_printed
unfolding among every run_of number_from block_from mended mended_from
station_printed_lem =
    let from8 : AllPrinted Station (drop 8 station_printed) =
    ((refl, refl), ((refl, refl), ((refl, refl), ((refl, refl), ((refl, refl), ((refl, refl), ((refl, refl), ((refl, refl), ((refl, refl), tt))))))))) in
    (refl, (refl, (refl, (refl, (refl, (refl, (refl, (refl, from8))))))))

pub level_printed_lem : AllPrinted Level level_printed
unfolding among every run_of number_from block_from mended mended_from
level_printed_lem = ((refl, refl), (refl, (refl, (refl, (refl, ((refl, refl), tt))))))
