-- What is told of lines of a listing, by computing.
use mathlib.Core.Path.{◌≡◌, refl}
use mathlib.Core.List.{[], ◌++◌}
use Rattle.figures.specs.Bytes.{among, every, run_of}
use Rattle.figures.specs.Decimal.{number_from, digits_of, digits_nBy}
use Rattle.figures.specs.Text.{codes}
use Rattle.units.specs.declared.kinds.Family.TheVariants.{Station}
use Rattle.blocks.specs.Judging.{block_from}
use Rattle.listings.specs.Mending.{mended_from, mended}
use Rattle.errata.specs.Errata.{edits_text, carets_from, block_of, told_of}

-- a dot, the last blank and the CR: the last two at one place
pub block_example : block_of Station (codes "410001+00000020 42...+00007142\n") ≡ codes "410001+00000020 42....+00007142 \r\n"
unfolding among every number_from block_from mended_from mended
block_example = refl

pub mended_example : told_of Station 2 (codes "410001+00000020 42...+00007142\n")
    ≡ codes "line=2 place=21 added=dot\n"
    ++ (codes "line=2 place=30 added=blank\n"
    ++ (codes "line=2 place=30 added=CR\n"
    ++ (codes "410001+00000020 42...+00007142\n"
    ++ codes "                     ^        ^\n")))
unfolding among every run_of number_from digits_of digits_nBy block_from mended_from mended edits_text carets_from
mended_example = refl

-- a line that reads as it is
pub unchanged_example : told_of Station 3 (codes "83..10+00005320 \r\n") ≡ []
unfolding among every number_from block_from mended_from mended
unchanged_example = refl

-- a heading
pub refused_example : told_of Station 1 (codes "Leica TPS-1000 Series\n") ≡ codes "line=1 refused=5 place=0\n" ++ (codes "Leica TPS-1000 Series\n" ++ codes "^\n")
unfolding among every run_of number_from digits_of digits_nBy block_from mended_from mended
refused_example = refl
