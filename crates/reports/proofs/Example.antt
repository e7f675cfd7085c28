-- The reports of blocks, by computing.
use mathlib.Core.Path.{◌≡◌, refl}
use mathlib.Core.List.{◌∷◌, ◌++◌}
use Rattle.figures.specs.Bytes.{among, every, run_of}
use Rattle.figures.specs.Decimal.{number_from, digits_of, digits_nBy}
use Rattle.figures.specs.Text.{codes}
use Rattle.blocks.specs.Judging.{block_from}
use Rattle.reports.specs.Piece.{words_text, report_of}
use Rattle.units.specs.declared.kinds.Family.TheVariants.{Station, Level}

pub example : report_of Station 1 0 (codes "110014+00000003 21.324+27952530 22.324+27000430 31..01+00265965 51..1.+0009+000 \r\n")
    ≡ codes "block=1 at=0 width=8 end=CRLF words=5 bytes=82\n"
    ++ (codes "word=1 index=11 info=0014 text=00000003\n"
    ++ (codes "word=2 index=21 info=.324 count=+10075730 step=1/10s reads=279-52-53.0\n"
    ++ (codes "word=3 index=22 info=.324 count=+9720430 step=1/10s reads=270-00-43.0\n"
    ++ (codes "word=4 index=31 info=..01 count=+265965 step=1/1000ft reads=265.965ft\n"
    ++ codes "word=5 index=51 info=..1. ppm=+9 mm=+0\n"))))
unfolding among every number_from digits_of block_from digits_nBy words_text
example = refl

-- a level's block, and one of inches
pub level_example : report_of Level 1 0 (codes "110006+00003000 32..00+00016380 331106+00010198 \r\n")
    ≡ codes "block=1 at=0 width=8 end=CRLF words=3 bytes=50\n"
    ++ (codes "word=1 index=11 info=0006 text=00003000\n"
    ++ (codes "word=2 index=32 info=..00 count=+16380 step=1/1000m reads=16.380m\n"
    ++ codes "word=3 index=331 info=106 count=+10198 step=1/10000m reads=1.0198m\n"))
unfolding among every number_from digits_of block_from digits_nBy words_text
level_example = refl

pub inch_example : report_of Level 2 50 (codes "332.09-00101981 \r")
    ≡ codes "block=2 at=50 width=8 end=CR words=1 bytes=17\n" ++ codes "word=1 index=332 info=.09 count=-101981 step=1/2000in reads=-50.9905in\n"
unfolding among every number_from digits_of block_from digits_nBy words_text
inch_example = refl

-- minus nought (request 102): a level's difference; of a total station an angle, a pair and a length
pub nought_example : report_of Level 1 0 (codes "573..0-00000000 \r")
    ≡ codes "block=1 at=0 width=8 end=CR words=1 bytes=17\n" ++ codes "word=1 index=573 info=..0 count=-0 step=1/1000m reads=-0.000m\n"
unfolding among every number_from digits_of block_from digits_nBy words_text
nought_example = refl

pub noughts_example : report_of Station 1 0 (codes "21.104-00000000 51..1.-0000-000 82..00-00000000 \r")
    ≡ codes "block=1 at=0 width=8 end=CR words=3 bytes=49\n"
    ++ (codes "word=1 index=21 info=.104 count=-0 step=1/10s reads=-0-00-00.0\n"
    ++ (codes "word=2 index=51 info=..1. ppm=-0 mm=-0\n"
    ++ codes "word=3 index=82 info=..00 count=-0 step=1/1000m reads=-0.000m\n"))
unfolding among every number_from digits_of block_from digits_nBy words_text
noughts_example = refl

-- where a block is refused (request 104): a count's letter, the caret under it
pub refused_example : report_of Station 1 0 (codes "83..10+000A5320 \r\n")
    ≡ codes "block=1 at=0 refused=8 place=10\n" ++ (codes "83..10+000A5320 \n" ++ codes "          ^\n")
unfolding among every run_of digits_of block_from digits_nBy
refused_example = refl

-- and bytes of a text that aren't graphic, BEL and one past ASCII
pub shown_example : report_of Station 3 33 (codes "110001+0000" ++ (7 ∷ 200 ∷ codes "01 \r"))
    ≡ codes "block=3 at=33 refused=8 place=11\n" ++ (codes "110001+0000..01 \n" ++ codes "           ^\n")
unfolding among every run_of digits_of block_from digits_nBy
shown_example = refl
