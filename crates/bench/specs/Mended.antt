-- The bench readings of request 105: what a printed block is mended to, with its edits, or by what it is refused.
use Rattle.blocks.specs.declared.answers.Refusal.{Refusal}
use Rattle.std.specs.Prelude.{ℕ, Result, Ok, Err, ◌≡◌, List, [], ◌∷◌, ◌++◌, length, replicate}
use Prim.Native.String.{String}
use Rattle.figures.specs.Text.{codes}
use Rattle.units.specs.declared.kinds.Family.{Family}
use Rattle.blocks.specs.Answers.{refusal_number, refusal_tells}
use Rattle.listings.specs.Edits.{dot_kind, blank_kind, cr_kind, edit}
use Rattle.listings.specs.Outcome.{outcome, mended_as}
use Rattle.listings.specs.declared.edits.Edit.{Edit}
use Rattle.listings.specs.declared.mending.Mended.{Mended}

-- a block that is mended, in room and list of just its size, to these bytes, which read, by these edits; one that is refused, with so much room and so many
-- places, by number and what it tells
pub data Printed : Type 0 where
  mended : List ℕ → List ℕ → List Edit → Printed
  refused : List ℕ → ℕ → ℕ → ℕ → ℕ → Printed

abbrev pub mend_number : Result Mended Refusal → ℕ
mend_number (Ok m) = 0
mend_number (Err r) = refusal_number r

abbrev pub mend_tells : Result Mended Refusal → ℕ
mend_tells (Ok m) = 0
mend_tells (Err r) = refusal_tells r

abbrev pub HoldsPrinted : Family → Printed → Type 0
HoldsPrinted f (mended s bytes es) =
    outcome f s (replicate (length bytes) 0) (length es) ≡ record { answer = mended_as (length bytes) (length es); room = bytes; edits = es }
HoldsPrinted f (refused s room places number told) =
    let a = (outcome f s (replicate room 0) places).answer in (mend_number a ≡ number) × (mend_tells a ≡ told)

abbrev pub AllPrinted : Family → List Printed → Type 0
AllPrinted f [] = Unit {0}
AllPrinted f (p ∷ ps) = HoldsPrinted f p × AllPrinted f ps

abbrev pub dot : ℕ → Edit
dot place = edit place dot_kind

abbrev pub blank : ℕ → Edit
blank place = edit place blank_kind

abbrev pub return : ℕ → Edit
return place = edit place cr_kind

-- a line, what it becomes, and the edits
abbrev pub mends : String → String → List Edit → Printed
mends line block es = mended (codes line) (codes block) es

-- a line of a listing whose last blank is stripped and which ends in LF alone: besides these edits it gets its blank and its CR, both before the LF
abbrev pub line_mends : String → String → ℕ → List Edit → Printed
line_mends line block end es = mended (codes line ++ codes "\n") (codes block ++ codes " \r\n") (es ++ (blank end ∷ return end ∷ []))

abbrev pub refuses : String → ℕ → ℕ → Printed
refuses line number told = refused (codes line) 771 34 number told

-- 003's first listing as it was printed: its title, and then block by block
abbrev pub station_listing : List Printed
station_listing =
    refuses "Leica TPS-1000 Series\n" 5 0
    ∷ line_mends "410001+00000020 42...+00007142" "410001+00000020 42....+00007142" 30 (dot 21 ∷ [])
    ∷ line_mends "410002+00000021 42...+00007142" "410002+00000021 42....+00007142" 30 (dot 21 ∷ [])
    ∷ line_mends "410003+00000022 42...+00592000" "410003+00000022 42....+00592000" 30 (dot 21 ∷ [])
    ∷ line_mends "410004+00000001 42...+00000001 43...+00005.27 44...+00005.44 45...+00000002"
    "410004+00000001 42....+00000001 43....+00005.27 44....+00005.44 45....+00000002" 75 (dot 21 ∷ dot 36 ∷ dot 51 ∷ dot 66 ∷ [])
    ∷ line_mends "410005+00000003 42...+00000004 43...+00000001" "410005+00000003 42....+00000004 43....+00000001" 45 (dot 21 ∷ dot 36 ∷ [])
    ∷ line_mends "110006+00000002 21.324+35959570 22.324+08950310 31..01+00452914 51..1.+0000+000"
    "110006+00000002 21.324+35959570 22.324+08950310 31..01+00452914 51..1.+0000+000" 79 []
    ∷ line_mends "410007+00000005 42...+00000234" "410007+00000005 42....+00000234" 30 (dot 21 ∷ [])
    ∷ line_mends "410008+00000002 42...+00005.56" "410008+00000002 42....+00005.56" 30 (dot 21 ∷ [])
    ∷ line_mends "110009+00000003 21.324+09952470 22.324+08959170 31..01+00265964 51..1.+0009+000"
    "110009+00000003 21.324+09952470 22.324+08959170 31..01+00265964 51..1.+0009+000" 79 []
    ∷ line_mends "110010+00000003 21.324+27952480 22.324+27000420 31..01+00452917 51..1.+0009+000"
    "110010+00000003 21.324+27952480 22.324+27000420 31..01+00452917 51..1.+0009+000" 79 []
    ∷ line_mends "110012+00000002 21.324+35959570 22.324+08950260 31..01+00452917 51..1.+0009+000"
    "110012+00000002 21.324+35959570 22.324+08950260 31..01+00452917 51..1.+0009+000" 79 []
    ∷ line_mends "110013+00000003 21.324+09952480 22.324+08959160 31..01+00265964 51..1.+0009+000"
    "110013+00000003 21.324+09952480 22.324+08959160 31..01+00265964 51..1.+0009+000" 79 []
    ∷ line_mends "110014+00000003 21.324+27952530 22.324+27000430 31..01+00265965 51..1.+0009+000"
    "110014+00000003 21.324+27952530 22.324+27000430 31..01+00265965 51..1.+0009+000" 79 []
    ∷ line_mends "110015+00000002 21.324+17959590 22.324+27009210 31..01+00452918 51..1.+0009+000"
    "110015+00000002 21.324+17959590 22.324+27009210 31..01+00452918 51..1.+0009+000" 79 []
    ∷ []

abbrev pub station_printed : List Printed
station_printed =
    -- nothing is lacking, and what follows the terminator isn't copied
    mends "110014+00000003 \r\n" "110014+00000003 \r\n" []
    ∷ mends "110014+00000003 \r110015+00000002 \r" "110014+00000003 \r" []
    -- its last blank alone; LF alone; both
    ∷ mends "110014+00000003\r\n" "110014+00000003 \r\n" (blank 15 ∷ [])
    ∷ mends "110014+00000003 \n" "110014+00000003 \r\n" (return 16 ∷ [])
    ∷ mends "110014+00000003\n\n" "110014+00000003 \r\n" (blank 15 ∷ return 15 ∷ [])
    -- a dot and the blank
    ∷ mends "42...+00007142\r" "42....+00007142 \r" (dot 5 ∷ blank 14 ∷ [])
    -- wide words
    ∷ mends "*11....+000000000PNC0058\r" "*11....+000000000PNC0058 \r" (blank 24 ∷ [])
    ∷ mends "*42...+000000000PNC0058 49...+000000000PNC0058\n" "*42....+000000000PNC0058 49....+000000000PNC0058 \r\n"
    (dot 6 ∷ dot 29 ∷ blank 46 ∷ return 46 ∷ [])
    -- what isn't one of the three: a blank in the middle, three dots in 41 or in 52, no end at all, a wrong digit
    ∷ refuses "110014+0000000321.324+27952530 \r\n" 9 15
    ∷ refuses "41...+00000020 \r\n" 6 5
    ∷ refuses "52...+00000020 \r\n" 6 5
    ∷ refuses "110014+00000003 " 2 16
    ∷ refuses "42...+00007142 83..10+000A5320\n" 8 26
    ∷ refuses "\n" 3 0
    ∷ refuses "" 1 0
    -- the room, and then the list, is a place too short
    ∷ refused (codes "42...+00007142\n") 17 2 14 18
    ∷ refused (codes "42...+00007142\n") 18 2 11 3
    ∷ []

-- three lines of 003's second listing, its title and its last line
abbrev pub level_printed : List Printed
level_printed =
    refuses "WILD GIF-10\n" 2 0
    ∷ line_mends "410004+?......1" "410004+?......1" 15 []
    ∷ line_mends "110006+00003000 32..00+00016380 331106+00010198" "110006+00003000 32..00+00016380 331106+00010198" 47 []
    ∷ line_mends "110008+00004000 573..0-00000880 574..0+00033650 83..06+00190451" "110008+00004000 573..0-00000880 574..0+00033650 83..06+00190451" 63 []
    ∷ mends "42...+00007142\n" "42....+00007142 \r\n" (dot 5 ∷ blank 14 ∷ return 14 ∷ [])
    ∷ refuses "! ----+\n" 2 0
    ∷ []
