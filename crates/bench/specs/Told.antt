-- The bench readings of request 104: the byte that each refusal tells, in blocks of both families and both widths, and what 22, 39 and 26 are of a line.
use Rattle.std.specs.Prelude.{ℕ, List, [], ◌∷◌}
use Prim.Native.String.{String}
use Rattle.figures.specs.Text.{codes}
use Rattle.bench.specs.Readings.{Trial, refused, tells, word}

-- a word alone, its number and the byte
abbrev pub at : String → ℕ → ℕ → Trial
at w number byte = refused (word w) number byte

-- a total station's
abbrev pub station_told : List Trial
station_told =
    at "A1....+00000001 " 5 0
    ∷ at "1A....+00000001 " 5 1
    ∷ at "14....+00000001 " 15 0
    ∷ at "11x...+00000001 " 6 2
    ∷ at "11.014+00000001 " 6 3  -- a dot first: four dots
    ∷ at "110.14+00000001 " 6 3  -- a digit first: four digits
    ∷ at "21.2x2+00000001 " 6 3
    ∷ at "21.1x2+00000001 " 6 4
    ∷ at "83..12+00000001 " 6 5
    ∷ at "83..10 00000001 " 7 6
    ∷ at "83..10+000A5320 " 8 10
    ∷ at "51..1.+00A9+000 " 8 9
    ∷ at "51..1.+0009A000 " 8 11
    ∷ at "51..1.+0009+0A0 " 8 13
    ∷ at "83..10+00045320," 9 15
    ∷ at "21.102+9A000000," 8 8  -- before the separator, and before the range
    ∷ at "21.102+40000000 " 10 7
    -- in the fourth word of a block; and in wide words, where the place counts the `*`
    ∷ refused (codes "110002+00000102 81..10+01251340 82..10+01907815 83..10+000A5320 \r\n") 8 58
    ∷ at "*11....+0000000000000001 83..10+00000000000A5320 " 8 43
    ∷ at "*83..10+0000000000045320," 9 24
    ∷ []

-- a level's
abbrev pub level_told : List Trial
level_told =
    at "3A1106+00010198 " 5 1
    ∷ at "337106+00010198 " 15 0
    ∷ at "33x106+00010198 " 15 0
    ∷ at "32x.00+00010198 " 6 2
    ∷ at "331006+00010198 " 6 3
    ∷ at "331.06+0001019A " 8 14
    ∷ at "331106x00010198 " 7 6
    ∷ at "*331106+00000000000A0198 " 8 19
    ∷ []

-- a line to a fresh stand-in: its number, and of 26 which rule and the byte
abbrev pub lines_told : List Trial
lines_told =
    tells (word "") 22 0 0
    ∷ tells (word "set/30/1") 22 0 0
    ∷ tells (word "UND") 22 0 0
    ∷ tells (word "UNDO1") 39 0 0
    ∷ tells (word "SETTLE") 39 0 0
    ∷ tells (word "SET/30/01") 39 0 0
    ∷ tells (word "GET/M/WI11") 39 0 0
    ∷ tells (word "PUT/83...0+00000001") 39 0 0
    ∷ tells (word "PUT/82...0+00000001 ") 25 0 0
    ∷ tells (word "PUT/83..10+00000001 ") 26 6 8
    ∷ tells (word "PUT/83...2+00000001 ") 26 6 9
    ∷ tells (word "PUT/83...0 00000001 ") 26 7 10
    ∷ tells (word "PUT/83...0+000A5320 ") 26 8 14
    ∷ tells (word "PUT/83...0+00000001,") 26 9 19
    ∷ tells (word "PUT/21...2+40000000 ") 26 10 11
    ∷ []
