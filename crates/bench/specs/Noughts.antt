-- The bench readings of minus nought (request 102): "Accept minus before zero in angles, lengths, constants and both halves of a pair, in blocks, PUT
-- words and sheets, and keep the sign so that the bytes come back."
use Rattle.std.specs.Prelude.{ℕ, ◌+◌, ◌-◌, ◌≡◌, Bool, false, List, [], ◌∷◌, ◌++◌, replicate}
use Prim.Native.String.{String}
use Rattle.figures.specs.Text.{codes, star_bytes}
use Rattle.units.specs.Counts.{whole, metres, feet, zero_whole}
use Rattle.units.specs.declared.counts.Whole.{Whole}
use Rattle.units.specs.declared.counts.Count.{Count}
use Rattle.units.specs.declared.counts.Count.TheVariants.{Gon, Degree, Tenth, Mil, Inch, Ppm, Pair}
use Rattle.words.specs.Records.{width}
use Rattle.words.specs.Reading.{word_size}
use Rattle.blocks.specs.Judging.{first_at}
use Rattle.blocks.specs.Judging.{Answer}
use Rattle.instrument.specs.Settings as own
use Rattle.instrument.specs.declared.settings.Series.TheVariants.{Tps100}
use Rattle.sheets.specs.Sheet.{sheet_of}
use Rattle.sheets.specs.Loading.{right, loading_of}
use Rattle.bench.specs.Readings.{Trial, returned, refused, word, read, one, count_word, minus_mm, sent, replies}

abbrev pub minus_nought : Whole
minus_nought = whole 1 0

-- the block of one word of the width
abbrev pub alone : Bool → Answer
alone wide = read wide false 1 (first_at wide + word_size wide + 1)

abbrev pub noughts : ℕ → List ℕ
noughts n = replicate n 48

-- a minus and noughts after index and information, in a word of the width: its count, and the same bytes back
abbrev pub gives : Bool → String → String → Count → Trial
gives wide index info c =
    returned (star_bytes wide ++ (codes index ++ (codes info ++ (codes "-" ++ (noughts (width wide) ++ word " "))))) (alone wide) (count_word index info c ∷ [])

-- the two signs of a pair of noughts
abbrev pub pair_gives : Bool → String → String → Count → Trial
pair_gives wide ppm mm c =
    returned (star_bytes wide ++ (codes "51..1." ++ (codes ppm ++ (noughts (width wide - 4) ++ (codes mm ++ word "000 "))))) (alone wide)
    (count_word "51" "..1." c ∷ [])

-- a total station's: each unit, the constants, either half of a pair
abbrev pub station_noughts : Bool → List Trial
station_noughts wide =
    gives wide "21" ".102" (Gon (record { 0 = minus_nought }))
    ∷ gives wide "21" ".103" (Degree (record { 0 = minus_nought }))
    ∷ gives wide "21" ".104" (Tenth (record { 0 = minus_nought }))
    ∷ gives wide "21" ".105" (Mil (record { 0 = minus_nought }))
    ∷ gives wide "31" "..00" (minus_mm 0)
    ∷ gives wide "31" "..01" (feet 3 minus_nought)
    ∷ gives wide "31" "..06" (metres 4 minus_nought)
    ∷ gives wide "31" "..07" (feet 4 minus_nought)
    ∷ gives wide "31" "..08" (metres 5 minus_nought)
    ∷ gives wide "58" "..16" (metres 4 minus_nought)
    ∷ gives wide "59" "..16" (Ppm (record { 0 = minus_nought }))
    ∷ pair_gives wide "-" "+" (Pair minus_nought zero_whole)
    ∷ pair_gives wide "+" "-" (Pair zero_whole minus_nought)
    ∷ pair_gives wide "-" "-" (Pair minus_nought minus_nought)
    ∷ []

-- a level's: each unit after three digits, and after two
abbrev pub level_noughts : Bool → List Trial
level_noughts wide =
    gives wide "573" "..0" (minus_mm 0)
    ∷ gives wide "573" "..1" (feet 3 minus_nought)
    ∷ gives wide "573" "..6" (metres 4 minus_nought)
    ∷ gives wide "573" "..7" (feet 4 minus_nought)
    ∷ gives wide "573" "..8" (metres 5 minus_nought)
    ∷ gives wide "573" "..9" (Inch (record { 0 = minus_nought }))
    ∷ gives wide "83" "..16" (metres 4 minus_nought)
    ∷ []

-- a minus before mm of nought alone; and what is refused as before, an angle out of its range and text with a minus
abbrev pub beside : List Trial
beside =
    returned (word "51..1.+0009-000 ") (one 17) (count_word "51" "..1." (Pair (whole 0 9) minus_nought) ∷ [])
    ∷ refused (word "21.102-40000000 ") 10 7
    ∷ refused (word "21.104-00000600 ") 10 7
    ∷ refused (word "11....-00000000 ") 7 6
    ∷ []

abbrev pub put : String
put = "PUT/83...0-00000000 "

-- the sheet once it is put
abbrev pub sheet : List ℕ
sheet =
    codes "series=TPS100\ns30=0\ns32=0\ns34=0\ns40=0\ns41=0\ns44=0\ns49=0\ns50=0\ns70=5\ns71=0\ns73=1\ns76=0\ns80=0\ns81=0\n"
    ++ codes "s95=0\ns102=0\ns103=1\ns135=0\ns136=0\nv11=\nv16=\nv21=\nv24=\nv34=\nv83=83..10-00000000\nv84=\nv85=\nv86=\nv87=\nv88=\n"

-- "26 and 40 follow": a PUT stores it, GET/I gives it back with its minus, UNDO restores what stood before, the sheet holds it and loads it
pub record StoredNoughts : Type 0 where
  pub done : replies [] put ≡ codes "?\r\n"
  pub got : replies (put ∷ []) "GET/I/WI83" ≡ codes "83..10-00000000 \r\n"
  pub undone : replies ("PUT/83...0+00000000 " ∷ put ∷ "UNDO" ∷ []) "GET/I/WI83" ≡ codes "83..10+00000000 \r\n"
  pub undone_first : replies (put ∷ "UNDO" ∷ []) "GET/I/WI83" ≡ codes "@W127\r\n"
  pub held : sheet_of (sent (put ∷ [])) ≡ sheet
  pub loads : loading_of Tps100 sheet ≡ right (own.held Tps100 (sent (put ∷ [])).settings) (sent (put ∷ [])).values []
