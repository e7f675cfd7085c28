-- The bench readings of digital levels (request 101): what a level's blocks give.
use Rattle.std.specs.Prelude.{ℕ, ◌+◌, true, false, List, [], ◌∷◌, ◌++◌, map, length, take, drop}
use Prim.Native.String.{String}
use Rattle.figures.specs.Text.{codes}
use Rattle.units.specs.Counts.{whole, metres, feet}
use Rattle.units.specs.declared.counts.Count.{Count}
use Rattle.units.specs.declared.counts.Count.TheVariants.{Text, Inch}
use Rattle.bench.specs.Readings.{Trial, Given, accepted, refused, read, one, word, given_word, text_word, count_word, mm, minus_mm}

-- 1/10 mm, the last of so many decimals of a foot, and 1/2000 inch
abbrev pub tenth_mm : ℕ → Count
tenth_mm n = metres 4 (whole 0 n)

abbrev pub foot : ℕ → ℕ → Count
foot d n = feet d (whole 0 n)

abbrev pub inch : ℕ → Count
inch n = Inch (record { 0 = whole 0 n })

-- a block that ends in CR LF, and what its words give
abbrev pub block : String → List Given → Trial
block s words = accepted (codes s ++ codes "\r\n") (read false true (length words) (length (codes s) + 2)) words

-- 003's listing, block by block
abbrev pub listing : List Trial
listing =
    block "410001+00000020 42....+10842V02 " (text_word "41" "0001" "00000020" ∷ text_word "42" "...." "10842V02" ∷ [])
    ∷ block "410002+00000021 42....+00007330 " (text_word "41" "0002" "00000021" ∷ text_word "42" "...." "00007330" ∷ [])
    ∷ block "410003+00000022 42....+00261001 " (text_word "41" "0003" "00000022" ∷ text_word "42" "...." "00261001" ∷ [])
    ∷ block "410004+?......1 " (text_word "41" "0004" "?......1" ∷ [])
    ∷ block "110005+00003000 83..16+00187430 " (text_word "11" "0005" "00003000" ∷ count_word "83" "..16" (tenth_mm 187430) ∷ [])
    ∷ block "110006+00003000 32..00+00016380 331106+00010198 "
    (text_word "11" "0006" "00003000" ∷ count_word "32" "..00" (mm 16380) ∷ count_word "331" "106" (tenth_mm 10198) ∷ [])
    ∷ block "110007+00004000 32..00+00017260 332106+00007177 "
    (text_word "11" "0007" "00004000" ∷ count_word "32" "..00" (mm 17260) ∷ count_word "332" "106" (tenth_mm 7177) ∷ [])
    ∷ block "110008+00004000 573..0-00000880 574..0+00033650 83..06+00190451 "
    (text_word "11" "0008" "00004000" ∷ count_word "573" "..0" (minus_mm 880) ∷ count_word "574" "..0" (mm 33650) ∷ count_word "83" "..06" (tenth_mm 190451) ∷ [])
    ∷ block "110009+00004000 32..00+00019390 331106+00007600 "
    (text_word "11" "0009" "00004000" ∷ count_word "32" "..00" (mm 19390) ∷ count_word "331" "106" (tenth_mm 7600) ∷ [])
    ∷ block "110013+00004001 32..00+00019490 332106+00006824 "
    (text_word "11" "0013" "00004001" ∷ count_word "32" "..00" (mm 19490) ∷ count_word "332" "106" (tenth_mm 6824) ∷ [])
    ∷ block "110014+00004001 573..0-00000850 574..0+00116940 83..06+00190458 "
    (text_word "11" "0014" "00004001" ∷ count_word "573" "..0" (minus_mm 850) ∷ count_word "574" "..0" (mm 116940) ∷ count_word "83" "..06" (tenth_mm 190458) ∷ [])
    ∷ block "110015+00004001 32..00+00018220 331106+00006660 "
    (text_word "11" "0015" "00004001" ∷ count_word "32" "..00" (mm 18220) ∷ count_word "331" "106" (tenth_mm 6660) ∷ [])
    ∷ block "110016+00003000 32..00+00015370 332106+00009686 "
    (text_word "11" "0016" "00003000" ∷ count_word "32" "..00" (mm 15370) ∷ count_word "332" "106" (tenth_mm 9686) ∷ [])
    ∷ block "110017+00003000 573..0+00002000 574..0+00150530 83..06+00187432 "
    (text_word "11" "0017" "00003000" ∷ count_word "573" "..0" (mm 2000) ∷ count_word "574" "..0" (mm 150530) ∷ count_word "83" "..06" (tenth_mm 187432) ∷ [])
    ∷ []

-- a word alone, and what it gives
abbrev pub word_gives : String → Given → Trial
word_gives w g = accepted (word w) (one 17) (g ∷ [])

-- positions 1-6 before `+00000001 `, so many of them the index: each gives this text and count, or each is refused, by a number and at a place
abbrev pub each_gives : ℕ → String → Count → List String → List Trial
each_gives digits t c heads =
    map (λ h. accepted (codes h ++ word "+00000001 ") (one 17) (given_word (take digits (codes h)) (drop digits (codes h)) (codes t) c ∷ [])) heads

abbrev pub each_refuses : ℕ → ℕ → List String → List Trial
each_refuses number place heads = map (λ h. refused (codes h ++ word "+00000001 ") number place) heads

abbrev pub levels : List Trial
levels =
    (word_gives "331106+00010198 " (count_word "331" "106" (tenth_mm 10198))
    ∷ word_gives "573..0-00000880 " (count_word "573" "..0" (minus_mm 880))
    ∷ word_gives "83..16+00187430 " (count_word "83" "..16" (tenth_mm 187430))
    ∷ [])
    -- the indexes at their edges
    ++ (each_gives 3 "" (mm 1) ("330..0" ∷ "336..0" ∷ "374..0" ∷ "571..0" ∷ "574..0" ∷ [])
    ++ (each_gives 3 "00000001" Text ("521..." ∷ "521159" ∷ [])
    ++ (each_gives 2 "00000001" Text ("52...." ∷ "57.159" ∷ "42...." ∷ "49.123" ∷ [])
    ++ (each_refuses 15 0 ("329..0" ∷ "337..0" ∷ "373..0" ∷ "375..0" ∷ "520..0" ∷ "522..0" ∷ "570..0" ∷ "575..0" ∷ [])
    ++ (each_refuses 15 0 ("420..." ∷ "32100." ∷ "032..0" ∷ "33.106" ∷ "21.102" ∷ [])
    ++ (each_refuses 5 1 ("3x1106" ∷ [])
    -- positions 3-6, unit by unit
    ++ (each_refuses 6 2 ("32x.00" ∷ [])
    ++ (each_refuses 6 3 ("110.01" ∷ "11.001" ∷ "331006" ∷ "521x.." ∷ [])
    ++ (each_refuses 6 4 ("331136" ∷ "331186" ∷ "83..3." ∷ [])
    ++ (each_refuses 6 5 ("331102" ∷ "331105" ∷ "33110." ∷ [])
    ++ (each_gives 3 "" (mm 1) ("331100" ∷ [])
    ++ (each_gives 3 "" (foot 3 1) ("331111" ∷ [])
    ++ (each_gives 3 "" (tenth_mm 1) ("331126" ∷ [])
    ++ (each_gives 3 "" (foot 4 1) ("331147" ∷ [])
    ++ (each_gives 3 "" (metres 5 (whole 0 1)) ("331178" ∷ [])
    ++ (each_gives 3 "" (inch 1) ("331.59" ∷ [])
    -- "6 and 10 by the level's rules": a level has no angle, and so no 10
    ++ (word_gives "331106-99999999 " (count_word "331" "106" (metres 4 (whole 1 99999999)))
    ∷ refused (word "521...-00000001 ") 7 6
    ∷ refused (word "331106+0001019a ") 8 14
    ∷ accepted (word "*331106+0000000000010198 ") (read true false 1 26) (count_word "331" "106" (tenth_mm 10198) ∷ [])
    ∷ [])))))))))))))))))
