-- The settings of each series. "Settings (000, SET list of TPS100; all equipment fitted), those up to 136 only, as number:highest parameter, lowest 0
-- each"; of TPS300 (request 103) "000's CONF list from 41 to 171, with its ranges".
use Rattle.std.specs.Prelude.{ℕ, zero, suc, ◌+◌, ◌-◌, Bool, true, false, not, ◌&&◌, Option, Some, None, List, [], ◌∷◌, ◌++◌, map, eqb, leb, length, get_or, take, replicate}
use Rattle.std.specs.List.{list_any}
use Rattle.figures.specs.Bytes.{laid}
use Rattle.instrument.specs.Rows.{seek, key_bytes}
use Rattle.instrument.specs.declared.settings.Series.{Series}
use Rattle.instrument.specs.declared.settings.Series.TheVariants.{Tps100, Tps300}
use Rattle.instrument.specs.declared.settings.Row.{Row}

-- up to four parameters that are left out between the lowest and the highest; 255 leaves none out
abbrev pub gaps_of : List ℕ → List ℕ
gaps_of l = get_or l 0 255 ∷ get_or l 1 255 ∷ get_or l 2 255 ∷ get_or l 3 255 ∷ []

abbrev pub no_gaps : List ℕ
no_gaps = gaps_of []

-- number, its key on a sheet, lowest and highest parameter, gaps, whether it can only be asked for, and the factory's
abbrev pub row_of : ℕ → ℕ → ℕ → List ℕ → Bool → ℕ → Row
row_of number lowest highest g asked factory =
    record { number = number; key = key_bytes "s" number; lowest = lowest; highest = highest; gaps = g; asked = asked; factory = factory }

abbrev pub row : ℕ → ℕ → ℕ → ℕ → Row
row number lowest highest factory = row_of number lowest highest no_gaps false factory

-- "Factory values are each setting's lowest."
abbrev pub low : ℕ → ℕ → ℕ → Row
low number lowest highest = row number lowest highest lowest

-- "90, 91 (0 to 100 here), 122, 160 and 170 can't be SET"
abbrev pub asked : ℕ → ℕ → ℕ → Row
asked number lowest highest = row_of number lowest highest no_gaps true lowest

-- so many numbers from n on
abbrev pub numbers : ℕ → ℕ → List ℕ
numbers n zero = []
numbers n (suc k) = n ∷ numbers (n + 1) k

-- the numbers from n on that a list in order leaves out
abbrev pub left_out : ℕ → List ℕ → List ℕ
left_out n [] = []
left_out n (p ∷ ps) = numbers n (p - n) ++ left_out (p + 1) ps

-- a setting that has those parameters and no others, in order; `only_those`, in proofs/Ranges.antt, shows it of 161
abbrev pub only : ℕ → List ℕ → Row
only number parameters =
    let lowest = get_or parameters 0 0 in
    row_of number lowest (get_or parameters (length parameters - 1) 0) (gaps_of (left_out lowest parameters)) false lowest

abbrev pub setting_number : Row → ℕ
setting_number r = r.number

abbrev pub is_gap : List ℕ → ℕ → Bool
is_gap g p = list_any (λ x. eqb x p) g

abbrev pub in_range : Row → ℕ → Bool
in_range r p = leb r.lowest p && (leb p r.highest && not (is_gap r.gaps p))

abbrev pub is_asked : Row → Bool
is_asked r = r.asked

abbrev pub factory_of : Row → ℕ
factory_of r = r.factory

-- "Factory: 70 is 5, 73 is 1, 103 is 1, the rest 0."
unfoldable pub rows100 : List Row
rows100 =
    row 30 0 1 0
    ∷ row 32 0 3 0
    ∷ row 34 0 1 0
    ∷ row 40 0 2 0
    ∷ row 41 0 1 0
    ∷ row 44 0 2 0
    ∷ row 49 0 1 0
    ∷ row 50 0 2 0
    ∷ row 70 0 5 5
    ∷ row 71 0 2 0
    ∷ row 73 0 1 1
    ∷ row 76 0 1 0
    ∷ row 80 0 1 0
    ∷ row 81 0 2 0
    ∷ row 95 0 1 0
    ∷ row 102 0 1 0
    ∷ row 103 0 1 1
    ∷ row 135 0 1 0
    ∷ row 136 0 1 0
    ∷ []

-- "161 only 0, 1, 5, 6, 7, 9 or 10"
abbrev pub modes161 : List ℕ
modes161 = 0 ∷ 1 ∷ 5 ∷ 6 ∷ 7 ∷ 9 ∷ 10 ∷ []

-- "55 and 56 from 1 to 10, 78 from 0 to 50, 104 and 105 from 0 to 100, and 161 only 0, 1, 5, 6, 7, 9 or 10. Leave out 138, given twice."
unfoldable pub rows300 : List Row
rows300 =
    low 41 0 4
    ∷ low 42 0 1
    ∷ low 43 0 6
    ∷ low 50 0 4
    ∷ low 51 0 4
    ∷ low 55 1 10
    ∷ low 56 1 10
    ∷ low 70 0 6
    ∷ low 71 0 2
    ∷ low 73 0 1
    ∷ low 75 0 1
    ∷ low 76 0 1
    ∷ low 78 0 50
    ∷ asked 90 0 10
    ∷ asked 91 0 100
    ∷ low 95 0 1
    ∷ low 102 0 1
    ∷ low 103 0 1
    ∷ low 104 0 100
    ∷ low 105 0 100
    ∷ low 106 0 1
    ∷ low 120 0 1
    ∷ asked 122 0 1
    ∷ low 135 0 8
    ∷ low 136 0 127
    ∷ low 137 0 1
    ∷ asked 160 0 1
    ∷ only 161 modes161
    ∷ asked 170 0 1
    ∷ low 171 0 1
    ∷ []

-- A third series takes its case of `Series`; its table, here and in a file of src/, with `settings_most` if it has more than any; its byte in an
-- image (`form_of`, `series_in`); its line on a sheet (`series_line`); and an arm wherever the code names the series. Lookup, range, key and factory go by
-- the rows, whichever series they are of.
abbrev pub rows_of : Series → List Row
rows_of Tps100 = rows100
rows_of Tps300 = rows300

-- how many settings a series has
abbrev pub settings_n : Series → ℕ
settings_n k = length (rows_of k)

-- the most that a series has
abbrev pub settings_most : ℕ
settings_most = 30

-- past the last
abbrev pub no_row : Row
no_row = row 0 0 0 0

abbrev pub row_at : Series → ℕ → Row
row_at k i = get_or (rows_of k) i no_row

-- the place of the setting of that number
abbrev pub setting_place : Series → ℕ → Option ℕ
setting_place k n = seek setting_number (rows_of k) 0 n

abbrev pub parameter_at : List ℕ → Option ℕ → ℕ
parameter_at settings None = 0
parameter_at settings (Some i) = get_or settings i 0

-- the parameter of the setting of that number; 0 where the series has none
abbrev pub parameter_of : Series → List ℕ → ℕ → ℕ
parameter_of k settings n = parameter_at settings (setting_place k n)

-- A state holds parameters from the start of as many places as a series has at most: the series' own, and noughts past them.
abbrev pub held : Series → List ℕ → List ℕ
held k settings = take (settings_n k) settings

abbrev pub padded : List ℕ → List ℕ
padded ps = laid ps (replicate settings_most 0)

abbrev pub held_rows : Series → List Row
held_rows k = rows_of k ++ replicate (settings_most - settings_n k) no_row

abbrev pub factory_settings : Series → List ℕ
factory_settings k = map factory_of (held_rows k)

-- one parameter for each row, and each in its range
unfoldable pub in_ranges : List Row → List ℕ → Bool
in_ranges [] [] = true
in_ranges [] (p ∷ ps) = false
in_ranges (r ∷ rs) [] = false
in_ranges (r ∷ rs) (p ∷ ps) = in_range r p && in_ranges rs ps
