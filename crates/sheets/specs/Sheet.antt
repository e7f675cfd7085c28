-- The state sheet: "key=value lines ended by LF: `series=TPS100`, then `s` and each setting in the order above, then `v` and each index".
use Rattle.std.specs.Prelude.{ℕ, zero, suc, ◌+◌, ◌-◌, ◌*◌, cond, List, [], ◌∷◌, ◌++◌, length, take, drop}
use Rattle.figures.specs.Text.{codes}
use Rattle.figures.specs.Bytes.{starts_with}
use Rattle.figures.specs.Decimal.{is_digit, decimal_of}
use Rattle.instrument.specs.Rows.{key_of}
use Rattle.instrument.specs.Settings.{setting_number, row_at, in_range, held}
use Rattle.instrument.specs.Values.{index_number, stored_at, get_word, put_kept, kept_right}
use Rattle.instrument.specs.declared.settings.Series.{Series}
use Rattle.instrument.specs.declared.settings.Series.TheVariants.{Tps100, Tps300}
use Rattle.instrument.specs.declared.settings.Row.{Row}
use Rattle.instrument.specs.Values.{Kept}
use Rattle.state.specs.declared.entries.State.{State}
use Rattle.sheets.specs.Lines.{LinesOf, lines_by}
use Rattle.std.specs.Prelude.{Some, None}

-- "The sheet begins `series=TPS300`" (request 103)
abbrev pub series_line : Series → List ℕ
series_line Tps100 = codes "series=TPS100\n"
series_line Tps300 = codes "series=TPS300\n"

abbrev pub setting_key : Row → List ℕ
setting_key r = key_of "s" (setting_number r)

-- the parameter in its fewest digits
abbrev pub row_line : Row → ℕ → List ℕ
row_line r p = setting_key r ++ (decimal_of p ++ codes "\n")

-- n, and then the digits that stand at the start, k of them at most
unfoldable pub said_by : ℕ → ℕ → List ℕ → ℕ
said_by zero n t = n
said_by (suc k) n [] = n
said_by (suc k) n (b ∷ t) = cond (is_digit b) (said_by k (n * 10 + (b - 48)) t) n

-- no parameter has more than three digits
abbrev pub parameter_in : Row → List ℕ → ℕ
parameter_in r rest = said_by 3 0 (drop (length (setting_key r)) rest)

-- "`s` and each setting in the order above": the rules for the line of a setting of the series
abbrev pub setting_lines : Series → LinesOf ℕ
setting_lines k = record {
  write = λ i p. row_line (row_at k i) p;
  may = λ before i p. in_range (row_at k i) p;
  says = λ i rest. parameter_in (row_at k i) rest;
}

-- "the 15 characters GET/I gives, or nothing when never put"
abbrev pub characters_n : ℕ
characters_n = 15

abbrev pub characters_of : ℕ → Kept → List ℕ
characters_of place None = []
characters_of place (Some p) = take characters_n (get_word place (Some p))

abbrev pub value_key : ℕ → List ℕ
value_key place = key_of "v" (index_number (stored_at place))

abbrev pub kept_line : ℕ → Kept → List ℕ
kept_line place k = value_key place ++ (characters_of place k ++ codes "\n")

-- nothing where it was never put, otherwise the characters after its key
abbrev pub kept_said : ℕ → List ℕ → Kept
kept_said place rest = cond (starts_with (kept_line place None) rest) None (put_kept (drop (length (value_key place)) rest))

-- "then `v` and each index": the rules for the line of a value
abbrev pub value_lines : LinesOf Kept
value_lines = record {
  write = λ i v. kept_line i v;
  may = λ before i v. kept_right i v;
  says = λ i rest. kept_said i rest;
}

unfoldable pub sheet_of : State → List ℕ
sheet_of s = series_line s.series ++ (lines_by (setting_lines s.series) 0 (held s.series s.settings) ++ lines_by value_lines 0 s.values)
