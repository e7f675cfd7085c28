-- How the code keeps what the other files define: the answers of the checks on data and separator.
use Rattle.std.specs.Prelude.{ℕ, ◌+◌, Bool, cond, ◌&&◌, List, [], ◌∷◌, eqb, leb, length, get_or, Option, Some, None}
use Rattle.figures.specs.Text.{byte}
use Rattle.figures.specs.Bytes.{every}
use Rattle.figures.specs.Decimal.{is_digit, number_of}
use Rattle.units.specs.Information.{info_marks, all_right, first_wrong, lead_of, sign_of, sign_right}
use Rattle.units.specs.Counts.{value_at}
use Rattle.words.specs.Records.{width, record_of, is_graphic}
use Rattle.units.specs.declared.kinds.Family.{Family}
use Rattle.units.specs.declared.kinds.Kind.{Kind}
use Rattle.units.specs.declared.kinds.Kind.TheVariants as kind
use Rattle.units.specs.declared.counts.Figures.{Figures}
use Rattle.units.specs.declared.counts.Figures.TheVariants as figures
use Rattle.words.specs.declared.reading.Fault.TheVariants.{Information, Sign, Characters, Separator, Value}
use Rattle.words.specs.Reading.{OneWord, pos, data_in, data_right, data_at, figures_in, text_field, is_counted, count_or, right_word, unless}

-- the answers of the checks on data and separator
abbrev pub digits_at : List ℕ → Option Figures
digits_at d = cond (leb (length d) 16 && every is_digit d) (Some (figures.Number (number_of d))) None

abbrev pub pair_at : List ℕ → Option Figures
pair_at d =
    cond (leb 4 (length d) && leb (length d) 20 && data_right kind.Pair d) (Some (figures_in kind.Pair d)) None

-- `spelled_by`, in proofs/Checks.antt, shows that this is `data_right` of a word's data
abbrev pub spelled_at : Kind → List ℕ → Option Figures
spelled_at kind.Missing d = None
spelled_at kind.Numbered d = cond (every is_graphic d) (Some figures.Text) None
spelled_at kind.Text d = cond (every is_graphic d) (Some figures.Text) None
spelled_at kind.Angle d = digits_at d
spelled_at kind.Length d = digits_at d
spelled_at kind.Constant d = digits_at d
spelled_at kind.Pair d = pair_at d

abbrev pub parted_at : ℕ → Bool
parted_at b = eqb b (byte " ")

-- what is left of `word_of` where positions 1-7 are right, by what they say: index, kind, information, unit, sign; then data and separator. `listed_word`,
-- below, goes on with it
abbrev pub data_word : ℕ → Kind → List ℕ → ℕ → ℕ → List ℕ → ℕ → OneWord
data_word i k info u m d b =
    let value = value_at k i u m (figures_in k d) in
    unless (data_right k d) Characters (7 + data_at k d)
    (unless (eqb b (byte " ")) Separator (7 + length d)
    (unless (is_counted value) Value 7
    (right_word (record_of i info (count_or value) (text_field k d)))))

-- what is left of `word_of` where positions 1-3 are an index of that kind: `listed_by`, in proofs/Checks.antt
abbrev pub listed_word : Family → Bool → ℕ → Kind → List ℕ → OneWord
listed_word f wide i k s =
    let lead = lead_of i (pos 3 s) in
    let m = info_marks f i k lead (pos 4 s) (pos 5 s) (pos 6 s) in
    unless (all_right m) Information (2 + first_wrong m)
    (unless (sign_right k (pos 7 s)) Sign 6
    (data_word i k (lead ∷ pos 4 s ∷ pos 5 s ∷ pos 6 s ∷ []) (pos 6 s) (sign_of (pos 7 s)) (data_in wide s) (get_or s (7 + width wide) 0)))
