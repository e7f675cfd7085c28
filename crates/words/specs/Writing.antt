-- The bytes of a record: the same positions, the other way.
use Rattle.std.specs.Prelude.{ℕ, ◌-◌, Bool, List, ◌∷◌, ◌++◌, take}
use Rattle.figures.specs.Text.{codes}
use Rattle.figures.specs.Decimal.{digits_of}
use Rattle.units.specs.Information.{head_of, sign_byte}
use Rattle.units.specs.Counts.{figures_of}
use Rattle.words.specs.Records.{width, count_of}
use Rattle.units.specs.declared.kinds.Family.{Family}
use Rattle.units.specs.declared.counts.Figures.{Figures}
use Rattle.units.specs.declared.counts.Figures.TheVariants.{Text, Number, Pair}
use Rattle.words.specs.declared.records.Word.{Word}

-- k characters of data
abbrev pub data_of : ℕ → Figures → List ℕ → List ℕ
data_of k Text t = take k t
data_of k (Number n) t = digits_of k n
data_of k (Pair p s q) t = digits_of (k - 4) p ++ (sign_byte s ∷ digits_of 3 q)

-- the word's bytes, its blank included
abbrev pub bytes_of : Family → Bool → Word → List ℕ
bytes_of f wide w =
    head_of w.index w.info ++ (sign_byte w.minus ∷ (data_of (width wide) (figures_of (count_of f w)) w.text ++ codes " "))
