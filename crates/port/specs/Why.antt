-- What is said of a refused line where the stand-in is asked why: its number, and what "26 also tells" (request 104). `line=4 refused=26 which=8 byte=14`
-- and LF, the line as it is shown, and under it a caret at the byte; which, byte and caret stand where 26 tells them.
use Rattle.std.specs.Prelude.{ℕ, cond, List, [], ◌++◌, map}
use Rattle.figures.specs.Text.{codes}
use Rattle.figures.specs.Decimal.{decimal_of}
use Rattle.figures.specs.Pointing.{shown, caret_text}
use Rattle.words.specs.Reading.{fault_number}
use Rattle.lines.specs.Verdicts.{verdict_number, of_word, is_accepted}
use Rattle.lines.specs.Verdicts.{Verdict}

-- `line=4 refused=26`
abbrev pub number_text : ℕ → Verdict → List ℕ
number_text n v = codes "line=" ++ (decimal_of n ++ (codes " refused=" ++ decimal_of (verdict_number v)))

-- ` which=8 byte=14`
abbrev pub rule_text : Verdict → List ℕ
rule_text v = of_word (λ fault byte. codes " which=" ++ (decimal_of (fault_number fault) ++ (codes " byte=" ++ decimal_of byte))) [] v

abbrev pub under_text : Verdict → List ℕ
under_text v = of_word (λ fault byte. caret_text byte) [] v

-- the line's number among the lines, the verdict, and the line
abbrev pub why_text : ℕ → Verdict → List ℕ → List ℕ
why_text n v line = number_text n v ++ (rule_text v ++ (codes "\n" ++ (map shown line ++ (codes "\n" ++ under_text v))))

-- nothing is said of a line that is accepted
abbrev pub why_of : ℕ → Verdict → List ℕ → List ℕ
why_of n v line = cond (is_accepted v) [] (why_text n v line)
