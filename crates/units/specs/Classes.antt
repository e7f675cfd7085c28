-- "The class of every three-digit index from 000 to 999 becomes one table of a thousand numbers whose rule is proved once" (request 101).
use Rattle.std.specs.Prelude.{ℕ, cond, ◌||◌, [], ◌∷◌}
use Rattle.figures.specs.Text.{byte}
use Rattle.figures.specs.Bytes.{within, among}

-- a class is a digit: 0 none, 1 number, 2 text, 3 numbered text
abbrev pub none : ℕ
none = byte "0"

abbrev pub number : ℕ
number = byte "1"

abbrev pub text : ℕ
text = byte "2"

abbrev pub numbered : ℕ
numbered = byte "3"

-- "330-336, 374, 521, 571-574 with a three-digit index .. 110-119 and 410-419 are index 11 or 41 with a block number"
abbrev pub class_of : ℕ → ℕ
class_of n =
    cond (within 330 336 n || (among n (374 ∷ []) || within 571 574 n)) number
    (cond (among n (521 ∷ [])) text
    (cond (within 110 119 n || within 410 419 n) numbered
    none))
