-- A text shown with a caret under one of its bytes, as compilers point (request 104).
use Rattle.std.specs.Prelude.{ℕ, cond, List, ◌++◌, replicate}
use Rattle.figures.specs.Text.{codes, byte}
use Rattle.figures.specs.Bytes.{within}

-- bytes that aren't graphic are shown as `.`; a blank is shown as it is
abbrev pub shown : ℕ → ℕ
shown b = cond (within 32 126 b) b (byte ".")

-- a caret under the byte at that place, from 0, and LF
abbrev pub caret_text : ℕ → List ℕ
caret_text place = replicate place (byte " ") ++ codes "^\n"
