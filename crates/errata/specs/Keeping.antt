-- How the code puts what the other file defines: a caret at a time.
use Rattle.std.specs.Prelude.{ℕ, ◌+◌, ◌-◌, cond, List, [], ◌++◌, ltb, replicate}
use Rattle.figures.specs.Text.{codes, byte}

abbrev pub mark_text : ℕ → ℕ → List ℕ
mark_text done place = cond (ltb place done) [] (replicate (place - done) (byte " ") ++ codes "^")

abbrev pub marked_to : ℕ → ℕ → ℕ
marked_to done place = cond (ltb place done) done (place + 1)
