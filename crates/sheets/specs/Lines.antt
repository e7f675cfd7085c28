-- A part of a sheet: a line for each place, whatever is held there. How its lines are written and judged is one record.
use Rattle.std.specs.Prelude.{ℕ, zero, suc, ◌+◌, Bool, cond, ◌&&◌, List, [], ◌∷◌, ◌++◌, length, drop, Result, Ok, Err}
use Rattle.figures.specs.Bytes.{starts_with}

-- how the line of a place is written, what may be held there after what the lines before it hold, and what a line from the start of some bytes says
pub record LinesOf (A : Type 0) : Type 0 where
  pub write : ℕ → A → List ℕ
  pub may : List A → ℕ → A → Bool
  pub says : ℕ → List ℕ → A

-- the lines of what is held at the places from i on
unfoldable pub lines_by : {A : Type 0} → LinesOf A → ℕ → List A → List ℕ
lines_by l i [] = []
lines_by l i (x ∷ xs) = l.write i x ++ lines_by l (i + 1) xs

-- how far lines are right: to the place past the last, or to the start of the first wrong one
abbrev pub Came : Type 0
Came = Result ℕ ℕ

-- lines taken one after the other: how far they are right, and what they held; nothing where one is wrong
pub record Part (A : Type 0) : Type 0 where
  pub came : Came
  pub got : List A

abbrev pub wrong_at : {A : Type 0} → ℕ → Part A
wrong_at at = record { came = Err at; got = [] }

-- n lines from the place i on, which stand in the sheet from `at` on, after those that held `got`. A line is right where it is the line of what it
-- says, and that may be held there.
unfoldable pub part_by : {A : Type 0} → LinesOf A → ℕ → ℕ → ℕ → List ℕ → List A → Part A
part_by l zero i at rest got = record { came = Ok at; got = got }
part_by l (suc n) i at rest got =
    let x = l.says i rest in
    let line = l.write i x in
    cond (l.may got i x && starts_with line rest) (part_by l n (i + 1) (at + length line) (drop (length line) rest) (got ++ (x ∷ []))) (wrong_at at)
