-- A promise relates what goes into a function to all that comes out of it: its answer and whatever was lent, as it is then.
use Rattle.std.specs.Prelude.{◌≡◌}

-- "That any two outcomes meeting it are equal is itself proved": what is proved of each public function's promise
abbrev pub Determined : (In Out : Type 0) → (In → Out → Type 0) → Type 0
Determined In Out P = (i : In) (a b : Out) → P i a → P i b → a ≡ b
