-- Counts of what stands in a file, which has no known length.
use Rattle.std.specs.Prelude.{ℕ, ◌+◌, cond, ltb}

-- the largest count, at which counting stops; no file is that long
abbrev pub largest : ℕ
largest = 18446744073709551615

abbrev pub more_of : ℕ → ℕ
more_of n = cond (ltb n largest) (n + 1) n
