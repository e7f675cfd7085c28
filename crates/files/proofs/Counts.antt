-- As long as a count isn't the largest, one more is the next number.
use Prim.Native.Nat.{ℕ, ◌+◌, ◌<◌}
use mathlib.Core.Path.{◌≡◌}
use borrow.Author.Tests.{lt-ltb}
use Rattle.files.specs.Counting.{largest, more_of}

pub more_is : (n : ℕ) → n < largest → more_of n ≡ n + 1
more_is n h = rw (lt-ltb n largest h)
